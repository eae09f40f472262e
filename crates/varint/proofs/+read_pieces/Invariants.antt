-- How many pieces may still come.
use Rattle.varint.proofs.+read_pieces.Given as goal

abbrev pub decreases-read_pieces : goal.decreases-read_pieces
decreases-read_pieces l = l.left
