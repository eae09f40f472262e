-- How many pieces may still come.
use Rattle.varint.proofs.+write_pieces.Given as goal

abbrev pub decreases-write_pieces : goal.decreases-write_pieces
decreases-write_pieces l = l.left
