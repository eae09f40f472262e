-- `board_restore::scan_journal` meets its contract: the records so far pass.
use Prim.Native.Nat.{◌-◌}
use lib.ListN.{length}
use Rattle.party.specs.Party.{Party}
use Rattle.board_laws.specs.Inner.{New}
use Rattle.board_restore.specs.Inner.{OfVote}
use Rattle.board_restore.proofs.Scans.{Scanning}
use Rattle.board_restore.proofs.scan_journal.Given as goal

abbrev pub invariant-loop-at : goal.invariant-loop-at
invariant-loop-at l = (p : Party) → New p → OfVote l.v l.count p → Scanning p l.journal l.started l.at

abbrev pub decreases-loop-at : goal.decreases-loop-at
decreases-loop-at l = length l.journal - l.at
