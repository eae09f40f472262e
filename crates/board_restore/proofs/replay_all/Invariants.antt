-- `board_restore::replay_all` meets its contract: the records so far are replayed, and their messages written one after the other.
use Prim.Native.Nat.{◌-◌}
use Rattle.party.specs.Tie.{as_party}
use Rattle.board_restore.proofs.Replaying.{Replaying}
use Rattle.board_restore.proofs.replay_all.Given as goal

abbrev pub invariant-loop-at : goal.invariant-loop-at
invariant-loop-at l =
    Replaying (as_party l.initial.party) l.journal l.end l.initial.out (as_party l.party) l.chart l.rules l.sent l.at l.out

abbrev pub decreases-loop-at : goal.decreases-loop-at
decreases-loop-at l = l.end - l.at
