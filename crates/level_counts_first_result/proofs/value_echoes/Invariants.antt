-- The union so far.
use mathlib.Core.Path.{◌≡◌}
use Prim.Native.Nat.{◌/◌, ◌%◌, ◌^◌}
use lib.Dec.{eqb}
use lib.ListN.{get_or}
use Rattle.senders.specs.Senders.{union_over}
use Rattle.level_counts_first_result.proofs.value_echoes.Given as goal

abbrev pub invariant-loop-v : goal.invariant-loop-v
invariant-loop-v l = l.all ≡ union_over (λ v. eqb ((v / 2 ^ l.place) % 2) l.digit) (λ v. get_or l.heard v 0) l.v
