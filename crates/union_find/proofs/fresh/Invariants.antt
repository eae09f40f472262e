-- `union_find::fresh` meets its contract. The loop's invariant: each position passed is its own root.
use Rattle.std.proofs.Common.{◌≡◌, ℕ, ◌<◌, get_or}
use Rattle.union_find.proofs.fresh.Given as goal

abbrev pub invariant-loop-x : goal.invariant-loop-x
invariant-loop-x l = (y : ℕ) → y < l.x → get_or l.above-items y 0 ≡ y
