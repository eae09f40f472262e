-- No value before v has k senders.
use mathlib.Core.Path.{◌≡◌}
use mathlib.Core.Bool.{false}
use Prim.Native.Nat.{ℕ, ◌<◌}
use Rattle.level_counts.specs.Choice.{reached}
use Rattle.level_counts.proofs.Counting.first_value.Given as goal

abbrev pub invariant-loop-v : goal.invariant-loop-v
invariant-loop-v l = (w : ℕ) → w < l.v → reached l.heard l.from l.k w ≡ false
