-- No side before k has t+1 senders.
use mathlib.Core.Path.{◌≡◌}
use mathlib.Core.Bool.{false}
use Prim.Native.Nat.{ℕ, ◌+◌, ◌<◌}
use Rattle.level_counts.specs.Places.{sides}
use Rattle.level_counts.specs.Choice.{reached}
use Rattle.level_counts_leave.proofs.side.Given as goal

abbrev pub invariant-loop-k : goal.invariant-loop-k
invariant-loop-k l = (i : ℕ) → i + 1 < l.k → reached l.heard sides (l.fn.c.t + 1) (i + 1) ≡ false
