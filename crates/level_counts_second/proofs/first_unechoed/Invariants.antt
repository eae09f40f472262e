-- No value before v is to be echoed.
use mathlib.Core.Path.{◌≡◌}
use mathlib.Core.Bool.{false}
use Prim.Native.Nat.{ℕ, ◌<◌}
use Rattle.level_counts_second.specs.Inner.{unechoed}
use Rattle.level_counts_second.proofs.first_unechoed.Given as goal

abbrev pub invariant-loop-v : goal.invariant-loop-v
invariant-loop-v l = (w : ℕ) → w < l.v → unechoed l.heard l.echoed l.fn.c.t w ≡ false
