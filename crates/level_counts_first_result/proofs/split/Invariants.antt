-- No place before this one is split.
use mathlib.Core.Path.{◌≡◌}
use mathlib.Core.Bool.{false}
use Prim.Native.Nat.{ℕ, ◌<◌}
use Rattle.level_counts_first_result.specs.Inner.{split_at_place}
use Rattle.level_counts_first_result.proofs.split.Given as goal

abbrev pub invariant-loop-place : goal.invariant-loop-place
invariant-loop-place l = (i : ℕ) → i < l.place → split_at_place l.heard l.fn.c.degree l.fn.c.t i ≡ false
