-- `plan_messages::range_levels` meets its contract: each turn halves.
use mathlib.Core.Path.{◌≡◌}
use Prim.Native.Nat.{◌+◌, ◌≤◌}
use Rattle.base.specs.Limits.{sending_levels, max_width}
use Rattle.plan_levels.specs.Inner.{halvings}
use Rattle.plan_messages.proofs.range_levels.Given as goal

abbrev pub invariant-loop-s : goal.invariant-loop-s
invariant-loop-s l = (l.s ≤ max_width + 1) × (l.k + halvings sending_levels l.s ≡ halvings sending_levels l.positions)

abbrev pub decreases-loop-s : goal.decreases-loop-s
decreases-loop-s l = l.s
