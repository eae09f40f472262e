-- `plan_test::rows_fit` meets its contract. The loop's invariant: the first i rows fit and are noted.
use mathlib.Core.Path.{◌≡◌}
use mathlib.Core.Bool.{true}
use Rattle.edges.specs.Rows.{rows}
use Rattle.plan_test.specs.Inner.{Noted}
use Rattle.plan.specs.Valid.{rows_fit}
use Rattle.plan_test.proofs.rows_fit.Given as goal

abbrev pub invariant-loop-i : goal.invariant-loop-i
invariant-loop-i l = (rows_fit l.v l.ps l.cs l.i ≡ true) × Noted l.v (rows l.ps l.cs l.i) l.seen l.many
