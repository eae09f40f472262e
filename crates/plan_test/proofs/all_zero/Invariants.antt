-- `plan_test::all_zero` meets its contract. The loop's invariant: whether all is 0 is decided by what was passed and what is left.
use mathlib.Core.Path.{◌≡◌}
use mathlib.Core.Bool.{◌&&◌}
use lib.Dec.{eqb}
use lib.ListN.{drop}
use Rattle.plan.specs.Valid.{all_zero}
use Rattle.plan_test.proofs.all_zero.Given as goal

abbrev pub invariant-loop-i : goal.invariant-loop-i
invariant-loop-i l = all_zero (drop l.from l.l) ≡ eqb l.all 0 && all_zero (drop l.i l.l)
