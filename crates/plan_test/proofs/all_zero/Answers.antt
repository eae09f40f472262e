-- `plan_test::all_zero` meets its contract. The loop's invariant: whether all is 0 is decided by what was passed and what is left.
use mathlib.Core.Path.{sym, ◌∙◌}
use native.Mathlib.Omega.{arith}
use Rattle.plan_test.proofs.Noted.{zero_start, zero_next, zero_end}
use Rattle.plan_test.proofs.all_zero.Goals as goal

pub loop-i-init : goal.loop-i-init
loop-i-init c = zero_start _

pub loop-i-preserved : goal.loop-i-preserved
loop-i-preserved c =
    let o = c.loop-i in
    o.invariant ∙ zero_next _ o.all o.i c.loop-i-test.true

pub returns : goal.returns
returns c =
    let o = c.loop-i in
    zero_end _ o.all o.i (omega arith) ∙ sym o.invariant
