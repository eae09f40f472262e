-- `plan_cycle::list_marked` meets its contract.
use native.Mathlib.Omega.{arith}
use Rattle.plan_cycle.proofs.Marked.{lists_none, lists_on, lists_off, lists_all}
use Rattle.plan_cycle.proofs.list_marked.Goals.{then-marks-i-eq1, else-marks-i-eq1}
use Rattle.plan_cycle.proofs.list_marked.Goals as goal

pub loop-i-init : goal.loop-i-init
loop-i-init c = lists_none c.no_cycle-cycle.ensures

pub loop-i-preserved : goal.loop-i-preserved
loop-i-preserved c =
    let h = c.loop-i.invariant in
    elim c.if-marks-i-eq1.branch [ then-marks-i-eq1 w ↦ lists_on h w.if-marks-i-eq1.true (omega arith) w.cycle-is | else-marks-i-eq1 w ↦ lists_off h w.if-marks-i-eq1.false w.cycle-is ]

pub returns : goal.returns
returns c = lists_all c.loop-i.invariant _ (omega arith)
