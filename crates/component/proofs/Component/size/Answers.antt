use native.Mathlib.Omega.{arith}
use Rattle.marks.specs.Marks.{marked}
use Rattle.plan.specs.Tie.{as_plan}
use Rattle.component.proofs.Members.{tree_most, count_small, size_tree}
use Rattle.component.proofs.RangeLaws.{in_range, size_code}
use Rattle.component.proofs.Component.size.Goals as goal

pub count-requires : goal.count-requires
count-requires c =
    let a = c in
    let p = as_plan a.args.plan.now in
    let m = tree_most p a.requires.0.valid c.if-plan-eq1.true in
    (omega arith, m)

pub overflow_cast-result : goal.overflow_cast-result
overflow_cast-result c =
    let a = c in
    let p = as_plan a.args.plan.now in
    record { fits = omega (arith, count_small p a.requires.0.valid (marked a.args.self.now.ports) c.count.result c.if-plan-eq1.true c.count.ensures) }

pub returns-then-plan-eq1 : goal.returns-then-plan-eq1
returns-then-plan-eq1 c =
    let a = c in
    let p = as_plan a.args.plan.now in
    size_tree p a.args.self.now c.if-plan-eq1.true a.requires.1 c.count.result c.count.ensures

pub overflow_sub-result : goal.overflow_sub-result
overflow_sub-result c =
    let a = c in
    let p = as_plan a.args.plan.now in
    (in_range p a.args.self.now a.requires.0 c.if-plan-eq1.false).order

pub overflow_add-result : goal.overflow_add-result
overflow_add-result c =
    let a = c in
    let p = as_plan a.args.plan.now in
    let r = in_range p a.args.self.now a.requires.0 c.if-plan-eq1.false in
    record { fits = omega (arith, r.high, r.most, r.order) }

pub returns : goal.returns
returns c =
    let a = c in
    let p = as_plan a.args.plan.now in
    size_code p a.args.self.now (in_range p a.args.self.now a.requires.0 c.if-plan-eq1.false)
