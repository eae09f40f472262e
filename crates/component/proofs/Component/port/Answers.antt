use native.Mathlib.Omega.{arith}
use Rattle.plan.specs.Tie.{as_plan}
use Rattle.component.proofs.Members.{tree_most, port_tree}
use Rattle.component.proofs.RangeLaws.{in_range, port_code}
use Rattle.component.proofs.Component.port.Goals as goal

pub bounds-self-x : goal.bounds-self-x
bounds-self-x c =
    let a = c in
    let p = as_plan a.args.plan.now in
    let O = a.requires.0.of in
    omega (arith, O.below a.args.x a.requires.1, tree_most p O.valid c.if-plan-eq1.true)

pub overflow_sub-result : goal.overflow_sub-result
overflow_sub-result c =
    let a = c in
    let p = as_plan a.args.plan.now in
    (port_tree p a.args.self.now c.if-plan-eq1.true a.requires.0.numbers a.args.x a.requires.1).0

pub returns-then-plan-eq1 : goal.returns-then-plan-eq1
returns-then-plan-eq1 c =
    let a = c in
    let p = as_plan a.args.plan.now in
    (port_tree p a.args.self.now c.if-plan-eq1.true a.requires.0.numbers a.args.x a.requires.1).1

pub midpoint-requires : goal.midpoint-requires
midpoint-requires c =
    let a = c in
    let p = as_plan a.args.plan.now in
    (in_range p a.args.self.now a.requires.0.of c.if-plan-eq1.false).order

pub returns : goal.returns
returns c =
    let a = c in
    let p = as_plan a.args.plan.now in
    port_code p a.args.self.now (in_range p a.args.self.now a.requires.0.of c.if-plan-eq1.false) a.requires.0.three a.args.x c.midpoint.result c.range_port.result a.requires.1 c.midpoint.ensures c.range_port.ensures
