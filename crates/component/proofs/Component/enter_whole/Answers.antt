use mathlib.Core.Path.{refl}
use native.Mathlib.Omega.{arith}
use Rattle.base.specs.Limits.{max_vertices}
use Rattle.plan_laws.proofs.Shape.{shape}
use Rattle.plan.specs.Tie.{as_plan}
use Rattle.component.proofs.Members.{tree_most, whole_tree, whole_range}
use Rattle.component.proofs.Component.enter_whole.Goals as goal

pub fill-requires : goal.fill-requires
fill-requires c =
    let a = c in
    let p = as_plan a.args.plan.now in
    omega (arith, tree_most p a.requires c.if-plan-eq1.true)

pub returns-then-plan-eq1 : goal.returns-then-plan-eq1
returns-then-plan-eq1 c =
    let a = c in
    let p = as_plan a.args.plan.now in
    whole_tree p (record { low = a.args.self.now.low; high = a.args.self.now.high; ports = c.fill.new.m }) max_vertices c.if-plan-eq1.true c.fill.ensures

pub overflow_sub-self : goal.overflow_sub-self
overflow_sub-self c =
    let a = c in
    let p = as_plan a.args.plan.now in
    (shape p a.requires).some

pub returns-else-plan-eq1 : goal.returns-else-plan-eq1
returns-else-plan-eq1 c =
    let a = c in
    let p = as_plan a.args.plan.now in
    whole_range p _ a.requires c.if-plan-eq1.false refl refl
