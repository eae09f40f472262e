use mathlib.Core.Path.{◌∙◌}
use Rattle.plan.specs.Tie.{as_plan}
use Rattle.component.proofs.Members.{number_read, between, before}
use Rattle.component.proofs.Component.contains.Goals as goal

pub returns-then-plan-eq1 : goal.returns-then-plan-eq1
returns-then-plan-eq1 c =
    let a = c in
    let p = as_plan a.args.plan.now in
    c.has_number.ensures ∙ number_read p a.args.self.now a.args.x c.if-plan-eq1.true

pub returns-then-self-x : goal.returns-then-self-x
returns-then-self-x c =
    let a = c in
    let p = as_plan a.args.plan.now in
    between p a.args.self.now a.args.x c.if-plan-eq1.false c.if-self-x.true

pub returns-else-self-x : goal.returns-else-self-x
returns-else-self-x c =
    let a = c in
    let p = as_plan a.args.plan.now in
    before p a.args.self.now a.args.x c.if-plan-eq1.false c.if-self-x.false
