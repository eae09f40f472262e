use mathlib.Core.Path.{refl}
use native.Mathlib.Omega.{arith}
use Rattle.plan.specs.Tie.{as_plan}
use Rattle.component.specs.Inner.{members}
use Rattle.component.proofs.Members.{degree_small, side_tree}
use Rattle.component.proofs.RangeLaws.{in_range, centre_inside, side_below, side_above}
use Rattle.component.proofs.Component.enter_side.Goals as goal

pub overflow_add-k : goal.overflow_add-k
overflow_add-k c =
    let a = c in
    let p = as_plan a.args.plan.now in
    let H = a.requires in
    record { fits = omega (arith, H.high, degree_small p H.surveyed.of.valid (members p a.args.self.now)) }

pub returns-then-plan-eq1 : goal.returns-then-plan-eq1
returns-then-plan-eq1 c =
    let a = c in
    let p = as_plan a.args.plan.now in
    let H = a.requires in
    side_tree p a.args.self.now c.if-plan-eq1.true H.surveyed.numbers a.args.k H.low H.surveyed.of (record { low = a.args.self.now.low; high = a.args.self.now.high; ports = c.only.new.m }) c.only.ensures

pub overflow_sub-self : goal.overflow_sub-self
overflow_sub-self c =
    let a = c in
    let p = as_plan a.args.plan.now in
    let H = a.requires in
    let R = in_range p a.args.self.now H.surveyed.of c.if-plan-eq1.false in
    omega (arith, (centre_inside p a.args.self.now R H.surveyed.three a.args.centre a.args.k H.at).0)

pub returns-then-k-eq1 : goal.returns-then-k-eq1
returns-then-k-eq1 c =
    let a = c in
    let p = as_plan a.args.plan.now in
    let H = a.requires in
    let R = in_range p a.args.self.now H.surveyed.of c.if-plan-eq1.false in
    side_below p a.args.self.now R H.surveyed.three a.args.centre a.args.k H.at _ c.if-k-eq1.true c.if-plan-eq1.false refl refl

pub overflow_add-self : goal.overflow_add-self
overflow_add-self c =
    let a = c in
    let p = as_plan a.args.plan.now in
    let H = a.requires in
    let R = in_range p a.args.self.now H.surveyed.of c.if-plan-eq1.false in
    record { fits = omega (arith, (centre_inside p a.args.self.now R H.surveyed.three a.args.centre a.args.k H.at).1, R.high, R.most) }

pub returns-else-k-eq1 : goal.returns-else-k-eq1
returns-else-k-eq1 c =
    let a = c in
    let p = as_plan a.args.plan.now in
    let H = a.requires in
    let R = in_range p a.args.self.now H.surveyed.of c.if-plan-eq1.false in
    side_above p a.args.self.now R H.surveyed.three a.args.centre a.args.k H.at H.low H.high _ c.if-k-eq1.false c.if-plan-eq1.false refl refl
