use mathlib.Core.Path.{refl, subst}
use native.Mathlib.Omega.{arith}
use Rattle.component_tree.specs.Inner.{OfTree}
use Rattle.component_tree.proofs.TreeLaws.{tree_centre, centre_below, degree_most}
use Rattle.plan.specs.Tie.{as_plan}
use Rattle.component.proofs.Members.{of_tree, marks_are, finds_tree}
use Rattle.component.proofs.RangeLaws.{in_range, finds_range}
use Rattle.component.proofs.Component.survey_ports.Goals as goal

pub rows_of-tree-requires : goal.rows_of-tree-requires
rows_of-tree-requires c = (c.requires.0, c.requires.1.valid, c.if-plan-eq1.true)

pub centre-c-requires : goal.centre-c-requires
centre-c-requires c = c.requires.3.most c.if-plan-eq1.true

pub number-d-requires : goal.number-d-requires
number-d-requires c =
    let a = c in
    let p = as_plan a.args.plan.now in
    let k = c.if-plan-eq1.true in
    let e = c.rows_of-tree.ensures in
    let O = subst (OfTree p.parent p.child p.count) (marks_are p a.args.self.now k a.requires.3) (of_tree p a.args.self.now k a.requires.0 a.requires.1) in
    let m = rw (e.0, e.1, e.2) at c.centre-c.ensures in
    rw (e.0, e.1, e.2) (O, a.requires.3.most k, tree_centre O m)

pub overflow_cast-result : goal.overflow_cast-result
overflow_cast-result c =
    let a = c in
    let p = as_plan a.args.plan.now in
    let k = c.if-plan-eq1.true in
    let e = c.rows_of-tree.ensures in
    let O = subst (OfTree p.parent p.child p.count) (marks_are p a.args.self.now k a.requires.3) (of_tree p a.args.self.now k a.requires.0 a.requires.1) in
    let m = rw (e.0, e.1, e.2) at c.centre-c.ensures in
    record { fits = omega (arith, centre_below O (tree_centre O m), O.most) }

pub overflow_cast-result-then-plan-eq1 : goal.overflow_cast-result-then-plan-eq1
overflow_cast-result-then-plan-eq1 c =
    let a = c in
    let p = as_plan a.args.plan.now in
    let k = c.if-plan-eq1.true in
    let e = c.rows_of-tree.ensures in
    let O = subst (OfTree p.parent p.child p.count) (marks_are p a.args.self.now k a.requires.3) (of_tree p a.args.self.now k a.requires.0 a.requires.1) in
    let d = rw (e.0, e.1, e.2) at c.number-d.ensures.0 in
    record { fits = omega (arith, d, degree_most O, O.most) }

pub returns-then-plan-eq1 : goal.returns-then-plan-eq1
returns-then-plan-eq1 c =
    let a = c in
    let p = as_plan a.args.plan.now in
    let k = c.if-plan-eq1.true in
    let e = c.rows_of-tree.ensures in
    let O = subst (OfTree p.parent p.child p.count) (marks_are p a.args.self.now k a.requires.3) (of_tree p a.args.self.now k a.requires.0 a.requires.1) in
    let m = rw (e.0, e.1, e.2) at c.centre-c.ensures in
    let d = rw (e.0, e.1, e.2) at c.number-d.ensures in
    finds_tree p a.args.self.now k a.requires.3 (record { low = a.args.self.now.low; high = a.args.self.now.high; ports = c.number-d.new.ports }) _ (tree_centre O m) d.0 d.1

pub midpoint-requires : goal.midpoint-requires
midpoint-requires c =
    let a = c in
    let p = as_plan a.args.plan.now in
    (in_range p a.args.self.now a.requires.1 c.if-plan-eq1.false).order

pub returns : goal.returns
returns c =
    let a = c in
    let p = as_plan a.args.plan.now in
    finds_range p a.args.self.now (in_range p a.args.self.now a.requires.1 c.if-plan-eq1.false) a.requires.2 c.if-plan-eq1.false _ c.midpoint.ensures refl
