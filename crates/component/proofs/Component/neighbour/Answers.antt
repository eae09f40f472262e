use Prim.Native.Nat.{ℕ, ◌-◌, ◌≤◌}
use mathlib.Core.Path.{sym, ap, ◌∙◌, subst}
use native.Mathlib.Omega.{arith}
use Rattle.tree.specs.Component.{centre, degree, neighbour}
use Rattle.edges.specs.Rows.{rows}
use Rattle.marks.specs.Marks.{numbered}
use Rattle.plan.specs.Tie.{as_plan}
use Rattle.component.proofs.Members.{tree_most, of_tree, as_tree, ports_tree, neighbour_most}
use Rattle.component.proofs.RangeLaws.{in_range, centre_inside, neighbour_below, neighbour_above}
use Rattle.component.proofs.Component.neighbour.Goals as goal

pub rows_of-tree-requires : goal.rows_of-tree-requires
rows_of-tree-requires c = (c.requires.0, c.requires.1.surveyed.of.valid, c.if-plan-eq1.true)

pub neighbour-requires : goal.neighbour-requires
neighbour-requires c =
    let a = c in
    let p = as_plan a.args.plan.now in
    let H = a.requires.1 in
    let k = c.if-plan-eq1.true in
    let O = of_tree p a.args.self.now k a.requires.0 H.surveyed.of in
    let e = c.rows_of-tree.ensures in
    rw (c.from.ensures, e.0, e.1, e.2)
    (O, ports_tree p a.args.self.now k H.surveyed.numbers, omega (arith, O.most), H.at ∙ as_tree p a.args.self.now k (λ E S. centre E p.count S), H.low, subst (λ (d : ℕ). a.args.k ≤ d) (as_tree p a.args.self.now k (λ E S. degree E p.count S)) H.high)

pub overflow_cast-result : goal.overflow_cast-result
overflow_cast-result c =
    let a = c in
    let p = as_plan a.args.plan.now in
    let l = neighbour_most (rows p.parent p.child (p.count - 1)) p.count (numbered a.args.self.now.ports) c.from.result in
    let e = c.rows_of-tree.ensures in
    let n = rw (e.0, e.1, e.2) at c.neighbour.ensures in
    record { fits = omega (arith, n, tree_most p a.requires.1.surveyed.of.valid c.if-plan-eq1.true) }

pub returns-then-plan-eq1 : goal.returns-then-plan-eq1
returns-then-plan-eq1 c =
    let a = c in
    let p = as_plan a.args.plan.now in
    let e = c.rows_of-tree.ensures in
    (rw (e.0, e.1, e.2) at c.neighbour.ensures) ∙ ap (λ (k : ℕ). neighbour (rows p.parent p.child (p.count - 1)) p.count (numbered a.args.self.now.ports) k) c.from.ensures ∙ sym (as_tree p a.args.self.now c.if-plan-eq1.true (λ E S. neighbour E p.count S a.args.k))

pub overflow_sub-result : goal.overflow_sub-result
overflow_sub-result c =
    let a = c in
    let p = as_plan a.args.plan.now in
    let H = a.requires.1 in
    let R = in_range p a.args.self.now H.surveyed.of c.if-plan-eq1.false in
    omega (arith, (centre_inside p a.args.self.now R H.surveyed.three a.args.centre a.args.k H.at).0)

pub returns-then-k-eq1 : goal.returns-then-k-eq1
returns-then-k-eq1 c =
    let a = c in
    let p = as_plan a.args.plan.now in
    let H = a.requires.1 in
    let R = in_range p a.args.self.now H.surveyed.of c.if-plan-eq1.false in
    neighbour_below p a.args.self.now R H.surveyed.three a.args.centre a.args.k H.at c.if-k-eq1.true

pub overflow_add-result : goal.overflow_add-result
overflow_add-result c =
    let a = c in
    let p = as_plan a.args.plan.now in
    let H = a.requires.1 in
    let R = in_range p a.args.self.now H.surveyed.of c.if-plan-eq1.false in
    record { fits = omega (arith, (centre_inside p a.args.self.now R H.surveyed.three a.args.centre a.args.k H.at).1, R.high, R.most) }

pub returns : goal.returns
returns c =
    let a = c in
    let p = as_plan a.args.plan.now in
    let H = a.requires.1 in
    let R = in_range p a.args.self.now H.surveyed.of c.if-plan-eq1.false in
    neighbour_above p a.args.self.now R H.surveyed.three a.args.centre a.args.k H.at H.low H.high c.if-k-eq1.false
