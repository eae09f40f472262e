-- The neighbour is the other end of the one row at the centre whose number it has.
use mathlib.Core.Path.{◌≡◌, sym, ◌∙◌, subst}
use Prim.Native.Nat.{ℕ, ◌+◌, ◌-◌}
use native.Mathlib.Numerals.{add-one}
use native.Mathlib.Omega.{arith}
use Rattle.tree.specs.Component.{neighbour}
use Rattle.marks.specs.Marks.{numbered}
use Rattle.component_tree.specs.Inner.{tree}
use Rattle.component_tree.proofs.Passes.{Sought, sought_start, sought_more}
use Rattle.component_tree.proofs.TreeLaws.{degree_most, neighbour_beside, neighbour_number, neighbour_one}
use Rattle.component_tree.proofs.neighbour.Goals as goal

pub loop-i-init : goal.loop-i-init
loop-i-init c =
    let t = c.args.tree.now in
    sought_start t.parents.now t.children.now c.args.c (neighbour (tree t.parents.now t.children.now t.positions) t.positions (numbered c.args.ports.now) c.args.k) t.positions

pub overflow_add-k : goal.overflow_add-k
overflow_add-k c = record { fits = omega (arith, c.requires.5, degree_most c.requires.0, c.requires.0.most) }

pub loop-i-preserved : goal.loop-i-preserved
loop-i-preserved c =
    let t = c.args.tree.now in
    let o = c.loop-i in
    let r = c.row-p.ensures in
    sought_more t.parents.now t.children.now c.args.ports.now c.args.c (c.args.k + 1) (neighbour (tree t.parents.now t.children.now t.positions) t.positions (numbered c.args.ports.now) c.args.k) (t.positions - 1)
    (neighbour_number t.parents.now t.children.now t.positions c.args.ports.now c.requires.0 c.requires.1 c.args.c c.requires.3 c.args.k c.requires.4 c.requires.5 ∙ sym (add-one c.args.k))
    (λ x a e. neighbour_one t.parents.now t.children.now t.positions c.args.ports.now c.requires.0 c.requires.1 c.args.c c.requires.3 c.args.k c.requires.4 c.requires.5 x a (e ∙ add-one c.args.k))
    o.i o.w c.beside-w.result c.row-p.result.0 c.row-p.result.1 c.loop-i-test.true r.parent.0 r.child.0 c.beside-w.ensures o.invariant

pub returns : goal.returns
returns c =
    let t = c.args.tree.now in
    let o = c.loop-i in
    let e : o.i ≡ t.positions - 1 = omega arith in
    subst (λ (z : ℕ). Sought t.parents.now t.children.now c.args.c (neighbour (tree t.parents.now t.children.now t.positions) t.positions (numbered c.args.ports.now) c.args.k) z o.w) e o.invariant
    (neighbour_beside t.parents.now t.children.now t.positions c.args.ports.now c.requires.0 c.requires.1 c.args.c c.requires.3 c.args.k c.requires.4 c.requires.5)
