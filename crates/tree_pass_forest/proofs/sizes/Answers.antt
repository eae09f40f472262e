-- One more row is passed, the latest first.
use Prim.Native.Nat.{◌-◌}
use native.Mathlib.Omega.{arith}
use Rattle.marks.specs.Marks.{marked}
use Rattle.tree_pass_centre.proofs.SizePass.{climbed_start, climbed_more, climbed_room}
use Rattle.tree_pass_forest.proofs.ForestPass.{climbed_end}
use Rattle.tree_pass_forest.proofs.sizes.Goals as goal

pub loop-i-init : goal.loop-i-init
loop-i-init c =
    let t = c.args.tree.now in
    climbed_start t.parents.now t.children.now c.args.ins.now t.positions (t.positions - 1) c.args.sub.now t.grows c.requires.2

pub raise-requires : goal.raise-requires
raise-requires c =
    let t = c.args.tree.now in
    let o = c.loop-i in
    let r = c.row-p.ensures in
    let k = climbed_room t.parents.now t.children.now c.args.ins.now t.positions (t.positions - 1) o.i o.sub _ _ t.grows t.most c.loop-i-test.true (omega arith) o.invariant r.parent.0 r.child.0 in
    (omega arith, omega arith, omega arith, omega arith, k)

pub loop-i-preserved : goal.loop-i-preserved
loop-i-preserved c =
    let t = c.args.tree.now in
    let o = c.loop-i in
    let r = c.row-p.ensures in
    climbed_more t.parents.now t.children.now c.args.ins.now t.positions (t.positions - 1) o.i o.sub c.raise.new.sub _ _
    t.grows (omega arith) c.loop-i-test.true (omega arith) r.parent.0 r.child.0 c.raise.ensures o.invariant

pub returns : goal.returns
returns c =
    let t = c.args.tree.now in
    let o = c.loop-i in
    climbed_end t.parents.now t.children.now (marked c.args.ins.now) t.positions (t.positions - 1) o.i o.sub (omega arith) o.invariant
