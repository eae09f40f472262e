-- One more row is passed, the latest first.
use mathlib.Core.Path.{refl}
use Prim.Native.Nat.{◌-◌}
use native.Mathlib.Omega.{arith}
use Rattle.marks.specs.Marks.{marked}
use Rattle.tree_pass_centre.proofs.SizePass.{climbed_start, climbed_more, climbed_room}
use Rattle.tree_pass_centre.proofs.LightPass.{left_more, left_end}
use Rattle.tree_pass_centre.proofs.clear_shown.Goals as goal

pub loop-i-init : goal.loop-i-init
loop-i-init c =
    let t = c.args.tree.now in
    record { climbed = climbed_start t.parents.now t.children.now c.args.ins.now t.positions (t.positions - 1) c.args.sub.now t.grows c.requires.3; left = λ x. refl }

pub raise-requires : goal.raise-requires
raise-requires c =
    let t = c.args.tree.now in
    let o = c.loop-i in
    let r = c.row-p.ensures in
    let k = climbed_room t.parents.now t.children.now c.args.ins.now t.positions (t.positions - 1) o.i o.sub _ _ t.grows t.most c.loop-i-test.true (omega arith) o.invariant.climbed r.parent.0 r.child.0 in
    (omega arith, omega arith, omega arith, omega arith, k)

pub loop-i-preserved : goal.loop-i-preserved
loop-i-preserved c =
    let t = c.args.tree.now in
    let o = c.loop-i in
    let R = t.grows in
    let l = c.loop-i-test.true in
    let r = c.row-p.ensures in
    record {
      climbed = climbed_more t.parents.now t.children.now c.args.ins.now t.positions (t.positions - 1) o.i o.sub c.raise.new.sub _ _
          R (omega arith) l (omega arith) r.parent.0 r.child.0 c.raise.ensures o.invariant.climbed;
      left = left_more t.parents.now t.children.now c.args.ins.now o.sub c.args.light.now c.args.s t.positions (t.positions - 1) o.i o.light c.clear.new.light _ _
          R (omega arith) l (omega arith) r.parent.0 r.child.0 o.invariant.climbed c.clear.ensures o.invariant.left;
    }

pub returns : goal.returns
returns c =
    let t = c.args.tree.now in
    let o = c.loop-i in
    left_end t.parents.now t.children.now (marked c.args.ins.now) c.args.light.now c.args.s (t.positions - 1) o.i o.light (omega arith) o.invariant.left
