-- One more row is passed.
use Prim.Native.Nat.{◌-◌}
use native.Mathlib.Omega.{arith}
use Rattle.marks.specs.Marks.{marked}
use Rattle.tree_pass.proofs.LabelPass.{labelled_start, labelled_more}
use Rattle.tree_pass.proofs.NearPass.{near_start, near_more}
use Rattle.tree_pass.proofs.around.Goals as goal

pub loop-i-init : goal.loop-i-init
loop-i-init c =
    let t = c.args.tree.now in
    record {
      labelled = labelled_start t.parents.now t.children.now (marked c.args.ins.now) t.positions c.fresh.new.out c.fresh.ensures;
      near = near_start t.parents.now t.children.now c.args.ins.now c.args.near.now c.args.c;
    }

pub loop-i-preserved : goal.loop-i-preserved
loop-i-preserved c =
    let t = c.args.tree.now in
    let o = c.loop-i in
    let R = t.grows in
    let l = c.loop-i-test.true in
    let r = c.row-p.ensures in
    record {
      labelled = labelled_more t.parents.now t.children.now c.args.ins.now t.positions (t.positions - 1) o.i o.out c.pass.new.out _ _ R (omega arith) l r.parent.0 r.child.0 c.pass.ensures.labels o.invariant.labelled;
      near = near_more t.parents.now t.children.now c.args.ins.now c.args.near.now c.args.c t.positions (t.positions - 1) o.i o.near c.pass.new.near _ _ R (omega arith) l r.parent.0 r.child.0 c.pass.ensures.near o.invariant.near;
    }
