-- One more row is passed.
use Prim.Native.Nat.{◌-◌}
use native.Mathlib.Omega.{arith}
use Rattle.tree_pass_forest.proofs.ForestPass.{left_start, left_more}
use Rattle.tree_pass_forest.proofs.clear_shown.Goals as goal

pub loop-i-init : goal.loop-i-init
loop-i-init c =
    let t = c.args.tree.now in
    left_start t.parents.now t.children.now c.args.ins.now c.args.labels.now c.args.sub.now c.args.light.now

pub loop-i-preserved : goal.loop-i-preserved
loop-i-preserved c =
    let t = c.args.tree.now in
    let o = c.loop-i in
    let r = c.row-p.ensures in
    left_more t.parents.now t.children.now c.args.ins.now c.args.labels.now c.args.sub.now c.args.light.now t.positions (t.positions - 1) o.i o.light c.clear.new.light c.from-s.result c.row-p.result.0 c.row-p.result.1
    t.grows (omega arith) c.loop-i-test.true r.parent.0 r.child.0 (cc) c.clear.ensures o.invariant
