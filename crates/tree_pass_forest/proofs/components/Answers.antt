-- The three passes one after the other.
use Prim.Native.Nat.{◌-◌}
use native.Mathlib.Omega.{arith}
use Rattle.tree_pass_forest.proofs.ForestPass.{copy_marked, copy_bit, left_light, labels_below, none_at}
use Rattle.tree_pass_forest.proofs.components.Goals as goal

pub around-requires : goal.around-requires
around-requires c =
    let m = c.args.tree.now.most in
    (c.requires.0, omega (arith, m), omega (arith, m), none_at c.args.ins.now c.args.tree.now.positions c.requires.1 c.requires.2)

pub copied-sub-requires : goal.copied-sub-requires
copied-sub-requires c = (c.requires.0, c.args.tree.now.most)

pub sizes-requires : goal.sizes-requires
sizes-requires c =
    let m = c.args.tree.now.most in
    (c.requires.0, omega (arith, m), copy_bit c.args.ins.now c.copied-sub.result c.args.tree.now.positions c.copied-sub.ensures c.requires.1)

pub clear_shown-requires : goal.clear_shown-requires
clear_shown-requires c =
    let t = c.args.tree.now in
    let m = t.most in (
      c.requires.0,
      omega (arith, m),
      omega (arith, m),
      omega (arith, m),
      labels_below t.parents.now t.children.now c.args.ins.now c.around.new.out t.positions (t.positions - 1) t.positions t.grows (omega arith) c.around.ensures.labels,
    )

pub returns-clause-light : goal.returns-clause-light
returns-clause-light c =
    let t = c.args.tree.now in
    left_light t.parents.now t.children.now c.args.ins.now c.around.new.out c.sizes.new.sub c.copied-sub.result c.clear_shown.new.light t.positions (t.positions - 1)
    t.grows c.requires.2 (copy_marked c.args.ins.now c.copied-sub.result t.positions c.copied-sub.ensures c.requires.2) c.around.ensures.labels c.sizes.ensures c.clear_shown.ensures
