-- The marks left of the set's are those that no row shows.
use Prim.Native.Nat.{◌-◌}
use native.Mathlib.Omega.{arith}
use Rattle.marks.proofs.Marks.{mark_bit}
use Rattle.tree_pass_centre.proofs.LightPass.{left_unshown}
use Rattle.tree_pass_centre.proofs.centre.Goals as goal

pub clear_shown-requires : goal.clear_shown-requires
clear_shown-requires c = (omega (arith, c.args.tree.now.most), omega (arith, c.args.tree.now.most), omega (arith, c.args.tree.now.most), λ x l. mark_bit c.args.ins.now x (c.requires x))

pub returns : goal.returns
returns c =
    let t = c.args.tree.now in
    left_unshown t.parents.now t.children.now c.args.ins.now c.clear_shown.new.light c.count-s.result t.positions (t.positions - 1) c.first.result
    c.count-s.ensures c.clear_shown.ensures c.first.ensures
