-- The rows from i on are passed.
use Prim.Native.Nat.{◌-◌}
use Rattle.marks.specs.Marks.{marked}
use Rattle.tree_pass_centre.proofs.SizePass.{Climbed}
use Rattle.tree_pass_forest.proofs.sizes.Given as goal

abbrev pub invariant-loop-i : goal.invariant-loop-i
invariant-loop-i l = Climbed l.tree.parents.now l.tree.children.now (marked l.ins) l.tree.positions (l.tree.positions - 1) l.i l.sub
