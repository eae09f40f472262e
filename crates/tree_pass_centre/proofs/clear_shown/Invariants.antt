-- The rows from i on are passed: what is left of the marks, and what the positions hold.
use Prim.Native.Nat.{◌-◌}
use Rattle.marks.specs.Marks.{marked}
use Rattle.tree_pass_centre.proofs.SizePass.{Climbed}
use Rattle.tree_pass_centre.proofs.LightPass.{Left}
use Rattle.tree_pass_centre.proofs.clear_shown.Given as goal

abbrev pub invariant-loop-i : goal.invariant-loop-i
invariant-loop-i l = record {
  climbed : Climbed l.tree.parents.now l.tree.children.now (marked l.ins) l.tree.positions (l.tree.positions - 1) l.i l.sub;
  left : Left l.tree.parents.now l.tree.children.now (marked l.ins) l.initial.light l.s (l.tree.positions - 1) l.i l.light;
}
