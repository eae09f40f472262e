-- Labels and marks are those of the first i rows.
use Rattle.marks.specs.Marks.{marked}
use Rattle.tree_pass.proofs.LabelPass.{Labelled}
use Rattle.tree_pass.proofs.NearPass.{Near}
use Rattle.tree_pass.proofs.around.Given as goal

abbrev pub invariant-loop-i : goal.invariant-loop-i
invariant-loop-i l = record {
  labelled : Labelled l.tree.parents.now l.tree.children.now (marked l.ins) l.tree.positions l.i l.out;
  near : Near l.tree.parents.now l.tree.children.now l.ins l.initial.near l.c l.i l.near;
}
