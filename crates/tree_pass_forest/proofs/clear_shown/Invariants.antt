-- The first i rows are passed.
use Rattle.tree_pass_forest.proofs.ForestPass.{Left}
use Rattle.tree_pass_forest.proofs.clear_shown.Given as goal

abbrev pub invariant-loop-i : goal.invariant-loop-i
invariant-loop-i l = Left l.tree.parents.now l.tree.children.now l.ins l.labels l.sub l.initial.light l.i l.light
