-- The first i rows are passed.
use Rattle.tree.specs.Component.{neighbour}
use Rattle.marks.specs.Marks.{numbered}
use Rattle.component_tree.specs.Inner.{tree}
use Rattle.component_tree.proofs.Passes.{Sought}
use Rattle.component_tree.proofs.neighbour.Given as goal

abbrev pub invariant-loop-i : goal.invariant-loop-i
invariant-loop-i l = Sought l.tree.parents.now l.tree.children.now l.c (neighbour (tree l.tree.parents.now l.tree.children.now l.tree.positions) l.tree.positions (numbered l.ports) l.k) l.i l.w
