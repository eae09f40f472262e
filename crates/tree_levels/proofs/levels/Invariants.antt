use Rattle.base.specs.Sets.{count}
use Rattle.tree_pass.specs.Tree.{edges_of}
use Rattle.marks.specs.Marks.{marked}
use Rattle.tree_levels.proofs.LevelLaws.{Done}
use Rattle.tree_levels.proofs.levels.Given as goal

abbrev pub invariant-loop-alive : goal.invariant-loop-alive
invariant-loop-alive l = Done (edges_of l.tree) l.tree.positions l.k l.alive

abbrev pub decreases-loop-alive : goal.decreases-loop-alive
decreases-loop-alive l = count l.tree.positions (marked l.alive)
