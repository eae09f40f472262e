-- The positions below x are passed: how many of them are marked, and the numbers at their labels.
use mathlib.Core.Path.{◌≡◌}
use Rattle.base.specs.Sets.{count}
use Rattle.marks.specs.Marks.{marked}
use Rattle.component_tree.proofs.Passes.{Ranked}
use Rattle.component_tree.proofs.ranks.Given as goal

abbrev pub invariant-loop-x : goal.invariant-loop-x
invariant-loop-x l = record {
  counted : l.k ≡ count l.x (marked l.near);
  ranked : Ranked l.near l.labels l.x l.table;
}
