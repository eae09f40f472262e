-- The sets are those of the first i edges, and can be undone.
use Rattle.base.specs.Limits.{max_vertices}
use Rattle.union_find.specs.Inner.{Unions}
use Rattle.edges.specs.Rows.{rows}
use Rattle.cycle_search.specs.Inner.{Undoes}
use Rattle.cycle_search.proofs.join_all.Given as goal

abbrev pub invariant-loop-i : goal.invariant-loop-i
invariant-loop-i l = record {
  unions : Unions max_vertices (rows l.one l.two l.i) l.up l.weight;
  undoes : Undoes max_vertices l.moved (rows l.one l.two l.i) l.up;
}
