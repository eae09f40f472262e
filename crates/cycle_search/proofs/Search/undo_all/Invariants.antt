-- The edges from i on are undone and marked, and the rest is asked for.
use Prim.Native.Nat.{ℕ}
use Rattle.tree.specs.Edges.{Edges}
use Rattle.edges.specs.Rows.{rows}
use Rattle.cycle_search.specs.Search.{Joined, Asks}
use Rattle.cycle_search.proofs.Marking.{Marked}
use Rattle.cycle_search.proofs.Search.undo_all.Given as goal

abbrev pub invariant-loop-i : goal.invariant-loop-i
invariant-loop-i l = record {
  joined : Joined l.i l.one l.two l.self;
  marked : (G : Edges) (a b : ℕ) → Asks G a b (rows l.one l.two l.m) l.initial.self → Asks G a b (rows l.one l.two l.i) l.self × Marked G a b l.i l.m l.marks;
}
