-- `EdgeList::check` meets its contract: the forest and the numbers of edges are those of the edges.
use native.Mathlib.Omega.{arith}
use Rattle.union_find.proofs.Roots.{rooted}
use Rattle.edges.proofs.EdgeList.check.Goals as goal

pub same-requires : goal.same-requires
same-requires c =
    let h = c.self.invariant in
    (omega arith, omega arith, omega (arith, h.within, h.columns.up), rooted _ _ _ h.unions.forest)
