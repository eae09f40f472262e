-- A tree lent as its rows: for the contracts of inner functions.
use Rattle.std.specs.Prelude.{◌-◌}
use Rattle.tree.specs.Edges.{Edges}
use Rattle.edges.specs.Rows.{rows}
use Rattle.tree_pass.specs.declared.lent.Tree.{Tree}

-- its edges, the latest first
abbrev pub edges_of : Tree → Edges
edges_of t = rows t.parents.now t.children.now (t.positions - 1)
