-- The columns in which the edges of a tree are kept while they are read: what holds of them, and the edges that they keep. For the functions of this crate only.
use Rattle.std.specs.Prelude.{◌≤◌, length}
use Rattle.base.specs.Limits.{max_vertices, max_rows}
use Rattle.tree.specs.Edges.{Edges, Below}
use Rattle.union_find.specs.Inner.{Unions}
use Rattle.edges.specs.Rows.{rows}
use Rattle.edges.specs.Inner.{Degrees, TreeSoFar}
use Rattle.edges.specs.declared.EdgeList.TheInside.{Inside}

-- the edges of a list, the latest first
abbrev pub edges_in : Inside → Edges
edges_in l = rows l.one l.two l.count

-- what a list is to its callers
abbrev pub tree_so_far : Inside → TreeSoFar
tree_so_far l = record { vertices = l.vertices; edges = edges_in l }

-- the columns are long enough
pub record Columns (l : Inside) : Type 0 where
  pub one : max_rows ≤ length l.one
  pub two : max_rows ≤ length l.two
  pub up : max_vertices ≤ length l.up
  pub weight : max_vertices ≤ length l.weight
  pub degree : max_vertices ≤ length l.degree

-- the forest and the numbers of edges are those of the edges
pub record Listing (l : Inside) : Type 0 where
  pub within : l.vertices ≤ max_vertices
  pub most : l.count ≤ max_rows
  pub columns : Columns l
  pub below : Below l.vertices (edges_in l)
  pub unions : Unions l.vertices (edges_in l) l.up l.weight
  pub degrees : Degrees l.vertices (edges_in l) l.degree
