-- What a plan is once read: its positions, its edges, and the reading at each position.
use Rattle.std.specs.Prelude.{List, ◌++◌, ℕ, ◌+◌, ◌-◌, eqb, length, replicate, ℤ, pos}
use Rattle.base.specs.Pick.{pick}
use Rattle.signed.specs.Signed.{from_offset}
use Rattle.tree.specs.Edges.{Edges}
use Rattle.edges.specs.Rows.{rows}
unfoldable pub use Rattle.edges.specs.Rows.{column}
use Rattle.tree.specs.Path.{path_edges}
use Rattle.plan.specs.Plan.{Plan}
use Rattle.base.specs.Limits.{max_rows}

-- "its path joins neighbouring positions"; a tree's edges are the rows that are kept
unfoldable pub edges_of : Plan → Edges
edges_of p = pick (eqb p.kind 1) (rows p.parent p.child (p.count - 1)) (path_edges (p.count - 1))

-- "Position p of a range is reading low + p"; "a vertex being its own" position
unfoldable pub reading_of : Plan → ℕ → ℤ
reading_of p x = pick (eqb p.kind 1) (pos x) (from_offset (p.low + x))

-- unused places are 0
abbrev pub padded : List ℕ → List ℕ
padded l = l ++ replicate (max_rows - length l) 0

-- the plan of a tree of v vertices, its edges in growth order
abbrev pub tree_plan : ℕ → Edges → Plan
tree_plan v F = record { kind = 1; count = v; low = 0; parent = padded (column (λ e. e.one) F); child = padded (column (λ e. e.two) F) }

-- the plan of a range: its low reading in offset binary, and its width
abbrev pub range_plan : ℕ → ℕ → Plan
range_plan low width = record { kind = 2; count = width + 1; low = low; parent = replicate max_rows 0; child = replicate max_rows 0 }

-- no plan: what comes with a refusal
abbrev pub no_plan : Plan
no_plan = record { kind = 0; count = 0; low = 0; parent = replicate max_rows 0; child = replicate max_rows 0 }
