-- Document 02, Q-7: plans, and how many levels of each send. proofs/Examples.antt shows that every row holds.
use Rattle.std.specs.Prelude.{◌≡◌, List, [], ◌∷◌, ℕ, zero, suc, ◌-◌, T}
use Rattle.base.specs.Limits.{offset_zero}
use Rattle.tree.specs.Edges.{Edge, Edges}
use Rattle.tree.specs.Path.{path_edges}
use Rattle.plan.specs.Plan.{Plan}
use Rattle.plan.specs.Positions.{tree_plan, range_plan}
use Rattle.plan.specs.Valid.{plan_valid}
use Rattle.plan_levels.specs.Levels.{levels_of}

-- a plan, and how many of its levels send
pub data Row : Type 0 where
  row : Plan → ℕ → Row

-- what a row claims
abbrev pub Shown : Row → Type 0
Shown (row p k) = T (plan_valid p) × (levels_of p ≡ k)

abbrev edge : ℕ → ℕ → Edge
edge a b = record { one = a; two = b }

-- a path of v vertices, as a tree
abbrev pub path : ℕ → Plan
path v = tree_plan v (path_edges (v - 1))

-- the k edges 0-1, 0-2, ..
unfoldable pub star_edges : ℕ → Edges
star_edges zero = []
star_edges (suc k) = edge 0 (suc k) ∷ star_edges k

-- a star of v vertices
abbrev pub star : ℕ → Plan
star v = tree_plan v (star_edges (v - 1))

-- vertex 0 with the sides 1, 2 and 3-4-5: the centre of the whole is 0, and only the third side sends
abbrev pub late_side : Plan
late_side = tree_plan 6 (edge 4 5 ∷ edge 3 4 ∷ edge 0 3 ∷ edge 0 2 ∷ edge 0 1 ∷ [])

-- readings 0 to a width
abbrev pub range : ℕ → Plan
range width = range_plan offset_zero width

unfoldable pub examples : List Row
examples =
    -- trees of one and two vertices send nothing
    row (path 1) 0
    ∷ row (path 2) 0
    -- a path of 5 has sides of two vertices, one of 6 has a side of three
    ∷ row (path 3) 1
    ∷ row (path 5) 1
    ∷ row (path 6) 2
    ∷ row (path 7) 2
    -- 15 sides of one vertex; sides of one, one and three
    ∷ row (star 16) 1
    ∷ row late_side 2
    -- ranges, by their widths
    ∷ row (range 0) 0
    ∷ row (range 1) 0
    ∷ row (range 2) 1
    ∷ row (range 3) 1
    ∷ row (range 5) 2
    ∷ row (range 6) 2
    -- 49,151 and 49,152 positions, and the widest range
    ∷ row (range 49150) 14
    ∷ row (range 49151) 15
    ∷ row (range 65535) 15
    ∷ []
