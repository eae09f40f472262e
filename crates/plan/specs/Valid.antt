-- Document 01, question 19: "whose plan part a plan reading gives". A test that one pass over the part decides; crate plan_laws shows that it
-- passes exactly the parts that some plan's bytes give.
use Rattle.std.specs.Prelude.{Bool, true, false, not, ◌&&◌, List, [], ◌∷◌, ℕ, zero, suc, ◌+◌, ◌-◌, ltb, leb, eqb, get_or, drop}
use Rattle.base.specs.Pick.{pick}
use Rattle.tree.specs.Edges.{edges_at}
use Rattle.tree.specs.Growth.{reached}
use Rattle.edges.specs.Rows.{rows}
use Rattle.plan.specs.Plan.{Plan}
use Rattle.base.specs.Limits.{max_vertices, max_degree, max_width, max_reading}

-- row i leads from a position that the rows before it reach to one that they do not, with room for an edge at both
unfoldable pub row_fits : ℕ → List ℕ → List ℕ → ℕ → Bool
row_fits v ps cs i =
    ((ltb (get_or ps i 0) v && ltb (get_or cs i 0) v) && (reached (rows ps cs i) (get_or ps i 0) && not (reached (rows ps cs i) (get_or cs i 0))))
    && (ltb (edges_at (rows ps cs i) (get_or ps i 0)) max_degree && ltb (edges_at (rows ps cs i) (get_or cs i 0)) max_degree)

-- the first k rows fit
unfoldable pub rows_fit : ℕ → List ℕ → List ℕ → ℕ → Bool
rows_fit v ps cs zero = true
rows_fit v ps cs (suc i) = rows_fit v ps cs i && row_fits v ps cs i

-- nothing but 0
unfoldable pub all_zero : List ℕ → Bool
all_zero [] = true
all_zero (x ∷ l) = eqb x 0 && all_zero l

abbrev pub tree_valid : Plan → Bool
tree_valid p =
    ((leb 1 p.count && leb p.count max_vertices) && eqb p.low 0)
    && (rows_fit p.count p.parent p.child (p.count - 1)
    && (all_zero (drop (p.count - 1) p.parent) && all_zero (drop (p.count - 1) p.child)))

abbrev pub range_valid : Plan → Bool
range_valid p =
    ((leb 1 p.count && leb p.count (max_width + 1)) && leb (p.low + (p.count - 1)) max_reading)
    && (all_zero p.parent && all_zero p.child)

unfoldable pub plan_valid : Plan → Bool
plan_valid p = pick (eqb p.kind 1) (tree_valid p) (pick (eqb p.kind 2) (range_valid p) false)
