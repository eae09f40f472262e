-- The edges of a drawing, and the plan that they make.
use Rattle.std.specs.Prelude.{List, ℕ, ◌+◌, ltb, eqb, length, get_or, set}
use Rattle.base.specs.Pick.{pick, smallest}
use Rattle.base.specs.Limits.{max_rows}
use Rattle.tree.specs.Edges.{Edges}
use Rattle.edges.specs.Rows.{rows}
use Rattle.varint.specs.Varint.{varint_bytes}
use Rattle.plan.specs.Bytes.{edge_bytes, tree_bytes}

-- a tree has one vertex more than edges, and so has the plan of some edges
abbrev pub drawn_plan : Edges → List ℕ
drawn_plan E = tree_bytes (length E + 1) E

-- how many edges are drawn, at most one more than a plan can have; and columns: the line and the two ends of each that is kept
pub record Drawing : Type 0 where
  pub count : ℕ
  pub lines : List ℕ
  pub one : List ℕ
  pub two : List ℕ

abbrev pub drawn : ℕ → List ℕ → List ℕ → List ℕ → Drawing
drawn n lines one two = record { count = n; lines = lines; one = one; two = two }

-- one edge more, from a to b, drawn on a line; beyond the most that a plan can have no edge is kept
unfoldable pub with_edge : Drawing → ℕ → ℕ → ℕ → Drawing
with_edge d line a b =
    pick (ltb d.count max_rows)
    (drawn (d.count + 1) (set d.lines d.count line) (set d.one d.count a) (set d.two d.count b))
    (drawn (max_rows + 1) d.lines d.one d.two)

-- how many edges of n are kept
abbrev pub kept_of : ℕ → ℕ
kept_of n = pick (ltb n max_rows) n max_rows

-- the plan of n edges, by the ends that are kept
abbrev pub plan_bytes : ℕ → List ℕ → List ℕ → List ℕ
plan_bytes n one two = tree_bytes (n + 1) (rows one two (kept_of n))

-- where the second end of edge k stands in it: behind the kind, the vertex count, the edges before and its first end
abbrev pub second_at : ℕ → List ℕ → List ℕ → ℕ → ℕ
second_at n one two k = ((length (varint_bytes 1) + length (varint_bytes (n + 1))) + length (edge_bytes (rows one two k))) + length (varint_bytes (get_or one k 0))

-- the number of the edge whose second end stands at a place
abbrev pub number_at : ℕ → List ℕ → List ℕ → ℕ → ℕ
number_at n one two place = smallest (kept_of n) (λ k. eqb (second_at n one two k) place)
