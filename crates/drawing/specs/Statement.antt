-- What is shown of drawings, whatever edges are drawn on whatever lines.
use Rattle.std.specs.Prelude.{◌≡◌, List, [], ◌∷◌, ℕ, ◌+◌, ◌≤◌, ◌<◌, ◌^◌, length, get_or}
use Rattle.base.specs.Limits.{max_rows}
use Rattle.base.specs.Found.{refused}
use Rattle.tree.specs.Edges.{Edges, Below}
use Rattle.plan.specs.Reading.{plan_of}
use Rattle.drawing.specs.Drawing.{drawn_plan, Drawing, drawn, with_edge, kept_of, plan_bytes, second_at, number_at}

-- the drawing of these edges, the latest first, begun as d; `line` gives the line of each, by its place in the drawing
unfoldable pub drawing_of : Drawing → (ℕ → ℕ) → Edges → Drawing
drawing_of d line [] = d
drawing_of d line (e ∷ E) = with_edge (drawing_of d line E) (line (length E)) e.one e.two

-- a refusal by 7, 8 or 9, at the second end of an edge that is kept
pub record AtEdge (n : ℕ) (one two : List ℕ) (number place : ℕ) : Type 0 where
  pub low : 7 ≤ number
  pub high : number ≤ 9
  pub edge : ℕ
  pub within : edge < kept_of n
  pub second : place ≡ second_at n one two edge

pub record Draws (line : ℕ → ℕ) (E : Edges) (d : Drawing) : Type 0 where
  -- at most as many edges as a plan can have: the plan that is written is theirs, and each is kept with its line
  pub plan : length E ≤ max_rows → plan_bytes d.count d.one d.two ≡ drawn_plan E
  pub lines : length E ≤ max_rows → (i : ℕ) → i < length E → get_or d.lines i 0 ≡ line i
  -- that plan is refused at an edge only, where the ends have varints
  pub refusals : length E ≤ max_rows → Below (2 ^ 32) E → (number place : ℕ) → plan_of (drawn_plan E) ≡ refused number place → AtEdge d.count d.one d.two number place
  -- and the edge's number is found by the place
  pub number : (k : ℕ) → k < kept_of d.count → number_at d.count d.one d.two (second_at d.count d.one d.two k) ≡ k
  -- more: what is written is refused by 6 at the vertex count, as the plan of all of them is, where its vertex count has a varint
  pub many : max_rows < length E → plan_of (plan_bytes d.count d.one d.two) ≡ refused 6 1
  pub whole : max_rows < length E → length E + 1 < 2 ^ 32 → plan_of (drawn_plan E) ≡ refused 6 1

-- the columns may hold anything before the first edge
abbrev pub Statement : Type 0
Statement = (lines one two : List ℕ) → length lines ≡ max_rows → length one ≡ max_rows → length two ≡ max_rows
    → (line : ℕ → ℕ) (E : Edges) → Draws line E (drawing_of (drawn 0 lines one two) line E)
