-- What is shown of the cycle of a drawing's plan: the edges that the call gives are the drawing's, so that each can be shown as it was drawn, with its line.
use Rattle.std.specs.Prelude.{◌≡◌, ℕ, ◌≤◌, ◌<◌, ◌^◌, length, get_or}
use Rattle.base.specs.Limits.{max_rows}
use Rattle.tree.specs.Edges.{Edges, Below}
use Rattle.edges.specs.Rows.{column}
use Rattle.drawing.specs.Drawing.{drawn_plan}
use Rattle.plan_cycle.specs.declared.Cycle.{Cycle}
use Rattle.plan_cycle.specs.Cycle.{cycle_of}

-- what is given at k is the number of an edge of E, and the two ends of that edge
pub record AsDrawn (E : Edges) (c : Cycle) (k : ℕ) : Type 0 where
  pub number : get_or c.numbers k 0 < length E
  pub one : get_or c.one k 0 ≡ get_or (column (λ e. e.one) E) (get_or c.numbers k 0) 0
  pub two : get_or c.two k 0 ≡ get_or (column (λ e. e.two) E) (get_or c.numbers k 0) 0

-- of every drawing with at most as many edges as a plan can have, whose ends have varints
abbrev pub Statement : Type 0
Statement = (E : Edges) → length E ≤ max_rows → Below (2 ^ 32) E → (k : ℕ) → k < (cycle_of (drawn_plan E)).count → AsDrawn E (cycle_of (drawn_plan E)) k
