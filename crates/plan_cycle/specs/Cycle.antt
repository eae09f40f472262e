-- Document 02, Q-3: "For such a plan, among the edges up to the rejected one, it included, give in plan order the smallest set in which some edge joins ends
-- already joined .. Plans that pass or fail otherwise give an empty set."
use Rattle.std.specs.Prelude.{List, [], ◌∷◌, ◌++◌, ℕ, zero, suc, eqb, length, replicate}
use Rattle.base.specs.Pick.{pick}
use Rattle.base.specs.Sets.{Set}
use Rattle.base.specs.Limits.{max_rows}
use Rattle.base.specs.Found.{Found, found, refused}
use Rattle.varint.specs.Reading.{varint_at, value_of, past_of}
use Rattle.tree.specs.Edges.{Edge, Edges}
use Rattle.cycles.specs.Cycles.{chosen, on_cycle}
use Rattle.edges.specs.Rows.{column}
use Rattle.plan.specs.Plan.{Plan}
use Rattle.plan.specs.Positions.{padded}
use Rattle.plan.specs.Reading.{plan_of}
use Rattle.plan_cycle.specs.declared.Cycle.{Cycle}

-- the value that stands at `at`, and the place past it; up to the place of a refusal by 8, it included, every group is whole
abbrev pub value_at : List ℕ → ℕ → ℕ
value_at s at = value_of (varint_at s at)

abbrev pub past_at : List ℕ → ℕ → ℕ
past_at s at = past_of (varint_at s at) at

-- the edge that stands at `at`
abbrev pub edge_at : List ℕ → ℕ → Edge
edge_at s at = record { one = value_at s at; two = value_at s (past_at s at) }

-- the edges from `at` on, after those of E, up to the one whose second group stands at the refused place; k edges at most
unfoldable pub edges_up_to : ℕ → List ℕ → ℕ → ℕ → Edges → Edges
edges_up_to zero s place at E = E
edges_up_to (suc k) s place at E =
    pick (eqb (past_at s at) place) (edge_at s at ∷ E) (edges_up_to k s place (past_at s (past_at s at)) (edge_at s at ∷ E))

-- "the edges up to the rejected one, it included", which is refused at its second group: a tree's edges begin past its kind and its vertex count
abbrev pub edges_to_rejected : List ℕ → ℕ → Edges
edges_to_rejected s place = edges_up_to max_rows s place (past_at s (past_at s 0)) []

-- the numbers of the chosen edges, counted from 0 in plan order
unfoldable pub numbers : Set → Edges → List ℕ
numbers K [] = []
numbers K (e ∷ E) = numbers K E ++ pick (K (length E)) (length E ∷ []) []

-- the chosen edges, in plan order: how many, the number and the two ends of each
abbrev pub listed : Set → Edges → Cycle
listed K E = record {
  count = length (chosen K E);
  numbers = padded (numbers K E);
  one = padded (column (λ e. e.one) (chosen K E));
  two = padded (column (λ e. e.two) (chosen K E));
}

-- the empty set
abbrev pub no_cycle : Cycle
no_cycle = record { count = 0; numbers = replicate max_rows 0; one = replicate max_rows 0; two = replicate max_rows 0 }

-- the cycle that the edges close
abbrev pub cycle_among : Edges → Cycle
cycle_among E = listed (on_cycle E) E

-- "Plans that pass or fail otherwise give an empty set."
abbrev pub cycle_by : List ℕ → Found Plan → Cycle
cycle_by s (found p) = no_cycle
cycle_by s (refused number place) = pick (eqb number 8) (cycle_among (edges_to_rejected s place)) no_cycle

-- from the plan's bytes alone
abbrev pub cycle_of : List ℕ → Cycle
cycle_of s = cycle_by s (plan_of s)
