-- Document 01, "Questions at the door", 1 to 11: the settings, then "the plan, left to right, both groups of an edge or a range read before 7 or 10 is asked".
use Rattle.std.specs.Prelude.{◌&&◌, List, [], ℕ, ◌+◌, ◌-◌, leb, eqb, length}
use Rattle.base.specs.Pick.{pick}
use Rattle.signed.specs.Signed.{offset_of_zigzag}
use Rattle.tree.specs.Growth.{growth_order}
use Rattle.base.specs.Found.{Found, found, refused, ask}
use Rattle.base.specs.Verdict.{Verdict}
use Rattle.edges.specs.Reading.{varint_then, edges_from}
use Rattle.plan.specs.Plan.{Plan}
use Rattle.base.specs.Limits.{max_vertices, max_width, max_reading}
use Rattle.settings.specs.Settings.{settings_fault, settings_fit}
use Rattle.plan.specs.Positions.{tree_plan, range_plan, no_plan}

-- "Does the plan end with its bytes? 11."
abbrev pub ended : {A : Type 0} → List ℕ → ℕ → A → Found A
ended s at a = ask (eqb at (length s)) 11 at (found a)

-- kind 1: vertex count V, then V - 1 edges; they are kept in an order in which the tree grows from vertex 0
abbrev pub tree_from : List ℕ → ℕ → Found Plan
tree_from s at =
    varint_then s at (λ v next.
    ask (leb 1 v && leb v max_vertices) 6 at
    (edges_from v (v - 1) s next [] (λ E end. ended s end (tree_plan v (growth_order E)))))

-- kind 2: signed low reading, then the width; "Are low, width and high in their limits? 10." (every signed low is)
abbrev pub range_from : List ℕ → ℕ → Found Plan
range_from s at =
    varint_then s at (λ z second. varint_then s second (λ width next.
    ask (leb width max_width && leb (offset_of_zigzag z + width) max_reading) 10 second
    (ended s next (range_plan (offset_of_zigzag z) width))))

-- "Is the kind 1 or 2? 5.": the plan that stands at `at`
unfoldable pub plan_from : List ℕ → ℕ → Found Plan
plan_from s at =
    varint_then s at (λ k next.
    pick (eqb k 1) (tree_from s next)
    (pick (eqb k 2) (range_from s next) (refused 5 at)))

-- the plan that the lent bytes are
abbrev pub plan_of : List ℕ → Found Plan
plan_of s = plan_from s 0

-- questions 1 to 3 of the settings, then the plan
unfoldable pub settled_plan : ℕ → ℕ → ℕ → List ℕ → Found Plan
settled_plan n t own s = ask (settings_fit n t own) (settings_fault n t own) 0 (plan_of s)

-- what reading a plan gives
pub record PlanRead : Type 0 where
  pub verdict : Verdict
  pub plan : Plan

-- the answer as the call gives it: no plan comes with a refusal
abbrev pub answered : Found Plan → PlanRead
answered (found p) = record { verdict = Verdict.Accepted; plan = p }
answered (refused number place) = record { verdict = Verdict.Refused number place; plan = no_plan }
