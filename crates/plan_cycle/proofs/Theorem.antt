-- The answer lists the smallest set of edges among those up to the rejected one in which some edge joins ends already joined, and the only one.
use mathlib.Core.Path.{◌≡◌, refl, ap}
use mathlib.Core.List.{List}
use mathlib.Core.Bool.{Bool, true, false}
use Prim.Native.Nat.{ℕ}
use lib.Dec.{eqb}
use borrow.Author.Tests.{eqb-true}
use Rattle.base.specs.Pick.{pick}
use Rattle.base.specs.Found.{Found, found, refused}
use Rattle.cycles.proofs.Theorem as cycles
use Rattle.plan.specs.Plan.{Plan}
use Rattle.plan.specs.Reading.{plan_of}
use Rattle.plan_cycle.specs.Cycle.{edges_to_rejected, cycle_among, no_cycle, cycle_by}
use Rattle.plan_cycle.specs.Statement.{Statement}
use Rattle.plan_cycle.proofs.Along.{to_rejected}
use Rattle.plan_cycle.proofs.Unique.{unique_edges}

-- another refusal, or none
empty_by : (s : List ℕ) (r : Found Plan) → ((place : ℕ) → r ≡ refused 8 place → ⊥) → cycle_by s r ≡ no_cycle
empty_by s (found p) d = refl
empty_by s (refused number place) d = go (eqb number 8) refl
  where
    go : (b : Bool) → eqb number 8 ≡ b → pick b (cycle_among (edges_to_rejected s place)) no_cycle ≡ no_cycle
    go true e = absurd (d place (ap (λ (n : ℕ). refused n place) (eqb-true number 8 e)))
    go false e = refl

pub explains : Statement
explains s =
    record {
      eight = λ place e.
          let r = to_rejected s place e in
          record { edges = r; unique = unique_edges s place e; given = ap (cycle_by s) e; smallest = cycles.smallest (edges_to_rejected s place) r.rejected };
      empty = empty_by s (plan_of s);
    }
