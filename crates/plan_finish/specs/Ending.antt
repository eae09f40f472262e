-- "Does the plan end with its bytes? 11.": for the function of this crate.
use Rattle.std.specs.Prelude.{◌≡◌, List, ℕ, Result}
use Rattle.base.specs.Found.{found}
use Rattle.base.specs.declared.Refusal.{Refusal}
use Rattle.plan.specs.Plan.{Plan}
use Rattle.plan.specs.Reading.{ended}
use Rattle.plan_groups.specs.Groups.{and_then}

-- whatever plan was read up to `at` in s is found, or refused as r says
abbrev pub Ends : List ℕ → ℕ → Result (Unit {0}) Refusal → Type 0
Ends s at r = (p : Plan) → ended s at p ≡ and_then r (λ _. found p)
