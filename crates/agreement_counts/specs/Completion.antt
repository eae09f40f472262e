-- The premises of Q-6's theorem can always be met to the end: from every history that meets them further steps, with starts by counts at g only, lead to a
-- complete delivery, where every sound board has a count answer.
use Rattle.std.specs.Prelude.{◌≡◌, ◌++◌, ℕ, T, ℤ, Some}
use Rattle.base.specs.Sets.{Set}
use Rattle.rounding.specs.Rounding.{size_passes}
use Rattle.plan.specs.Plan.{Plan}
use Rattle.agreement.specs.History.{Instance, History}
use Rattle.agreement.specs.Allowed.{Sound}
use Rattle.agreement.specs.Demand.{Premises}
use Rattle.agreement_completion.specs.Statement.{Completed}
use Rattle.agreement_counts.specs.Demand.{StartedByCount, OnlyCounts, count_now}

pub record CountsCompleted (v : Instance) (bad : Set) (g : ℕ) (h : History) : Type 0 where
  pub completed : Completed v bad h
  pub only : OnlyCounts v bad g (completed.more ++ h)
  pub answers : (i : ℕ) → Sound v bad i
      → (c : ℤ) × (a : ℤ) × StartedByCount (completed.more ++ h) i g c × (count_now v (completed.more ++ h) i g c ≡ Some a)

-- on every range, in steps of every size that passes
abbrev pub CountsComplete : Type 0
CountsComplete =
    (v : Instance) (plan : Plan) (bad : Set) (g : ℕ) (h : History) → Premises v plan bad h → plan.kind ≡ 2 → T (size_passes g) → OnlyCounts v bad g h
    → CountsCompleted v bad g h
