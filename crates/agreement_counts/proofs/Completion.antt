-- Boards that have not started start with the count of the range's lowest step, whose nearest step it is.
use mathlib.Core.Path.{◌≡◌, sym, ap, ◌∙◌}
use mathlib.Core.Logic.{◌⊎◌, inl, inr}
use mathlib.Core.List.{◌++◌}
use Prim.Native.Nat.{ℕ}
use native.Mathlib.Nat.{le_refl}
use native.Mathlib.Omega.{arith}
use lib.Dec.{T}
use lib.IntN.{ℤ, pos, nat_abs, ◌*ℤ◌, +ℤ_idr}
use Rattle.rounding.specs.Rounding.{size_passes, nearest_step}
use Rattle.rounding.proofs.Theorem.{rounds}
use Rattle.plan.specs.Plan.{Plan}
use Rattle.plan.specs.Positions.{reading_of}
use Rattle.plan_laws.proofs.Shape.{shape}
use Rattle.level.specs.Level.{no_output}
use Rattle.board_calls.specs.Answers.{position_of}
use Rattle.board_laws.proofs.Inputs.{reading_position}
use Rattle.agreement.specs.History.{Instance, by_count, History}
use Rattle.agreement.specs.Starts.{Startable}
use Rattle.agreement.specs.Demand.{StartedBy, Shared, Premises}
use Rattle.agreement.proofs.Tied.{plan_valid_lem}
use Rattle.agreement_completion.specs.Statement.{CompletedWith}
use Rattle.agreement_completion.proofs.Theorem.{completes_with}
use Rattle.agreement_counts.specs.Demand.{OnlyCounts}
use Rattle.agreement_counts.specs.Completion.{CountsComplete}
use Rattle.agreement_counts.proofs.Theorem.{counts_demand}

-- a multiple of g goes to its factor
exact_step : (g : ℕ) → T (size_passes g) → (y : ℤ) → nearest_step g (pos g *ℤ y) ≡ y
exact_step g ok y =
    sym ((rounds g (pos g *ℤ y) ok).only y (pos 0) (record { sum = sym (+ℤ_idr (pos g *ℤ y)); half = omega arith; towards_zero = λ e. le_refl (nat_abs (pos g *ℤ y)) })).0

module _ (v : Instance) (plan : Plan) (f : Shared v plan) (g : ℕ) (k : plan.kind ≡ 2) (ok : T (size_passes g)) where
  -- the count of position 0, which every plan has
  abbrev lowest : ℤ
  lowest = pos g *ℤ reading_of plan 0

  on_range_lem : Startable plan (by_count g lowest)
  on_range_lem = (ok, k, λ e. none (sym (ap (position_of plan) (exact_step g ok (reading_of plan 0)) ∙ first) ∙ e))
    where
      first : position_of plan (reading_of plan 0) ≡ 0
      first = reading_position plan 0 (shape plan (plan_valid_lem v plan f 0 (omega (arith, f.faults)))).some

      none : 0 ≡ no_output → ⊥
      none e = omega arith

pub counts_complete : CountsComplete
counts_complete v plan bad g h given k ok only = record { completed = c.completed; only = still; answers = (counts_demand v plan bad g all more_given still).ending c.completed.complete }
  where
    f : Shared v plan
    f = given.shared

    count : ℤ
    count = lowest v plan f g k ok

    c : CompletedWith v bad h (by_count g count)
    c = completes_with v plan bad h (by_count g count) f (on_range_lem v plan f g k ok) given.allowed

    all : History
    all = c.completed.more ++ h

    more_given : Premises v plan bad all
    more_given = record { shared = f; few = given.few; allowed = c.completed.allowed }

    still : OnlyCounts v bad g all
    still i x input o s = go (c.starts i x input s)
      where
        go : StartedBy h i x input ⊎ (input ≡ by_count g count) → (d : ℤ) × (input ≡ by_count g d)
        go (inl b) = only i x input o b
        go (inr e) = (count, e)
