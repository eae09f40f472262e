-- What demand 3 says of answers on a range, by readings alone: its first two promises.
use Rattle.std.specs.Prelude.{◌⊎◌, ℕ, ◌≤◌, ℤ, ◌-ℤ◌, nat_abs, ◌≤ℤ◌}
use Rattle.base.specs.Sets.{Set}
use Rattle.plan.specs.Plan.{Plan}
use Rattle.agreement.specs.History.{Instance, History}
use Rattle.agreement.specs.Allowed.{Sound}
use Rattle.agreement.specs.Demand.{Answers, StartedWith}

-- how far two readings are apart
abbrev pub apart : ℤ → ℤ → ℕ
apart y z = nat_abs (y -ℤ z)

-- y lies between p and q, whichever is the smaller
abbrev pub Between : ℤ → ℤ → ℤ → Type 0
Between p q y = ((p ≤ℤ y) × (y ≤ℤ q)) ⊎ ((q ≤ℤ y) × (y ≤ℤ p))

-- some sound board started with the reading z
abbrev pub Input : Instance → Plan → Set → History → ℤ → Type 0
Input v plan bad h z = (i : ℕ) × (x : ℕ) × Sound v bad i × StartedWith plan h i x z

-- what holds after a list of steps if the plan is a range
pub record HoldsOnRange (v : Instance) (plan : Plan) (bad : Set) (h : History) : Type 0 where
  -- any two answers of sound boards, held then or read earlier, are readings at most 1 apart
  pub near : (i j : ℕ) (y z : ℤ) → Sound v bad i → Sound v bad j → Answers v h i y → Answers v h j z → apart y z ≤ 1
  -- and each lies between two readings that sound boards started with, which may be the same one
  pub validity : (i : ℕ) (y : ℤ) → Sound v bad i → Answers v h i y
      → (p : ℤ) × (q : ℤ) × Input v plan bad h p × Input v plan bad h q × (p ≤ℤ y) × (y ≤ℤ q)
