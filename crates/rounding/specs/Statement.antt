-- What rounding promises, for every count and every step size that passes.
use Rattle.std.specs.Prelude.{◌≡◌, ◌⊎◌, ℕ, ◌/◌, ◌≤◌, ◌<◌, T, ℤ, pos, nat_abs, ◌+ℤ◌, ◌-ℤ◌, ◌*ℤ◌, ◌≤ℤ◌}
use Rattle.rounding.specs.Rounding.{size_passes, nearest_step, remainder, count_answer}

-- ---- rounding

-- the count c goes to this step, and so much is left over
pub record GoesTo (g : ℕ) (c step rest : ℤ) : Type 0 where
  -- "c = g × step + remainder"
  pub sum : c ≡ pos g *ℤ step +ℤ rest
  -- "at most g/2 either way"
  pub half : nat_abs rest ≤ g / 2
  -- "halves towards zero": with half a step left over, the step lies no further from zero than the count
  pub towards_zero : nat_abs rest ≡ g / 2 → nat_abs (pos g *ℤ step) ≤ nat_abs c

-- each count goes to its nearest step, and to no other
pub record RoundsAt (g : ℕ) (c : ℤ) : Type 0 where
  pub goes : GoesTo g c (nearest_step g c) (remainder g c)
  pub only : (step rest : ℤ) → GoesTo g c step rest → (step ≡ nearest_step g c) × (rest ≡ remainder g c)

abbrev pub Rounds : Type 0
Rounds = (g : ℕ) (c : ℤ) → T (size_passes g) → RoundsAt g c

-- ---- count answers

-- a is the count c clamped to half a step around the step y
pub record ClampedTo (g : ℕ) (c y a : ℤ) : Type 0 where
  -- it is at most g/2 from g × y
  pub near : nat_abs (a -ℤ pos g *ℤ y) ≤ g / 2
  -- it lies between g × y and c, whichever is the lesser
  pub between : (((pos g *ℤ y) ≤ℤ a) × (a ≤ℤ c)) ⊎ ((c ≤ℤ a) × (a ≤ℤ (pos g *ℤ y)))
  -- it is c where c lies so near
  pub own : nat_abs (c -ℤ pos g *ℤ y) ≤ g / 2 → a ≡ c
  -- and just g/2 from g × y where c is further away
  pub half : g / 2 < nat_abs (c -ℤ pos g *ℤ y) → nat_abs (a -ℤ pos g *ℤ y) ≡ g / 2

-- the count answer is so, and no other number
pub record ClampsAt (g : ℕ) (c y : ℤ) : Type 0 where
  pub clamped : ClampedTo g c y (count_answer g c y)
  pub only : (a : ℤ) → ClampedTo g c y a → a ≡ count_answer g c y

abbrev pub Clamps : Type 0
Clamps = (g : ℕ) (c y : ℤ) → T (size_passes g) → ClampsAt g c y
