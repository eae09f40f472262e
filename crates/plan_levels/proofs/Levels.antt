-- Laws of the number of levels, for every set of positions.
use mathlib.Core.Path.{◌≡◌, refl, ap}
use Prim.Native.Nat.{ℕ, zero, suc, max, ◌≤◌, ◌<◌}
use native.Mathlib.Decide.{ℕ_discrete, dec_le}
use native.Mathlib.Omega.{arith}
use lib.Dec.{leb, leb→le, le→leb}
use Rattle.base.specs.Sets.{Set}
use Rattle.base.proofs.Bools.{T→true, not-T→false}
use Rattle.plan.specs.Plan.{Plan}
use Rattle.component.specs.Component.{size_of, degree_of, side_of}
use Rattle.plan_levels.specs.Levels.{greatest, levels_from}

-- ---- the greatest of f 1 .. f d

-- none of them is more
pub greatest_most : (d : ℕ) (f : ℕ → ℕ) (k : ℕ) → 1 ≤ k → k ≤ d → f k ≤ greatest d f
unfolding greatest
greatest_most zero f k low high = absurd (omega arith)
greatest_most (suc d) f k low high = go (ℕ_discrete k (suc d)) (greatest_most d f k low)
  where
    go : Dec (k ≡ suc d) → (k ≤ d → f k ≤ greatest d f) → f k ≤ max (greatest d f) (f (suc d))
    go (yes e) ih = omega (arith, ap f e)
    go (no e) ih = omega (arith, ih (omega arith))

-- and one is as much, if it is not 0
pub greatest_taken : (d : ℕ) (f : ℕ → ℕ) (v : ℕ) → greatest d f ≡ suc v → (k : ℕ) × (1 ≤ k) × (k ≤ d) × (f k ≡ suc v)
unfolding greatest
greatest_taken zero f v e = absurd (omega arith)
greatest_taken (suc d) f v e = go (ℕ_discrete (f (suc d)) (suc v)) (greatest_taken d f v)
  where
    go : Dec (f (suc d) ≡ suc v) → (greatest d f ≡ suc v → (k : ℕ) × (1 ≤ k) × (k ≤ d) × (f k ≡ suc v)) → (k : ℕ) × (1 ≤ k) × (k ≤ suc d) × (f k ≡ suc v)
    go (yes i) ih = (suc d, omega arith, omega arith, i)
    go (no i) ih = let r = ih (omega arith) in (r.0, r.1, omega (arith, r.2), r.3)

-- 0, if all are 0
pub greatest_none : (d : ℕ) (f : ℕ → ℕ) → ((k : ℕ) → f k ≡ 0) → greatest d f ≡ 0
unfolding greatest
greatest_none zero f h = refl
greatest_none (suc d) f h = omega (arith, greatest_none d f h, h (suc d))

-- of two
pub greatest_two : (f : ℕ → ℕ) → greatest 2 f ≡ max (f 1) (f 2)
unfolding greatest
greatest_two f = omega arith

-- ---- the levels of S

module _ (p : Plan) (S : Set) where
  -- the levels of the sides of S, by their numbers
  abbrev pub of_sides : ℕ → ℕ → ℕ
  of_sides f k = levels_from f p (side_of p S k)

  -- three or more positions: one more than the deepest side
  pub levels_three : (f : ℕ) → 3 ≤ size_of p S → levels_from (suc f) p S ≡ suc (greatest (degree_of p S) (of_sides f))
  unfolding levels_from
  levels_three f three = rw (T→true (leb 3 (size_of p S)) (le→leb 3 (size_of p S) three))

  -- fewer: none
  pub levels_few : (f : ℕ) → size_of p S < 3 → levels_from f p S ≡ 0
  unfolding levels_from
  levels_few zero few = refl
  levels_few (suc f) few = rw (not-T→false (leb 3 (size_of p S)) (λ h. omega (arith, leb→le 3 (size_of p S) h)))

  -- so what has levels has three positions or more
  pub three_levels : (f : ℕ) → 0 < levels_from f p S → 3 ≤ size_of p S
  three_levels f h = go (dec_le 3 (size_of p S))
    where
      go : Dec (3 ≤ size_of p S) → 3 ≤ size_of p S
      go (yes three) = three
      go (no few) = absurd (omega (arith, levels_few f (omega arith)))
