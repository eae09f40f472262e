-- Stages of a board; cases and induction over the boards of a vote.
use mathlib.Core.Path.{◌≡◌, refl, sym, ◌∙◌, subst}
use mathlib.Core.Bool.{Bool, true, false, not}
use Prim.Native.Nat.{ℕ, zero, suc, ◌≤◌, ◌<◌}
use native.Mathlib.Omega.{arith}
use borrow.Author.Tests.{eqb-true, eqb-false}
use lib.Dec.{T, eqb}
use Rattle.base.specs.Sets.{Set}
use Rattle.agreement.specs.History.{Instance, Stage, waiting, running, down}
use Rattle.agreement.specs.Allowed.{Sound}

-- a board is in one stage only
pub down_waiting : (s : Stage) → s ≡ down → s ≡ waiting → ⊥
down_waiting s e g = let x : down ≡ waiting = sym e ∙ g in let z : ◌≡◌ {A = ℕ} 0 1 = cc in omega arith

pub down_running : (s : Stage) → s ≡ down → s ≡ running → ⊥
down_running s e g = let x : down ≡ running = sym e ∙ g in let z : ◌≡◌ {A = ℕ} 0 1 = cc in omega arith

-- board i is board k or another
pub either : (P : ℕ → Type 0) (k i : ℕ) → P k → (eqb k i ≡ false → P i) → P i
either P k i own other = go (eqb k i) refl
  where
    go : (b : Bool) → eqb k i ≡ b → P i
    go true e = subst P (eqb-true k i e) own
    go false e = other e

-- another up to board k is below it
pub below : (k i : ℕ) → i < suc k → eqb k i ≡ false → i < k
below k i l e = let d : k ≡ i → ⊥ = eqb-false k i e in omega arith

module _ (v : Instance) (bad : Set) where
  -- and so is a sound one where board k is faulty
  pub sound_below : (k : ℕ) → bad k ≡ true → (i : ℕ) → i < suc k → Sound v bad i → i < k
  sound_below k e i l o =
      either (λ (y : ℕ). y < suc k → Sound v bad y → y < k) k i (λ n s. absurd (subst (λ (b : Bool). T (not b)) e s.1)) (λ d n s. below k i n d) l o

  -- what holds of no board, and of one more at each step, whether that is faulty or sound
  pub over_sound : (P : ℕ → Type 0) → P 0 → ((k : ℕ) → bad k ≡ true → P k → P (suc k)) → ((k : ℕ) → Sound v bad k → P k → P (suc k))
      → (k : ℕ) → k ≤ v.n → P k
  over_sound P none faulty sound zero l = none
  over_sound P none faulty sound (suc k) l = go (over_sound P none faulty sound k (omega arith)) (bad k) refl
    where
      go : P k → (b : Bool) → bad k ≡ b → P (suc k)
      go x true e = faulty k e x
      go x false e = sound k (omega arith, subst (λ (b : Bool). T (not b)) (sym e) tt) x
