-- Signed numbers of any width: what the machine computes of them.
use mathlib.Core.Path.{◌≡◌, refl, sym, ap, ap₂, ◌∙◌, subst}
use mathlib.Core.Bool.{Bool, true, false}
use Prim.Native.Nat.{ℕ, zero, suc, ◌-◌, ◌^◌, ◌<◌}
use native.Mathlib.Omega.{arith}
use lib.Dec.{T}
use lib.IntN.{ℤ, pos, negsuc, neg_ℤ, nat_abs, +ℤ_idl, ◌-ℤ◌}
use lib.Signed.{lt_z, le_z, non_neg, mag}
use borrow.Author.Tests.{le-ltb, ltb-true}
use mir.Syntax.{Width}
use mir.Val.{Fits, SFits, hbits, to_z, of_z}
use mir.ValLaws.{to_z-of_z, to_z_pos, half_full}
use Rattle.integers.proofs.Magnitudes.{nat_abs_neg}

-- -1 - z
flip_negsuc : (n : ℕ) → negsuc 0 -ℤ negsuc n ≡ pos n
flip_negsuc n = rw (le-ltb (suc n) 1 (omega arith)) (ap pos (omega arith))

flip_pos : (n : ℕ) → negsuc 0 -ℤ pos n ≡ negsuc n
flip_pos zero = refl
flip_pos (suc n) = ap negsuc (omega arith)

module _ (w : Width) (z : ℤ) (f : SFits w z) where
  -- z is negative, or not
  pub below_zero : lt_z (to_z w (of_z w z)) (pos 0) ≡ true → z ≡ negsuc (mag z)
  below_zero h = go z (rw (to_z-of_z w z f) at h)
    where
      go : (z : ℤ) → lt_z z (pos 0) ≡ true → z ≡ negsuc (mag z)
      go (pos n) h = absurd (omega (arith, ltb-true n 0 h))
      go (negsuc n) h = refl

  pub from_zero : lt_z (to_z w (of_z w z)) (pos 0) ≡ false → z ≡ pos (mag z)
  from_zero h = go z (rw (to_z-of_z w z f) at h)
    where
      go : (z : ℤ) → lt_z z (pos 0) ≡ false → z ≡ pos (mag z)
      go (pos n) h = refl
      go (negsuc n) h = let e : ◌≡◌ {A = ℕ} 0 1 = cc in absurd (omega arith)

  pub mag_back : mag (to_z w (of_z w z)) ≡ mag z
  mag_back = ap mag (to_z-of_z w z f)

  -- -1 - z of a negative z, and z itself otherwise
  pub flipped : lt_z (to_z w (of_z w z)) (pos 0) ≡ true → negsuc 0 -ℤ to_z w (of_z w z) ≡ pos (mag z)
  flipped h = ap (λ (x : ℤ). negsuc 0 -ℤ x) (to_z-of_z w z f ∙ below_zero h) ∙ flip_negsuc (mag z)

  pub flipped_back : lt_z (to_z w (of_z w z)) (pos 0) ≡ true → to_z w (of_z w (negsuc 0 -ℤ to_z w (of_z w z))) ≡ pos (mag z)
  flipped_back h = ap (λ (x : ℤ). to_z w (of_z w x)) (flipped h) ∙ to_z_pos w (mag z) f.sfits

  pub kept : lt_z (to_z w (of_z w z)) (pos 0) ≡ false → to_z w (of_z w z) ≡ pos (mag z)
  kept h = to_z-of_z w z f ∙ from_zero h

  pub fits_unsigned : {x : ℤ} → x ≡ pos (mag z) → T (non_neg x) × Fits w (nat_abs x)
  fits_unsigned e = subst (λ (x : ℤ). T (non_neg x) × Fits w (nat_abs x)) (sym e) (tt, record { fits = half_full w f.sfits })

-- -1 - n of a natural n
module _ (w : Width) (n : ℕ) (h : n < 2 ^ hbits w) where
  pub minus : negsuc 0 -ℤ to_z w n ≡ negsuc n
  minus = ap (λ (x : ℤ). negsuc 0 -ℤ x) (to_z_pos w n h) ∙ flip_pos n

  pub minus_fits : SFits w (negsuc 0 -ℤ to_z w n)
  minus_fits = subst (SFits w) (sym minus) (record { sfits = h })

  pub minus_back : to_z w (of_z w (negsuc 0 -ℤ to_z w n)) ≡ negsuc n
  minus_back = to_z-of_z w (negsuc 0 -ℤ to_z w n) minus_fits ∙ minus

-- a number whose magnitude is small enough fits, and its bits are read back as it
pub small_fits : (w : Width) (z : ℤ) → nat_abs z < 2 ^ hbits w → SFits w z
small_fits w (pos n) h = record { sfits = h }
small_fits w (negsuc n) h = record { sfits = omega arith }

module _ (w : Width) (x : ℤ) {z : ℤ} (e : x ≡ z) (h : nat_abs z < 2 ^ hbits w) where
  pub is_fits : SFits w x
  is_fits = subst (SFits w) (sym e) (small_fits w z h)

  pub is_back : to_z w (of_z w x) ≡ z
  is_back = to_z-of_z w x is_fits ∙ e

  -- 0 - z
  pub opposite : pos 0 -ℤ x ≡ neg_ℤ z
  opposite = +ℤ_idl (neg_ℤ x) ∙ ap neg_ℤ e

  pub opposite_fits : SFits w (pos 0 -ℤ x)
  opposite_fits = subst (SFits w) (sym opposite) (small_fits w (neg_ℤ z) (subst (λ (n : ℕ). n < 2 ^ hbits w) (sym (nat_abs_neg z)) h))

  pub opposite_back : to_z w (of_z w (pos 0 -ℤ x)) ≡ neg_ℤ z
  opposite_back = to_z-of_z w (pos 0 -ℤ x) opposite_fits ∙ opposite

-- a comparison of two numbers, as the machine makes it of their bits
pub compared : (w : Width) {x y : ℤ} → SFits w x → SFits w y → {t : Bool} → le_z (to_z w (of_z w x)) (to_z w (of_z w y)) ≡ t → le_z x y ≡ t
compared w {x} {y} fx fy h = sym (ap₂ le_z (to_z-of_z w x fx) (to_z-of_z w y fy)) ∙ h
