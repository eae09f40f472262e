-- Half a step below zero goes to the step 0, and half a step above g to the step 1: halves towards zero.
use mathlib.Core.Path.{◌≡◌, sym, ap, ◌∙◌}
use Prim.Native.Nat.{ℕ, ◌+◌, ◌*◌, ◌/◌}
use native.Mathlib.Nat.{mul-zero, mul-one}
use native.Mathlib.Omega.{arith}
use lib.Dec.{T}
use lib.IntN.{pos, neg_ℤ, nat_abs, +ℤ_comm, +ℤ_idr, neg_ℤ-+ℤ, ◌+ℤ◌, ◌-ℤ◌, ◌*ℤ◌}
use Rattle.rounding.specs.Rounding.{size_passes, nearest_step}
use Rattle.integers.proofs.Magnitudes.{nat_abs_neg}
use Rattle.rounding.proofs.Steps.{even}
use Rattle.rounding.proofs.Theorem.{rounds}

-- they are 2g apart
pub halves_apart : (g : ℕ) → T (size_passes g) → nat_abs (neg_ℤ (pos (g / 2)) -ℤ pos (g + g / 2)) ≡ 2 * g
halves_apart g ok =
    ap nat_abs (sym (neg_ℤ-+ℤ (pos (g / 2)) (pos (g + g / 2))))
    ∙ nat_abs_neg (pos (g / 2 + (g + g / 2)))
    ∙ omega (arith, even g ok)

module _ (g : ℕ) (ok : T (size_passes g)) where
  zero_plus : neg_ℤ (pos (g / 2)) ≡ pos g *ℤ pos 0 +ℤ neg_ℤ (pos (g / 2))
  zero_plus =
      let h = neg_ℤ (pos (g / 2)) in
      sym (ap (λ (n : ℕ). pos n +ℤ h) (mul-zero g) ∙ +ℤ_comm (pos 0) h ∙ +ℤ_idr h)

  pub half_below : nearest_step g (neg_ℤ (pos (g / 2))) ≡ pos 0
  half_below =
      let size = nat_abs_neg (pos (g / 2)) in
      sym ((rounds g (neg_ℤ (pos (g / 2))) ok).only (pos 0) (neg_ℤ (pos (g / 2))) (record {
        sum = zero_plus;
        half = omega (arith, size);
        towards_zero = λ e. omega (arith, mul-zero g);
      })).0

  pub half_above : nearest_step g (pos (g + g / 2)) ≡ pos 1
  half_above =
      sym ((rounds g (pos (g + g / 2)) ok).only (pos 1) (pos (g / 2)) (record {
        sum = ap pos (omega (arith, mul-one g));
        half = omega arith;
        towards_zero = λ e. omega (arith, mul-one g);
      })).0
