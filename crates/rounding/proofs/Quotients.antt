-- What the machine computes of a count n in steps of g counts, m its magnitude: nothing wraps, and step and remainder are the definitions'.
use mathlib.Core.Path.{◌≡◌, sym, ap, ◌∙◌, subst}
use Prim.Native.Nat.{ℕ, ◌+◌, ◌-◌, ◌/◌, ◌%◌, ◌^◌, ◌≤◌, ◌<◌}
use native.Mathlib.Nat.{mod-lt}
use native.Mathlib.Omega.{arith}
use lib.Dec.{T}
use lib.IntN.{ℤ, pos, neg_ℤ, nat_abs, ◌-ℤ◌}
use lib.Signed.{nat_abs-le}
use mir.Syntax.{w64}
use mir.Val.{SFits, to_z, of_z}
use mir.ValLaws.{to_z-of_z}
use Rattle.rounding.specs.Rounding.{size_passes, with_sign, nearest_step, remainder}
use Rattle.integers.proofs.Signs.{is_back, opposite_back}
use Rattle.rounding.proofs.Steps.{least, most, sign_size, few_steps, nearest_below, nearest_above, remainder_below, remainder_above}

module _ (g : ℕ) (n : ℤ) (m : ℕ) (f : SFits w64 n) (p : T (size_passes g)) (e : m ≡ nat_abs (to_z w64 (of_z w64 n))) where
  size : nat_abs n ≡ m
  size = sym (e ∙ ap nat_abs (to_z-of_z w64 n f))

  pub few : m / g + 1 < 2 ^ 63
  few = few_steps m g (omega (arith, size, nat_abs-le n f.sfits)) (least g p)

  pub rest_size : m % g < g
  rest_size = mod-lt m (omega (arith, least g p))

  -- the number of magnitude k with the count's sign
  module _ {x : ℤ} {k : ℕ} (d : x ≡ with_sign (to_z w64 (of_z w64 n)) k) (h : k < 2 ^ 63) where
    signed : x ≡ with_sign n k
    signed = d ∙ ap (λ (z : ℤ). with_sign z k) (to_z-of_z w64 n f)

    small : nat_abs (with_sign n k) < 2 ^ 63
    small = subst (λ (i : ℕ). i < 2 ^ 63) (sym (sign_size n k)) h

    read : to_z w64 (of_z w64 x) ≡ with_sign n k
    read = is_back w64 x signed small

    against : to_z w64 (of_z w64 (pos 0 -ℤ to_z w64 (of_z w64 x))) ≡ neg_ℤ (with_sign n k)
    against = opposite_back w64 (to_z w64 (of_z w64 x)) read small

  pub below : m % g ≤ g / 2 → {s r : ℤ} → s ≡ with_sign (to_z w64 (of_z w64 n)) (m / g) → r ≡ with_sign (to_z w64 (of_z w64 n)) (m % g)
      → (to_z w64 (of_z w64 s) ≡ nearest_step g n) × (to_z w64 (of_z w64 r) ≡ remainder g n)
  below h {s} {r} ds dr =
      let t : nat_abs n % g ≤ g / 2 = subst (λ (i : ℕ). i % g ≤ g / 2) (sym size) h in (
        read ds (omega (arith, few)) ∙ ap (λ (i : ℕ). with_sign n (i / g)) (sym size) ∙ sym (nearest_below g n t),
        read dr (omega (arith, rest_size, most g p)) ∙ ap (λ (i : ℕ). with_sign n (i % g)) (sym size) ∙ sym (remainder_below g n t),
      )

  pub above : g / 2 < m % g → {s r : ℤ} → s ≡ with_sign (to_z w64 (of_z w64 n)) (m / g + 1) → r ≡ with_sign (to_z w64 (of_z w64 n)) (g - m % g)
      → (to_z w64 (of_z w64 s) ≡ nearest_step g n) × (to_z w64 (of_z w64 (pos 0 -ℤ to_z w64 (of_z w64 r))) ≡ remainder g n)
  above h {s} {r} ds dr =
      let t : g / 2 < nat_abs n % g = subst (λ (i : ℕ). g / 2 < i % g) (sym size) h in (
        read ds few ∙ ap (λ (i : ℕ). with_sign n (i / g + 1)) (sym size) ∙ sym (nearest_above g n t),
        against dr (omega (arith, most g p))
            ∙ ap (λ (i : ℕ). neg_ℤ (with_sign n (g - i % g))) (sym size)
            ∙ sym (remainder_above g n (omega (arith, least g p)) t),
      )
