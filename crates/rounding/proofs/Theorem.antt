-- Each count goes to its nearest step, and to no other.
use mathlib.Core.Path.{◌≡◌, sym, ap, ◌∙◌}
use Prim.Native.Nat.{ℕ, ◌-◌, ◌*◌, ◌/◌, ◌%◌, ◌≤◌, ◌<◌}
use native.Mathlib.Nat.{div-add-mod}
use native.Mathlib.Decide.{dec_lt}
use native.Mathlib.Omega.{arith}
use lib.Dec.{T}
use lib.IntN.{ℤ, pos, nat_abs, +ℤ_comm, -ℤ-+ℤ_cancel, ◌+ℤ◌, ◌-ℤ◌, ◌*ℤ◌}
use Rattle.rounding.specs.Rounding.{size_passes, with_sign, nearest_step, remainder}
use Rattle.rounding.specs.Statement.{GoesTo, Rounds}
use Rattle.integers.proofs.Magnitudes.{nat_abs_neg, nat_abs_times}
use Rattle.rounding.proofs.Steps.{even, least, sign_size, nearest_below, remainder_below, remainder_above}
use Rattle.rounding.proofs.Only.{only}

module _ (g : ℕ) (c : ℤ) (p : T (size_passes g)) where
  sums : c ≡ pos g *ℤ nearest_step g c +ℤ remainder g c
  unfolding remainder
  sums = sym (+ℤ_comm (pos g *ℤ nearest_step g c) (c -ℤ pos g *ℤ nearest_step g c) ∙ -ℤ-+ℤ_cancel c (pos g *ℤ nearest_step g c))

  -- at most half a step is left over
  goes_below : nat_abs c % g ≤ g / 2 → GoesTo g c (nearest_step g c) (remainder g c)
  goes_below h =
      let e : nat_abs (remainder g c) ≡ nat_abs c % g = ap nat_abs (remainder_below g c h) ∙ sign_size c (nat_abs c % g) in
      let f : nat_abs (pos g *ℤ nearest_step g c) ≡ g * (nat_abs c / g) =
      nat_abs_times g (nearest_step g c) ∙ ap (λ (x : ℕ). g * x) (ap nat_abs (nearest_below g c h) ∙ sign_size c (nat_abs c / g)) in
      record {
        sum = sums;
        half = omega arith;
        towards_zero = λ u. omega (arith, div-add-mod (nat_abs c) g);
      }

  -- more than half: less than half a step is missing
  goes_above : g / 2 < nat_abs c % g → GoesTo g c (nearest_step g c) (remainder g c)
  goes_above h =
      let e : nat_abs (remainder g c) ≡ g - nat_abs c % g =
      ap nat_abs (remainder_above g c (omega (arith, least g p)) h) ∙ nat_abs_neg (with_sign c (g - nat_abs c % g)) ∙ sign_size c (g - nat_abs c % g) in
      record {
        sum = sums;
        half = omega (arith, even g p);
        towards_zero = λ u. absurd (omega (arith, even g p, least g p));
      }

  goes_to : GoesTo g c (nearest_step g c) (remainder g c)
  goes_to = go (dec_lt (g / 2) (nat_abs c % g))
    where
      go : Dec (g / 2 < nat_abs c % g) → GoesTo g c (nearest_step g c) (remainder g c)
      go (yes h) = goes_above h
      go (no h) = goes_below (omega arith)

pub rounds : Rounds
rounds g c p = record { goes = goes_to g c p; only = λ s r w. only g c s r p w }
