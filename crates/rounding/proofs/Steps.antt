-- Step sizes that pass, and where a count goes by magnitude.
use mathlib.Core.Path.{◌≡◌, refl, sym, ap, ◌∙◌}
use mathlib.Core.Bool.{◌&&◌}
use Prim.Native.Nat.{ℕ, suc, ◌+◌, ◌-◌, ◌*◌, ◌/◌, ◌%◌, ◌≤◌, ◌<◌}
use native.Mathlib.Nat.{div-add-mod, mod-lt, mul-suc, mul-le-mul_left, mul_comm}
use native.Mathlib.Numerals.{add-one}
use native.Mathlib.Omega.{arith}
use lib.Dec.{T, leb, eqb, leb→le, eqb→eq}
use lib.IntN.{ℤ, pos, negsuc, neg_ℤ, nat_abs, neg_ℤ-+ℤ, ◌+ℤ◌, ◌-ℤ◌, ◌*ℤ◌}
use borrow.Author.Tests.{lt-ltb, le-ltb}
use Rattle.base.proofs.Bools.{T-left, T-right}
use Rattle.rounding.specs.Rounding.{size_passes, with_sign, nearest_step, remainder}
use Rattle.integers.proofs.Magnitudes.{nat_abs_neg, times_neg, minus_below, minus_above}

module _ (g : ℕ) (p : T (size_passes g)) where
  pub even : g % 2 ≡ 0
  even = eqb→eq (g % 2) 0 (T-left (eqb (g % 2) 0) (leb 2 g && leb g 1000) p)

  limits : T (leb 2 g && leb g 1000)
  limits = T-right (eqb (g % 2) 0) (leb 2 g && leb g 1000) p

  pub least : 2 ≤ g
  least = leb→le 2 g (T-left (leb 2 g) (leb g 1000) limits)

  pub most : g ≤ 1000
  most = leb→le g 1000 (T-right (leb 2 g) (leb g 1000) limits)

pub sign_size : (c : ℤ) (m : ℕ) → nat_abs (with_sign c m) ≡ m
sign_size (pos n) m = refl
sign_size (negsuc n) m = nat_abs_neg (pos m)

-- ---- the step below, by magnitude

pub nearest_below : (g : ℕ) (c : ℤ) → nat_abs c % g ≤ g / 2 → nearest_step g c ≡ with_sign c (nat_abs c / g)
unfolding nearest_step
nearest_below g c h = rw (le-ltb (g / 2) (nat_abs c % g) h) (ap (with_sign c) (omega arith))

pub nearest_above : (g : ℕ) (c : ℤ) → g / 2 < nat_abs c % g → nearest_step g c ≡ with_sign c (nat_abs c / g + 1)
unfolding nearest_step
nearest_above g c h = rw (lt-ltb (g / 2) (nat_abs c % g) h)

-- ---- what is left over at k steps, with the count's sign

left_negative : (g n k : ℕ) → negsuc n -ℤ pos g *ℤ neg_ℤ (pos k) ≡ neg_ℤ (pos (suc n) -ℤ pos (g * k))
left_negative g n k =
    ap (λ (x : ℤ). negsuc n +ℤ neg_ℤ x) (times_neg g (pos k))
    ∙ sym (neg_ℤ-+ℤ (pos (suc n)) (neg_ℤ (pos (g * k))))

left_below : (g : ℕ) (c : ℤ) (k : ℕ) → g * k ≤ nat_abs c → c -ℤ pos g *ℤ with_sign c k ≡ with_sign c (nat_abs c - g * k)
left_below g (pos n) k h = minus_below n (g * k) h
left_below g (negsuc n) k h = left_negative g n k ∙ ap neg_ℤ (minus_below (suc n) (g * k) h)

left_above : (g : ℕ) (c : ℤ) (k : ℕ) → nat_abs c ≤ g * k → c -ℤ pos g *ℤ with_sign c k ≡ neg_ℤ (with_sign c (g * k - nat_abs c))
left_above g (pos n) k h = minus_above n (g * k) h
left_above g (negsuc n) k h = left_negative g n k ∙ ap neg_ℤ (minus_above (suc n) (g * k) h)

pub remainder_below : (g : ℕ) (c : ℤ) → nat_abs c % g ≤ g / 2 → remainder g c ≡ with_sign c (nat_abs c % g)
unfolding remainder
remainder_below g c h =
    ap (λ (x : ℤ). c -ℤ pos g *ℤ x) (nearest_below g c h)
    ∙ left_below g c (nat_abs c / g) (omega (arith, div-add-mod (nat_abs c) g))
    ∙ ap (with_sign c) (omega (arith, div-add-mod (nat_abs c) g))

pub remainder_above : (g : ℕ) (c : ℤ) → 0 < g → g / 2 < nat_abs c % g → remainder g c ≡ neg_ℤ (with_sign c (g - nat_abs c % g))
unfolding remainder
remainder_above g c p h =
    let d : g * (nat_abs c / g) + nat_abs c % g ≡ nat_abs c = div-add-mod (nat_abs c) g in
    let u : nat_abs c % g < g = mod-lt (nat_abs c) p in
    let e : g * (nat_abs c / g + 1) ≡ g * (nat_abs c / g) + g = ap (λ (x : ℕ). g * x) (add-one (nat_abs c / g)) ∙ mul-suc g (nat_abs c / g) in
    ap (λ (x : ℤ). c -ℤ pos g *ℤ x) (nearest_above g c h)
    ∙ left_above g c (nat_abs c / g + 1) (omega arith)
    ∙ ap (λ (x : ℕ). neg_ℤ (with_sign c x)) (omega arith)

-- there are no more than half as many steps as counts, so that one more does not wrap
pub few_steps : (m g : ℕ) → m ≤ 9223372036854775808 → 2 ≤ g → m / g + 1 < 9223372036854775808
few_steps m g h p =
    let d : g * (m / g) + m % g ≡ m = div-add-mod m g in
    let e : m / g * 2 ≤ m / g * g = mul-le-mul_left (m / g) p in
    omega (arith, mul_comm g (m / g))
