-- Magnitudes of signed numbers, and differences of natural ones.
use mathlib.Core.Path.{◌≡◌, refl, sym, ap, ◌∙◌}
use mathlib.Core.Bool.{Bool, true, false, cond}
use Prim.Native.Nat.{ℕ, zero, suc, ◌+◌, ◌-◌, ◌*◌, ◌≤◌}
use native.Mathlib.Nat.{mul-zero}
use native.Mathlib.Omega.{arith}
use lib.Dec.{ltb}
use lib.IntN.{ℤ, pos, negsuc, neg_ℤ, nat_abs, sub_ℕ, neg_ℤ-neg_ℤ, neg_ℤ-+ℤ, +ℤ_comm, ◌+ℤ◌, ◌-ℤ◌, ◌*ℤ◌}
use borrow.Author.Tests.{le-ltb, ltb-true}

pub nat_abs_neg : (z : ℤ) → nat_abs (neg_ℤ z) ≡ nat_abs z
nat_abs_neg (pos zero) = refl
nat_abs_neg (pos (suc n)) = refl
nat_abs_neg (negsuc n) = refl

nat_abs_sub : (a b : ℕ) → nat_abs (sub_ℕ a b) ≤ a + b
nat_abs_sub a b = go (ltb a b) refl
  where
    go : (t : Bool) → ltb a b ≡ t → nat_abs (cond t (negsuc (b - suc a)) (pos (a - b))) ≤ a + b
    go true e = omega (arith, ltb-true a b e)
    go false e = omega arith

pub nat_abs_add : (a b : ℤ) → nat_abs (a +ℤ b) ≤ nat_abs a + nat_abs b
nat_abs_add (pos a) (pos b) = omega arith
nat_abs_add (pos a) (negsuc b) = nat_abs_sub a (suc b)
nat_abs_add (negsuc a) (pos b) = omega (arith, nat_abs_sub b (suc a))
nat_abs_add (negsuc a) (negsuc b) = omega arith

pub nat_abs_times : (g : ℕ) (z : ℤ) → nat_abs (pos g *ℤ z) ≡ g * nat_abs z
nat_abs_times g (pos n) = refl
nat_abs_times g (negsuc n) = nat_abs_neg (pos (g * suc n))

-- a product with the second factor's opposite
pub times_neg : (g : ℕ) (z : ℤ) → pos g *ℤ neg_ℤ z ≡ neg_ℤ (pos g *ℤ z)
times_neg g (pos zero) = let e : g * 0 ≡ 0 = mul-zero g in rw e
times_neg g (pos (suc n)) = refl
times_neg g (negsuc n) = sym (neg_ℤ-neg_ℤ (pos (g * suc n)))

-- a - b of natural numbers
pub minus_below : (a b : ℕ) → b ≤ a → pos a -ℤ pos b ≡ pos (a - b)
minus_below a zero h = ap pos (omega arith)
minus_below a (suc b) h = rw (le-ltb a (suc b) h)

pub minus_above : (a b : ℕ) → a ≤ b → pos a -ℤ pos b ≡ neg_ℤ (pos (b - a))
minus_above a b h =
    +ℤ_comm (pos a) (neg_ℤ (pos b))
    ∙ ap (λ (x : ℤ). neg_ℤ (pos b) +ℤ x) (sym (neg_ℤ-neg_ℤ (pos a)))
    ∙ sym (neg_ℤ-+ℤ (pos b) (neg_ℤ (pos a)))
    ∙ ap neg_ℤ (minus_below b a h)
