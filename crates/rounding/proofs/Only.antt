-- A count goes to no other step. For counts from zero up, by the signs of step and rest; below zero by the opposites.
use mathlib.Core.Path.{◌≡◌, refl, sym, ap, ◌∙◌}
use mathlib.Core.Bool.{Bool, true, false, cond}
use Prim.Native.Nat.{ℕ, zero, suc, ◌+◌, ◌-◌, ◌*◌, ◌/◌, ◌%◌, ◌≤◌, ◌<◌}
use native.Mathlib.Nat.{mul-zero, mul-suc, mul-add-div, div-eq_of_lt, mul-add-mod_self_left, mod-eq_of_lt}
use native.Mathlib.Omega.{arith}
use lib.Dec.{T, ltb}
use lib.IntN.{ℤ, pos, negsuc, neg_ℤ, nat_abs, neg_ℤ-neg_ℤ, neg_ℤ-+ℤ, +ℤ_comm, +ℤ-neg_ℤ_cancel, pos-ne-negsuc, ◌+ℤ◌, ◌-ℤ◌, ◌*ℤ◌}
use borrow.Author.Tests.{ltb-false}
use Rattle.rounding.specs.Rounding.{size_passes, nearest_step, remainder}
use Rattle.rounding.specs.Statement.{GoesTo}
use Rattle.integers.proofs.Magnitudes.{nat_abs_neg, times_neg}
use Rattle.rounding.proofs.Steps.{even, least, nearest_below, nearest_above}

-- ---- natural numbers

quotient : (g q k m : ℕ) → k < g → m ≡ g * q + k → (m / g ≡ q) × (m % g ≡ k)
quotient g q k m h e = (
  ap (λ (x : ℕ). x / g) e ∙ mul-add-div (omega arith) q k ∙ ap (λ (x : ℕ). q + x) (div-eq_of_lt h) ∙ omega arith,
  ap (λ (x : ℕ). x % g) e ∙ mul-add-mod_self_left g q k ∙ mod-eq_of_lt h,
)

-- a difference that is not negative
minus_is : (a b m : ℕ) → pos m ≡ pos a -ℤ pos b → m + b ≡ a
minus_is a zero m e = omega (arith, ap nat_abs e)
minus_is a (suc b) m e = go (ltb a (suc b)) refl e
  where
    go : (t : Bool) → ltb a (suc b) ≡ t → pos m ≡ cond t (negsuc (suc b - suc a)) (pos (a - suc b)) → m + suc b ≡ a
    go true h e = absurd (pos-ne-negsuc m (suc b - suc a) e)
    go false h e = omega (arith, ap nat_abs e, ltb-false a (suc b) h)

not_negative : (m x : ℕ) → pos m ≡ neg_ℤ (pos x) → x ≡ 0
not_negative m zero e = refl
not_negative m (suc x) e = absurd (pos-ne-negsuc m x e)

-- ---- a count from zero up

module _ (g m : ℕ) (p : T (size_passes g)) where
  at_or_below : (q k : ℕ) → k ≤ g / 2 → m ≡ g * q + k → pos q ≡ nearest_step g (pos m)
  at_or_below q k h e =
      let d = quotient g q k m (omega (arith, least g p)) e in
      let f : m % g ≤ g / 2 = omega (arith, d.1) in
      sym (nearest_below g (pos m) f ∙ ap pos d.0)

  -- the step above, of which less than half is missing: a half is the step below's
  over : (q k : ℕ) → suc k ≤ g / 2 → (suc k ≡ g / 2 → g * q ≤ m) → m + suc k ≡ g * q → pos q ≡ nearest_step g (pos m)
  over zero k h t e = absurd (omega (arith, mul-zero g))
  over (suc q) k h t e =
      let n : suc k ≡ g / 2 → ⊥ = λ u. let v : g * suc q ≤ m = t u in omega arith in
      let d = quotient g q (g - suc k) m (omega (arith, least g p)) (omega (arith, mul-suc g q)) in
      let f : g / 2 < m % g = omega (arith, d.1, even g p) in
      sym (nearest_above g (pos m) f ∙ ap pos (omega (arith, d.0)))

  only_step : (s r : ℤ) → GoesTo g (pos m) s r → s ≡ nearest_step g (pos m)
  only_step (pos q) (pos k) w = at_or_below q k (omega (arith, w.half)) (ap nat_abs w.sum)
  only_step (pos q) (negsuc k) w = over q k (omega (arith, w.half)) w.towards_zero (minus_is (g * q) (suc k) m w.sum)
  only_step (negsuc q) (pos k) w =
      let e : m + g * suc q ≡ k = minus_is k (g * suc q) m (w.sum ∙ +ℤ_comm (neg_ℤ (pos (g * suc q))) (pos k)) in
      absurd (omega (arith, mul-suc g q, w.half, least g p))
  only_step (negsuc q) (negsuc k) w =
      let e : g * suc q + suc k ≡ 0 = not_negative m (g * suc q + suc k) (w.sum ∙ sym (neg_ℤ-+ℤ (pos (g * suc q)) (pos (suc k)))) in
      absurd (omega arith)

-- ---- and below zero

opposite : (g : ℕ) (c s r : ℤ) → GoesTo g c s r → GoesTo g (neg_ℤ c) (neg_ℤ s) (neg_ℤ r)
opposite g c s r w = record {
  sum = ap neg_ℤ w.sum ∙ neg_ℤ-+ℤ (pos g *ℤ s) r ∙ ap (λ (x : ℤ). x +ℤ neg_ℤ r) (sym (times_neg g s));
  half = rw (nat_abs_neg r) w.half;
  towards_zero = λ e. rw (times_neg g s, nat_abs_neg (pos g *ℤ s), nat_abs_neg c) (w.towards_zero (sym (nat_abs_neg r) ∙ e));
}

same_step : (g : ℕ) (c s r : ℤ) → T (size_passes g) → GoesTo g c s r → s ≡ nearest_step g c
unfolding nearest_step
same_step g (pos m) s r p w = only_step g m p s r w
same_step g (negsuc n) s r p w =
    sym (neg_ℤ-neg_ℤ s) ∙ ap neg_ℤ (only_step g (suc n) p (neg_ℤ s) (neg_ℤ r) (opposite g (negsuc n) s r w))

pub only : (g : ℕ) (c s r : ℤ) → T (size_passes g) → GoesTo g c s r → (s ≡ nearest_step g c) × (r ≡ remainder g c)
unfolding remainder
only g c s r p w =
    let e : s ≡ nearest_step g c = same_step g c s r p w in
    let f : r ≡ c -ℤ pos g *ℤ s =
    sym (+ℤ-neg_ℤ_cancel r (pos g *ℤ s)) ∙ ap (λ (x : ℤ). x -ℤ pos g *ℤ s) (+ℤ_comm r (pos g *ℤ s) ∙ sym w.sum) in
    (e, f ∙ ap (λ (x : ℤ). c -ℤ pos g *ℤ x) e)
