-- High minus low, of readings raised by 2^32 and of the numbers that they stand for.
use mathlib.Core.Path.{◌≡◌, refl, sym, ap, ap₂, ◌∙◌, subst}
use mathlib.Core.Bool.{Bool, true, false}
use Prim.Native.Nat.{ℕ, zero, suc, ◌+◌, ◌-◌, ◌≤◌, ◌<◌}
use native.Mathlib.Omega.{arith}
use lib.Dec.{ltb}
use Rattle.std.specs.Prelude.{Some, None}
use lib.IntN.{ℤ, pos, negsuc, neg_ℤ, sub_ℕ, ◌-ℤ◌}
use borrow.Author.Tests.{ltb-true, ltb-false, lt-ltb, le-ltb, le-leb, lt-leb}
use Rattle.base.specs.Pick.{pick}
use Rattle.base.specs.Limits.{max_number}
use Rattle.signed.specs.Signed.{zigzag}
use Rattle.script_numbers.specs.declared.Reading.{Reading}
use Rattle.range_plan.specs.Range.{integer, with_width, fields_of, raised_by}

-- ---- a minus b, of natural numbers

above : (a b x : ℕ) → b ≤ a → a - b ≡ x → pos x ≡ sub_ℕ a b
above a b x l e = rw (le-ltb a b l) (ap pos (sym e))

below : (a b x : ℕ) → a < b → b - suc a ≡ x → negsuc x ≡ sub_ℕ a b
below a b x l e = rw (lt-ltb a b l) (ap negsuc (sym e))

same : (a b c d : ℕ) → a + d ≡ c + b → sub_ℕ a b ≡ sub_ℕ c d
same a b c d e = go (ltb a b) refl
  where
    go : (t : Bool) → ltb a b ≡ t → sub_ℕ a b ≡ sub_ℕ c d
    go true q = let l : a < b = ltb-true a b q in sym (below a b (b - suc a) l refl) ∙ below c d (b - suc a) (omega arith) (omega arith)
    go false q = let l : b ≤ a = ltb-false a b q in sym (above a b (a - b) l refl) ∙ above c d (a - b) (omega arith) (omega arith)

-- ---- of readings

abbrev size : ℕ
size = max_number + 1

abbrev sign_of : Bool → ℕ → ℤ
sign_of t m = pick t (neg_ℤ (pos m)) (pos m)

abbrev raise : Bool → ℕ → ℕ
raise t m = pick t (size - m) (size + m)

-- n, below zero or not, minus m, below zero or not
minus : (t s : Bool) (n m : ℕ) → n ≤ max_number → m ≤ max_number → sign_of t n -ℤ sign_of s m ≡ sub_ℕ (raise t n) (raise s m)
minus false false n zero p q = above (size + n) (size + 0) (n + 0) (omega arith) (omega arith)
minus false false n (suc m) p q = same n (suc m) (size + n) (size + suc m) (omega arith)
minus false true n zero p q = above (size + n) (size - 0) (n + 0) (omega arith) (omega arith)
minus false true n (suc m) p q = above (size + n) (size - suc m) (n + suc m) (omega arith) (omega arith)
minus true false zero zero p q = above (size - 0) (size + 0) 0 (omega arith) (omega arith)
minus true false zero (suc m) p q = same 0 (suc m) (size - 0) (size + suc m) (omega arith)
minus true false (suc n) zero p q = same 0 (suc n) (size - suc n) (size + 0) (omega arith)
minus true false (suc n) (suc m) p q = below (size - suc n) (size + suc m) (suc (n + m)) (omega arith) (omega arith)
minus true true zero zero p q = above (size - 0) (size - 0) 0 (omega arith) (omega arith)
minus true true zero (suc m) p q = above (size - 0) (size - suc m) (0 + suc m) (omega arith) (omega arith)
minus true true (suc n) zero p q = same 0 (suc n) (size - suc n) (size - 0) (omega arith)
minus true true (suc n) (suc m) p q = same (suc m) (suc n) (size - suc n) (size - suc m) (omega arith)

-- ---- the numbers of a range's plan, by what is asked of z, a and b

module _ (low high : Reading) {z a b : ℕ} (e : z ≡ zigzag (integer low)) (f : a ≡ raised_by low) (g : b ≡ raised_by high)
    (p : low.magnitude ≤ max_number) (q : high.magnitude ≤ max_number)
  where
    difference : integer high -ℤ integer low ≡ sub_ℕ b a
    difference = minus high.negative low.negative high.magnitude low.magnitude q p ∙ sym (ap₂ sub_ℕ g f)

    low_fits : z ≤ max_number → fields_of low high ≡ with_width z (sub_ℕ b a)
    unfolding fields_of
    low_fits h = rw (le-leb (zigzag (integer low)) max_number (subst (λ v. v ≤ max_number) e h)) (ap₂ with_width (sym e) difference)

    pub no_low : max_number < z → None ≡ fields_of low high
    unfolding fields_of
    no_low h = rw (lt-leb (zigzag (integer low)) max_number (subst (λ v. max_number < v) e h))

    pub no_width : z ≤ max_number → b < a → None ≡ fields_of low high
    no_width h l = sym (low_fits h ∙ ap (with_width z) (sym (below b a (a - suc b) l refl)))

    pub too_wide : z ≤ max_number → a ≤ b → max_number < b - a → None ≡ fields_of low high
    too_wide h l w = sym (low_fits h ∙ ap (with_width z) (sym (above b a (b - a) l refl)) ∙ rw (lt-leb (b - a) max_number w))

    pub both_fit : z ≤ max_number → a ≤ b → b - a ≤ max_number → Some (record { low = z; width = b - a }) ≡ fields_of low high
    both_fit h l w = sym (low_fits h ∙ ap (with_width z) (sym (above b a (b - a) l refl)) ∙ rw (le-leb (b - a) max_number w))
