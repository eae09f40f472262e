-- Binary digits tell numbers apart.
use mathlib.Core.Path.{◌≡◌, sym, ap, ◌∙◌}
use Prim.Native.Nat.{ℕ, zero, suc, ◌/◌, ◌%◌, ◌^◌, ◌<◌}
use native.Mathlib.Nat.{pow-suc, pow-succ', div-one, div-div-eq-div-mul}
use native.Mathlib.Decide.{ℕ_discrete}
use native.Mathlib.Omega.{arith}

-- v's digit at place k
abbrev pub digit : ℕ → ℕ → ℕ
digit k v = (v / 2 ^ k) % 2

-- the digits of v / 2 are those of v from place 1 on
digit_half : (k v : ℕ) → digit k (v / 2) ≡ digit (suc k) v
digit_half k v = ap (λ (x : ℕ). x % 2) (div-div-eq-div-mul v 2 (2 ^ k) ∙ ap (λ (x : ℕ). v / x) (sym (pow-succ' 2 k)))

-- the digit at place 0
digit_zero : (v : ℕ) → digit 0 v ≡ v % 2
digit_zero v = ap (λ (x : ℕ). x % 2) (div-one v)

-- two different numbers below 2^K differ at some place below K
pub digits_differ : (K v w : ℕ) → v < 2 ^ K → w < 2 ^ K → (v ≡ w → ⊥) → (k : ℕ) × (k < K) × (digit k v ≡ digit k w → ⊥)
digits_differ zero v w lv lw ne = absurd (ne (omega arith))
digits_differ (suc K) v w lv lw ne = go (ℕ_discrete (v % 2) (w % 2)) (digits_differ K (v / 2) (w / 2))
  where
    Place : ℕ → ℕ → ℕ → Type 0
    Place b x y = (k : ℕ) × (k < b) × (digit k x ≡ digit k y → ⊥)

    go : Dec (v % 2 ≡ w % 2) → (v / 2 < 2 ^ K → w / 2 < 2 ^ K → (v / 2 ≡ w / 2 → ⊥) → Place K (v / 2) (w / 2)) → Place (suc K) v w
    go (yes e) ih =
        let r = ih (omega (arith, pow-suc 2 K)) (omega (arith, pow-suc 2 K)) (λ h. ne (omega arith)) in
        (suc r.0, omega (arith, r.1), λ h. r.2 (digit_half r.0 v ∙ h ∙ sym (digit_half r.0 w)))
    go (no e) ih = (0, omega arith, λ h. e (sym (digit_zero v) ∙ h ∙ digit_zero w))

-- what holds of two different digits holds of both
pub both_digits : (C : ℕ → Type 0) (p q : ℕ) → p < 2 → q < 2 → (p ≡ q → ⊥) → C p → C q → C 0 × C 1
both_digits C zero zero lp lq ne a b = absurd (ne (omega arith))
both_digits C zero (suc zero) lp lq ne a b = (a, b)
both_digits C (suc zero) zero lp lq ne a b = (b, a)
both_digits C (suc zero) (suc zero) lp lq ne a b = absurd (ne (omega arith))
both_digits C zero (suc (suc q)) lp lq ne a b = absurd (omega arith)
both_digits C (suc zero) (suc (suc q)) lp lq ne a b = absurd (omega arith)
both_digits C (suc (suc p)) q lp lq ne a b = absurd (omega arith)
