-- What the tests and searches of the rules tell: equal numbers, the smallest value and the first candidate that passes.
use mathlib.Core.Path.{◌≡◌, refl, sym, subst}
use mathlib.Core.Logic.{inl, inr}
use mathlib.Core.Bool.{Bool, true, false, not}
use Prim.Native.Nat.{ℕ, ◌+◌, ◌≤◌, ◌<◌}
use native.Mathlib.Omega.{arith}
use borrow.Author.Tests.{le-leb, lt-leb}
use lib.Dec.{T, leb, eqb, T_not, not_T, leb→le, le→leb, ltb→lt, lt→ltb, eqb→eq, eqb_refl}
use Rattle.base.specs.Pick.{pick}
use Rattle.base.specs.Sets.{Set, count}
use Rattle.base.proofs.Bools.{true→T}
use Rattle.base.proofs.Counts.{count_pos, count_mono, count_one}
use Rattle.base.proofs.Smallest.{sought, found}
use Rattle.message.specs.Message.{none_value}
use Rattle.level.specs.declared.Context.{Context}
use Rattle.level.specs.Counts.{candidate, candidates}
use Rattle.level_laws.specs.Inner.{Candidate}
use Rattle.level.specs.Rules.{smallest_value, is_value, first_candidate, is_candidate}

-- ---- tests

-- equal numbers pass the test
pub eq→eqb : (a b : ℕ) → a ≡ b → T (eqb a b)
eq→eqb a b e = subst (λ (x : ℕ). T (eqb a x)) e (eqb_refl a)

-- different numbers fail it
pub ne→neqb : (a b : ℕ) → (a ≡ b → ⊥) → T (not (eqb a b))
ne→neqb a b d = not_T (eqb a b) (λ h. d (eqb→eq a b h))

-- numbers that fail it are different
pub neqb→ne : (a b : ℕ) → T (not (eqb a b)) → a ≡ b → ⊥
neqb→ne a b h e = T_not (eqb a b) h (eq→eqb a b e)

-- ---- searches

-- none is the largest candidate
pub candidate_small : (c : Context) (w : ℕ) → c.degree ≤ none_value → Candidate c w → w ≤ none_value
candidate_small c w h (inl k) = omega arith
candidate_small c w h (inr e) = omega arith

-- the i-th candidate is a candidate
pub candidate_is : (c : Context) (i : ℕ) → Candidate c (candidate c i)
candidate_is c i = go (leb i c.degree) refl
  where
    go : (b : Bool) → leb i c.degree ≡ b → Candidate c (pick b i none_value)
    go true e = inl (leb→le i c.degree (true→T e))
    go false e = inr refl

-- each candidate is the i-th for some i
candidate_at : (c : Context) (w : ℕ) → Candidate c w → (i : ℕ) × (i < candidates c) × (candidate c i ≡ w)
candidate_at c w (inl h) = (w, omega arith, rw (le-leb w c.degree h))
candidate_at c w (inr e) = (c.degree + 1, omega arith, rw (lt-leb (c.degree + 1) c.degree (omega arith)) (sym e))

-- the candidate that the search finds passes
pub candidate_hit : (c : Context) (p : ℕ → Bool) → T (is_candidate c (first_candidate c p)) → T (p (candidate c (first_candidate c p)))
candidate_hit c p t = (sought (candidates c) (λ i. p (candidate c i))).hit (ltb→lt (first_candidate c p) (candidates c) t)

-- where a candidate passes, the search finds one
pub candidate_found : (c : Context) (p : ℕ → Bool) (w : ℕ) → Candidate c w → T (p w) → T (is_candidate c (first_candidate c p))
candidate_found c p w h q =
    let i = candidate_at c w h in
    lt→ltb (first_candidate c p) (candidates c) (found (candidates c) (λ j. p (candidate c j)) i.0 i.1 (rw i.2 q)).1

-- the value that the search finds passes
pub value_hit : (c : Context) (p : ℕ → Bool) → T (is_value c (smallest_value c p)) → (smallest_value c p ≤ c.degree) × T (p (smallest_value c p))
value_hit c p t =
    let h : smallest_value c p ≤ c.degree = leb→le (smallest_value c p) c.degree t in
    (h, (sought (c.degree + 1) p).hit (omega arith))

-- where a value passes, the search finds one
pub value_found : (c : Context) (p : ℕ → Bool) (v : ℕ) → v ≤ c.degree → T (p v) → T (is_value c (smallest_value c p))
value_found c p v h q =
    let w = found (c.degree + 1) p v (omega arith) q in
    le→leb (smallest_value c p) c.degree (omega (arith, w.1))

-- a single member below n
pub count_alone : (n : ℕ) (p : Set) (v : ℕ) → v < n → T (p v) → ((u : ℕ) → u < n → T (p u) → u ≡ v) → count n p ≡ 1
count_alone n p v l q h =
    omega (
      arith,
      count_pos n p v l q,
      count_mono n p (λ i. eqb i v) (λ i k t. eq→eqb i v (h i k t)),
      count_one n (λ i. eqb i v) v (λ i t. eqb→eq i v t),
    )
