-- Laws for loops that count up from 0 and search, count or store on the way.
use mathlib.Core.Path.{◌≡◌, refl, sym, ap, ◌∙◌}
use mathlib.Core.List.{List}
use mathlib.Core.Bool.{Bool, true, false, ◌||◌}
use Prim.Native.Nat.{ℕ, zero, suc, ◌+◌, ◌≤◌, ◌<◌}
use native.Mathlib.Nat.{lt_irrefl, add_comm}
use native.Mathlib.Decide.{ℕ_discrete}
use native.Mathlib.Numerals.{add-one}
use native.Mathlib.Omega.{arith}
use lib.Dec.{T, ltb, ltb→lt}
use lib.ListN.{length, get_or, set}
use lib.Seq.{get_or-set_same, get_or-set_other}
use Rattle.base.specs.Pick.{pick, smallest}
use Rattle.base.specs.Sets.{Set, bit, count}
use Rattle.base.proofs.Bools.{not-T→false, true→T}
use Rattle.base.proofs.Smallest.{sought, smallest_is}

-- ---- a count

pub count_start : (f : Set) → count 0 f ≡ 0
unfolding count
count_start f = refl

pub count_next : (f : Set) (n : ℕ) → count (n + 1) f ≡ count n f + bit (f n)
unfolding count
count_next f n = ap (λ (k : ℕ). count k f) (add-one n) ∙ add_comm (bit (f n)) (count n f)

-- the same count, taken from the other end
pub count_low : (n : ℕ) (f : Set) → count (suc n) f ≡ bit (f 0) + count n (λ i. f (suc i))
unfolding count
count_low zero f = refl
count_low (suc n) f = omega (arith, count_low n f)

-- ---- a search: smallest i f ≡ i says that no number below i passes

pub search_start : (f : Set) → smallest 0 f ≡ 0
unfolding smallest
search_start f = refl

pub smallest_next : (f : Set) (n : ℕ) → smallest (n + 1) f ≡ pick (ltb (smallest n f) n || f n) (smallest n f) (n + 1)
unfolding smallest
smallest_next f n =
    ap (λ (k : ℕ). smallest k f) (add-one n) ∙ ap (λ (k : ℕ). pick (ltb (smallest n f) n || f n) (smallest n f) k) (sym (add-one n))

pub search_next : (f : Set) (i : ℕ) → smallest i f ≡ i → f i ≡ false → smallest (i + 1) f ≡ i + 1
search_next f i e h = smallest_next f i ∙ step (smallest i f) e
  where
    ltb_irrefl : (n : ℕ) → ltb n n ≡ false
    ltb_irrefl n = not-T→false (ltb n n) (λ p. lt_irrefl n (ltb→lt n n p))

    step : (r : ℕ) → r ≡ i → pick (ltb r i || f i) r (i + 1) ≡ i + 1
    step r q = rw (q, ltb_irrefl i, h)

pub search_hit : (f : Set) (n i : ℕ) → smallest i f ≡ i → i < n → f i ≡ true → i ≡ smallest n f
search_hit f n i e l h = sym (smallest_is n f i l (true→T h) (λ j k p. (sought i f).none j (rw e k) p))

-- what a search finds is within its bound
pub search_le : (n : ℕ) (f : Set) (r : ℕ) → r ≡ smallest n f → r ≤ n
search_le n f r e = rw e (sought n f).most

-- ---- a store

-- a value f x is stored at each x in turn
pub stored : (f : ℕ → ℕ) (l : List ℕ) (x : ℕ) → x < length l → ((y : ℕ) → y < x → get_or l y 0 ≡ f y) → (y : ℕ) → y < x + 1 → get_or (set l x (f x)) y 0 ≡ f y
stored f l x h k y b = go (ℕ_discrete y x)
  where
    go : Dec (y ≡ x) → get_or (set l x (f x)) y 0 ≡ f y
    go (yes e) = rw e (get_or-set_same l x (f x) 0 h)
    go (no d) = get_or-set_other l x y (f x) 0 d ∙ k y (omega arith)
