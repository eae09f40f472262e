-- Laws of marks: one stored, those of a part, counted and searched.
use mathlib.Core.Path.{◌≡◌, refl, sym, ap, ◌∙◌}
use mathlib.Core.List.{List}
use mathlib.Core.Bool.{Bool, true, false, not}
use Prim.Native.Nat.{ℕ, zero, suc, ◌+◌, ◌≤◌, ◌<◌}
use native.Mathlib.Numerals.{add-one}
use native.Mathlib.Decide.{ℕ_discrete, dec_lt}
use native.Mathlib.Omega.{arith}
use lib.Dec.{T, eqb, eqb→eq}
use lib.ListN.{length, get_or, set, take, replicate, length-replicate, get_or-replicate, get_or-eq_default}
use lib.Seq.{get_or-set_same, get_or-set_other}
use borrow.Author.Tests.{eq-eqb, ne_eqb, lt-ltb, le-ltb}
use Rattle.std.specs.Prelude.{position, unwrap_or}
use Rattle.std.specs.List.{position_or_len}
use Rattle.std.proofs.lemmas.List.{length-take-le, get_or-take}
use Rattle.std.proofs.lemmas.List.Sums.{prefix_len_is, prefix_len-le-length}
use Rattle.base.specs.Pick.{smallest}
use Rattle.base.specs.Sets.{bit, count}
use Rattle.base.proofs.Bools.{T→true, not-T→false}
use Rattle.base.proofs.Counts.{count_le}
use Rattle.base.proofs.Smallest.{Sought, sought}
use Rattle.marks.specs.Marks.{marked, numbered}

-- ---- a mark

-- a store at x changes the mark at x
pub marked_same : (m : List ℕ) (x v : ℕ) → x < length m → marked (set m x v) x ≡ eqb v 1
unfolding marked
marked_same m x v l = ap (λ (z : ℕ). eqb z 1) (get_or-set_same m x v 0 l)

-- and no other
pub marked_other : (m : List ℕ) (x y v : ℕ) → (y ≡ x → ⊥) → marked (set m x v) y ≡ marked m y
unfolding marked
marked_other m x y v d = ap (λ (z : ℕ). eqb z 1) (get_or-set_other m x y v 0 d)

-- nothing but 0
pub zeros : (n x : ℕ) → ◌≡◌ {A = ℕ} (get_or (replicate n 0) x 0) 0
zeros n x = go (dec_lt x n)
  where
    go : Dec (x < n) → ◌≡◌ {A = ℕ} (get_or (replicate n 0) x 0) 0
    go (yes l) = get_or-replicate {A = ℕ} n x 0 0 l
    go (no l) = get_or-eq_default {A = ℕ} (replicate n 0) 0 {n = x} (rw (length-replicate {A = ℕ} n 0) (omega arith))

-- no position is marked
pub blank : (n x : ℕ) → marked (replicate n 0) x ≡ false
unfolding marked
blank n x = ap (λ (z : ℕ). eqb z 1) (zeros n x)

pub on : (m : List ℕ) (x : ℕ) → get_or m x 0 ≡ 1 → T (marked m x)
unfolding marked
on m x e = rw e tt

pub off : (m : List ℕ) (x : ℕ) → (get_or m x 0 ≡ 1 → ⊥) → T (marked m x) → ⊥
unfolding marked
off m x d h = d (eqb→eq (get_or m x 0) 1 h)

-- a number compared with k
mark_on : (x k : ℕ) → x ≡ k → 1 ≡ bit (eqb x k)
mark_on x k e = sym (ap bit (eq-eqb x k e))

mark_off : (x k : ℕ) → (x ≡ k → ⊥) → 0 ≡ bit (eqb x k)
mark_off x k d = sym (ap bit (ne_eqb x k d))

-- a mark is 0 or 1
module _ (l : List ℕ) (x : ℕ) (m : get_or l x 0 ≤ 1) where
  pub mark_bit : get_or l x 0 ≡ bit (marked l x)
  unfolding marked
  mark_bit = go (ℕ_discrete (get_or l x 0) 1)
    where
      go : Dec (get_or l x 0 ≡ 1) → get_or l x 0 ≡ bit (eqb (get_or l x 0) 1)
      go (yes e) = e ∙ mark_on (get_or l x 0) 1 e
      go (no d) = omega (arith, mark_off (get_or l x 0) 1 d)

  pub numbered_mark : numbered l x ≡ marked l x
  unfolding numbered marked
  numbered_mark = go (ℕ_discrete (get_or l x 0) 1)
    where
      go : Dec (get_or l x 0 ≡ 1) → not (eqb (get_or l x 0) 0) ≡ eqb (get_or l x 0) 1
      go (yes e) = rw e
      go (no d) = let e : get_or l x 0 ≡ 0 = omega arith in rw e

-- ---- marks counted and searched

bit_le : (b : Bool) → bit b ≤ 1
bit_le true = omega arith
bit_le false = omega arith

pub count_start : (m : List ℕ) → 0 ≡ count 0 (marked m)
unfolding count
count_start m = refl

-- r marks before x and one there if b
pub count_step : (m : List ℕ) (x r b : ℕ) → r ≡ count x (marked m) → b ≡ bit (eqb (get_or m x 0) 1) → r + b ≡ count (x + 1) (marked m)
unfolding count marked
count_step m x r b e i = rw (add-one x) (omega arith)

-- so few that they fit
pub count_few : (m : List ℕ) (x r b : ℕ) → r ≡ count x (marked m) → b ≡ bit (eqb (get_or m x 0) 1) → r + b ≤ x + 1
count_few m x r b e i = omega (arith, count_le x (marked m), bit_le (eqb (get_or m x 0) 1))

-- the place that `position` gives, or the length
position_is : (p : ℕ → Bool) (xs : List ℕ) (n : ℕ) → length xs ≡ n → unwrap_or (position p xs) n ≡ position_or_len p xs
position_is p xs n e = go (dec_lt (position_or_len p xs) (length xs))
  where
    go : Dec (position_or_len p xs < length xs) → unwrap_or (position p xs) n ≡ position_or_len p xs
    go (yes l) = rw (lt-ltb _ _ l) refl
    go (no l) = let h : length xs ≤ position_or_len p xs = omega arith in rw (le-ltb _ _ h) (omega (arith, prefix_len-le-length (λ x. not (p x)) xs))

-- the first 1 among the first n elements stands at the smallest marked position
abbrev pub one : ℕ → Bool
one x = eqb x 1

pub first_mark : (m : List ℕ) (n : ℕ) → n ≤ length m → unwrap_or (position one (take n m)) n ≡ smallest n (marked m)
unfolding marked
first_mark m n l = position_is one (take n m) n e ∙ prefix_len_is (λ x. not (one x)) (take n m) r 0 (rw e s.most) before at
  where
    e : length (take n m) ≡ n
    e = length-take-le n m l

    r : ℕ
    r = smallest n (marked m)

    s : Sought n (marked m) r
    s = sought n (marked m)

    before : (k : ℕ) → k < r → not (one (get_or (take n m) k 0)) ≡ true
    before k h = rw (get_or-take n m k 0 (omega (arith, s.most))) (ap not (not-T→false (one (get_or m k 0)) (s.none k h)))

    at : r < length (take n m) → not (one (get_or (take n m) r 0)) ≡ false
    at h = let h : r < n = rw e at h in rw (get_or-take n m r 0 h) (ap not (T→true _ (s.hit h)))
