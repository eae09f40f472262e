-- The members of a set in rising order: the rank of a is how many members are at most a.
use mathlib.Core.Path.{◌≡◌, refl, sym, subst}
use mathlib.Core.Bool.{Bool, true, false}
use Prim.Native.Nat.{ℕ, zero, suc, ◌+◌, ◌≤◌, ◌<◌}
use native.Mathlib.Decide.{ℕ_discrete, dec_le, dec_lt}
use native.Mathlib.Omega.{arith}
use lib.Dec.{T}
use Rattle.base.specs.Sets.{Set, bit, count}

-- a longer range holds as many members at least
pub count_grow : (f : Set) (a b : ℕ) → a ≤ b → count a f ≤ count b f
unfolding count
count_grow f zero b l = omega arith
count_grow f (suc a) zero l = absurd (omega arith)
count_grow f (suc a) (suc b) l = go (ℕ_discrete a b) (count_grow f (suc a) b)
  where
    go : Dec (a ≡ b) → (suc a ≤ b → count (suc a) f ≤ count b f) → bit (f a) + count a f ≤ bit (f b) + count b f
    go (yes e) ih = rw e (omega arith)
    go (no d) ih = omega (arith, ih (omega arith))

-- a member counts itself
pub count_member : (f : Set) (a : ℕ) → T (f a) → count (suc a) f ≡ suc (count a f)
unfolding count
count_member f a p = go (f a) p
  where
    go : (b : Bool) → T b → bit b + count a f ≡ suc (count a f)
    go true h = omega arith
    go false h = absurd h

-- ranks rise as the members do
pub rank_rises : (f : Set) (a b : ℕ) → T (f b) → a < b → count (suc a) f < count (suc b) f
rank_rises f a b q l = omega (arith, count_member f b q, count_grow f (suc a) b l)

-- a member's rank says which it is
pub same_rank : (f : Set) (a b : ℕ) → T (f a) → T (f b) → count (suc a) f ≡ count (suc b) f → a ≡ b
same_rank f a b p q e = go (ℕ_discrete a b) (dec_lt a b)
  where
    go : Dec (a ≡ b) → Dec (a < b) → a ≡ b
    go (yes i) j = i
    go (no i) (yes j) = absurd (omega (arith, rank_rises f a b q j))
    go (no i) (no j) = absurd (omega (arith, rank_rises f b a p (omega arith)))

-- each rank from 1 to the count has a member
pub at_rank : (n : ℕ) (f : Set) (k : ℕ) → 1 ≤ k → k ≤ count n f → (a : ℕ) × (a < n) × T (f a) × (count (suc a) f ≡ k)
unfolding count
at_rank zero f k l h = absurd (omega arith)
at_rank (suc n) f k l h = go (f n) refl (dec_le k (count n f)) (at_rank n f k l)
  where
    R : ℕ → Type 0
    R m = (a : ℕ) × (a < m) × T (f a) × (count (suc a) f ≡ k)

    go : (b : Bool) → f n ≡ b → Dec (k ≤ count n f) → (k ≤ count n f → R n) → R (suc n)
    go b e (yes i) ih = let r = ih i in (r.0, omega (arith, r.1), r.2, r.3)
    go true e (no i) ih =
        let p : T (f n) = subst T (sym e) tt in
        let c : count (suc n) f ≡ k = omega (arith, count_member f n p) in
        (n, omega arith, p, c)
    go false e (no i) ih = let c : bit (f n) ≡ 0 = rw e refl in absurd (omega arith)
