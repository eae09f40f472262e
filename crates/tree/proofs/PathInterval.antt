-- Intervals of positions: their members and their sizes.
use mathlib.Core.Path.{◌≡◌, refl, sym, subst, fun_ext}
use mathlib.Core.Bool.{Bool, true, false}
use Prim.Native.Nat.{ℕ, zero, suc, ◌+◌, ◌-◌, min, ◌≤◌, ◌<◌}
use native.Mathlib.Decide.{dec_le}
use native.Mathlib.Omega.{arith}
use lib.Dec.{T, leb, leb→le, le→leb, lt→ltb, ltb→lt}
use Rattle.base.specs.Sets.{Set, bit, count}
use Rattle.base.proofs.Bools.{T_and, T-left, T-right, T-ext}
use Rattle.tree.specs.Component.{upto}
use Rattle.tree.specs.Inner.{interval}

pub to_interval : (a b x : ℕ) → a ≤ x → x ≤ b → T (interval a b x)
unfolding interval
to_interval a b x l m = T_and (leb a x) (leb x b) (le→leb a x l) (le→leb x b m)

pub from_interval : (a b x : ℕ) → T (interval a b x) → (a ≤ x) × (x ≤ b)
unfolding interval
from_interval a b x h = (leb→le a x (T-left (leb a x) (leb x b) h), leb→le x b (T-right (leb a x) (leb x b) h))

-- a set that has the numbers from a to b, and no others, is the interval
pub interval_ext : (S : Set) (a b : ℕ) → ((x : ℕ) → T (S x) → (a ≤ x) × (x ≤ b)) → ((x : ℕ) → a ≤ x → x ≤ b → T (S x)) → S ≡ interval a b
interval_ext S a b f g = fun_ext (λ x. T-ext (S x) (interval a b x) (λ h. let r = f x h in to_interval a b x r.0 r.1) (λ h. let r = from_interval a b x h in g x r.0 r.1))

-- all positions are an interval
pub upto_interval : (n : ℕ) → 0 < n → upto n ≡ interval 0 (n - 1)
unfolding upto
upto_interval n l = interval_ext (upto n) 0 (n - 1) (λ x h. let k : x < n = ltb→lt x n h in (omega arith, omega arith)) (λ x p q. lt→ltb x n (omega arith))

-- how many of 0 .. k-1 lie in the interval
pub count_interval : (a b k : ℕ) → count k (interval a b) ≡ min k (b + 1) - a
unfolding count
count_interval a b zero = omega arith
count_interval a b (suc k) = go (dec_le a k) (dec_le k b) (interval a b k) refl (count_interval a b k)
  where
    go : Dec (a ≤ k) → Dec (k ≤ b) → (d : Bool) → interval a b k ≡ d → count k (interval a b) ≡ min k (b + 1) - a → bit d + count k (interval a b) ≡ min (suc k) (b + 1) - a
    go (yes l) (yes m) true i h = omega arith
    go (yes l) (yes m) false i h = absurd (subst T i (to_interval a b k l m))
    go (yes l) (no m) true i h = absurd (m (from_interval a b k (subst T (sym i) tt)).1)
    go (yes l) (no m) false i h = omega arith
    go (no l) m true i h = absurd (l (from_interval a b k (subst T (sym i) tt)).0)
    go (no l) m false i h = omega arith

-- its size
pub interval_size : (n a b : ℕ) → b < n → count n (interval a b) ≡ b + 1 - a
interval_size n a b l = omega (arith, count_interval a b n)
