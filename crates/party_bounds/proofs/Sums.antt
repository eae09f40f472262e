-- Sums over the numbers below a bound.
use Prim.Native.Nat.{ℕ, zero, suc, ◌+◌, ◌*◌, ◌≤◌, ◌<◌}
use native.Mathlib.Nat.{mul-suc, not-suc-le-zero}
use native.Mathlib.Decide.{ℕ_discrete}
use native.Mathlib.Omega.{arith}
use mathlib.Core.Path.{◌≡◌, subst}

-- f 0 + .. + f (n - 1)
unfoldable pub sum : ℕ → (ℕ → ℕ) → ℕ
sum zero f = 0
sum (suc n) f = f n + sum n f

-- of terms that are at most k
pub sum_most : (n k : ℕ) (f : ℕ → ℕ) → ((i : ℕ) → f i ≤ k) → sum n f ≤ k * n
unfolding sum
sum_most zero k f h = omega arith
sum_most (suc n) k f h = omega (arith, h n, sum_most n k f h, mul-suc k n)

-- where no term is larger, the sum is not
pub sum_le : (n : ℕ) (f g : ℕ → ℕ) → ((i : ℕ) → f i ≤ g i) → sum n f ≤ sum n g
unfolding sum
sum_le zero f g h = omega arith
sum_le (suc n) f g h = omega (arith, h n, sum_le n f g h)

-- and where term v is smaller by d, so is the sum
pub sum_less : (n : ℕ) (f g : ℕ → ℕ) (v d : ℕ) → v < n → f v + d ≤ g v → ((i : ℕ) → f i ≤ g i) → sum n f + d ≤ sum n g
unfolding sum
sum_less zero f g v d l e h = absurd (not-suc-le-zero l)
sum_less (suc n) f g v d l e h = go (ℕ_discrete v n) (sum_less n f g v d)
  where
    go : Dec (v ≡ n) → (v < n → f v + d ≤ g v → ((i : ℕ) → f i ≤ g i) → sum n f + d ≤ sum n g) → (f n + sum n f) + d ≤ g n + sum n g
    go (yes i) ih =
        let k : f n + d ≤ g n = subst (λ (x : ℕ). f x + d ≤ g x) i e in
        omega (arith, sum_le n f g h)
    go (no i) ih = omega (arith, h n, ih (omega arith) e h)
