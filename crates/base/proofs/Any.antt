-- Whether some number below a bound passes.
use mathlib.Core.Path.{◌≡◌, refl, ap₂, subst}
use mathlib.Core.Logic.{◌⊎◌, inl, inr}
use mathlib.Core.Bool.{◌||◌}
use Prim.Native.Nat.{ℕ, zero, suc, ◌<◌}
use native.Mathlib.Nat.{le_refl}
use native.Mathlib.Decide.{ℕ_discrete}
use native.Mathlib.Omega.{arith}
use lib.Dec.{T}
use Rattle.base.specs.Sets.{Set}
use Rattle.base.specs.Inner.{any_below}
use Rattle.base.proofs.Bools.{or_split, or_left, or_right}

-- where some number below k passes, here is one
pub below_some : (k : ℕ) (f : Set) → T (any_below k f) → (x : ℕ) × (x < k) × T (f x)
unfolding any_below
below_some zero f h = absurd h
below_some (suc k) f h = go (or_split (f k) (any_below k f) h) (below_some k f)
  where
    go : T (f k) ⊎ T (any_below k f) → (T (any_below k f) → (x : ℕ) × (x < k) × T (f x)) → (x : ℕ) × (x < suc k) × T (f x)
    go (inl p) ih = (k, omega arith, p)
    go (inr p) ih = let r = ih p in (r.0, omega (arith, r.1), r.2)

-- a number that passes shows
pub some_below : (k : ℕ) (f : Set) (x : ℕ) → x < k → T (f x) → T (any_below k f)
unfolding any_below
some_below zero f x l p = absurd (omega arith)
some_below (suc k) f x l p = go (ℕ_discrete x k) (some_below k f x)
  where
    go : Dec (x ≡ k) → (x < k → T (f x) → T (any_below k f)) → T (f k || any_below k f)
    go (yes e) ih = or_left (f k) (any_below k f) (subst (λ (y : ℕ). T (f y)) e p)
    go (no e) ih = or_right (f k) (any_below k f) (ih (omega arith) p)

-- equal tests agree
pub any_same : (k : ℕ) (f g : Set) → ((v : ℕ) → v < k → f v ≡ g v) → any_below k f ≡ any_below k g
unfolding any_below
any_same zero f g h = refl
any_same (suc k) f g h = ap₂ ◌||◌ (h k (le_refl (suc k))) (any_same k f g (λ v i. h v (omega arith)))
