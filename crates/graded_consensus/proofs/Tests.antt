-- The test whether two numbers are equal.
use mathlib.Core.Path.{◌≡◌, subst}
use mathlib.Core.Bool.{not}
use Prim.Native.Nat.{ℕ}
use lib.Dec.{T, eqb, eqb→eq, eqb_refl, T_not, not_T}

-- the test of equality, both ways
pub same : (x y : ℕ) → x ≡ y → T (eqb x y)
same x y e = subst (λ (z : ℕ). T (eqb x z)) e (eqb_refl x)

pub differs : (x y : ℕ) → T (not (eqb x y)) → x ≡ y → ⊥
differs x y h e = T_not (eqb x y) h (same x y e)

pub not_same : (x y : ℕ) → (x ≡ y → ⊥) → T (not (eqb x y))
not_same x y d = not_T (eqb x y) (λ h. d (eqb→eq x y h))
