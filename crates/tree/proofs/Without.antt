-- A set without one of its members.
use mathlib.Core.Path.{subst}
use mathlib.Core.Bool.{not}
use Prim.Native.Nat.{ℕ}
use lib.Dec.{T, eqb, eqb→eq, eqb_refl, T_not, not_T}
use Rattle.base.specs.Sets.{Set}
use Rattle.base.proofs.Bools.{T_and, T-left, T-right}
use Rattle.tree.specs.Walk.{Not}
use Rattle.tree.specs.Component.{without}

-- members of a set without c
pub to_without : (S : Set) (c x : ℕ) → T (S x) → Not c x → T (without S c x)
unfolding without
to_without S c x p d = T_and (S x) (not (eqb x c)) p (not_T (eqb x c) (λ e. d (eqb→eq x c e)))

pub without_in : (S : Set) (c x : ℕ) → T (without S c x) → T (S x)
unfolding without
without_in S c x p = T-left (S x) (not (eqb x c)) p

pub without_not : (S : Set) (c x : ℕ) → T (without S c x) → Not c x
unfolding without
without_not S c x p e = T_not (eqb x c) (T-right (S x) (not (eqb x c)) p) (subst (λ z. T (eqb x z)) e (eqb_refl x))
