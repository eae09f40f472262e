-- Tests and what they tell.
use mathlib.Core.Path.{◌≡◌, refl, sym, subst}
use mathlib.Core.Logic.{◌⊎◌, inl, inr}
use mathlib.Core.Bool.{Bool, true, false, not, ◌&&◌, ◌||◌}
use lib.Dec.{T}

pub T_and : (a b : Bool) → T a → T b → T (a && b)
T_and true true p q = tt
T_and true false p q = q
T_and false b p q = p

pub T-left : (a b : Bool) → T (a && b) → T a
T-left true b p = tt
T-left false b p = p

pub T-right : (a b : Bool) → T (a && b) → T b
T-right true b p = p
T-right false b p = absurd p

pub or_split : (a b : Bool) → T (a || b) → T a ⊎ T b
or_split true b h = inl tt
or_split false b h = inr h

pub or_left : (a b : Bool) → T a → T (a || b)
or_left true b h = tt
or_left false b h = absurd h

pub or_right : (a b : Bool) → T b → T (a || b)
or_right true b h = tt
or_right false b h = h

-- a test that cannot fail
pub not_not : (b : Bool) → (T (not b) → ⊥) → T b
not_not true d = tt
not_not false d = absurd (d tt)

pub T-dec : (b : Bool) → Dec (T b)
T-dec true = yes tt
T-dec false = no (λ x. x)

pub T→true : (b : Bool) → T b → b ≡ true
T→true true p = refl
T→true false p = absurd p

pub not-T→false : (b : Bool) → (T b → ⊥) → b ≡ false
not-T→false true d = absurd (d tt)
not-T→false false d = refl

pub true→T : {b : Bool} → b ≡ true → T b
true→T e = subst T (sym e) tt

pub false→not-T : {b : Bool} → b ≡ false → T b → ⊥
false→not-T e p = subst T e p

-- two tests that imply each other are equal
pub T-ext : (a b : Bool) → (T a → T b) → (T b → T a) → a ≡ b
T-ext true true f g = refl
T-ext true false f g = absurd (f tt)
T-ext false true f g = absurd (g tt)
T-ext false false f g = refl
