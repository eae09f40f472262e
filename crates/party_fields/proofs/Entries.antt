-- The test of a level's entry.
use mathlib.Core.Path.{◌≡◌, refl, sym, ap, ◌∙◌, subst}
use mathlib.Core.Bool.{Bool, true, false, ◌&&◌}
use Prim.Native.Nat.{ℕ, suc, ◌-◌, ◌≤◌}
use native.Mathlib.Omega.{arith}
use lib.Dec.{T, leb, eqb, leb→le, le→leb, eqb→eq, eqb_refl}
use Rattle.base.proofs.Bools.{T_and, T-left, T-right}
use Rattle.party_fields.specs.Inner.{entry_fits}

-- ---- what the test of an entry tells

-- a level other than 0 is entered by a side of the level before, which is the last that sends
pub record Below (sending d j k : ℕ) : Type 0 where
  pub sends : sending ≡ suc j
  pub low : 1 ≤ k
  pub high : k ≤ d

module _ (sending d j k : ℕ) where
  pub below→ : T (entry_fits sending d (suc j) k) → Below sending d j k
  unfolding entry_fits
  below→ h =
      let r = T-right (eqb sending (suc j)) (leb 1 k && leb k d) h in
      record {
        sends = eqb→eq sending (suc j) (T-left (eqb sending (suc j)) (leb 1 k && leb k d) h);
        low = leb→le 1 k (T-left (leb 1 k) (leb k d) r);
        high = leb→le k d (T-right (leb 1 k) (leb k d) r);
      }

  pub →below : Below sending d j k → T (entry_fits sending d (suc j) k)
  unfolding entry_fits
  →below b =
      T_and (eqb sending (suc j)) (leb 1 k && leb k d) (subst (λ (x : ℕ). T (eqb sending x)) b.sends (eqb_refl sending))
      (T_and (leb 1 k) (leb k d) (le→leb 1 k b.low) (le→leb k d b.high))

-- the number of the level before, as the code computes it
pub before : (i : ℕ) → (i ≡ 0 → ⊥) → i ≡ suc (i - 1)
before i z = omega arith

-- ---- the test as the code makes it

pub entry_first : (sending d i k : ℕ) → i ≡ 0 → entry_fits sending d i k ≡ eqb k 0
unfolding entry_fits
entry_first sending d i k e = ap (λ (j : ℕ). entry_fits sending d j k) e

pub entry_next : (sending d i k : ℕ) → (i ≡ 0 → ⊥) → entry_fits sending d i k ≡ (eqb sending i && leb 1 k) && leb k d
unfolding entry_fits
entry_next sending d i k z =
    ap (λ (j : ℕ). entry_fits sending d j k) (before i z)
    ∙ ap (λ (j : ℕ). eqb sending j && (leb 1 k && leb k d)) (sym (before i z))
    ∙ assoc (eqb sending i) (leb 1 k) (leb k d)
  where
    assoc : (a b c : Bool) → a && (b && c) ≡ (a && b) && c
    assoc true b c = refl
    assoc false b c = refl
