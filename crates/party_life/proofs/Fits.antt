-- What it is that a record fits, question by question.
use mathlib.Core.Path.{◌≡◌, refl}
use mathlib.Core.Bool.{Bool, true, false, ◌&&◌}
use Prim.Native.Nat.{ℕ, ◌<◌}
use lib.Dec.{T, ltb, eqb, eqb→eq}
use borrow.Author.Tests.{lt-ltb, eq-eqb, eqb-true, ltb-true}
use Rattle.base.specs.Pick.{pick}
use Rattle.base.proofs.Bools.{T_and, T-left, true→T, false→not-T, not-T→false}
use Rattle.message.specs.declared.Message.{Message}
use Rattle.message.specs.Message.{in_table}
use Rattle.journal.specs.declared.Record.{Record}
use Rattle.journal.specs.declared.Record.TheVariants.{Start, Taken}
use Rattle.journal.specs.Records.{InLimits}
use Rattle.party.specs.Party.{Party, started}
use Rattle.party_life.specs.Life.{fault, tabled, Fits}

module _ (p : Party) where
  -- A start's record: of this vote, the only one, and on the plan.
  pub fits_start : (a x : ℕ) → Fits p (Start a x) → (a ≡ p.agreement) × (T (started p) → ⊥) × (x < p.plan.count)
  fits_start a x f = by (eqb a p.agreement) (started p) (ltb x p.plan.count) refl refl refl f
    where
      by : (b s c : Bool) → eqb a p.agreement ≡ b → started p ≡ s → ltb x p.plan.count ≡ c → T (eqb (pick b (pick s 13 (pick c 0 12)) 16) 0 && true)
          → (a ≡ p.agreement) × (T (started p) → ⊥) × (x < p.plan.count)
      by true true c i j k e = absurd e
      by true false true i j k e = (eqb-true a p.agreement i, false→not-T j, ltb-true x p.plan.count k)
      by true false false i j k e = absurd e
      by false s c i j k e = absurd e

  pub fitting_start : (a x : ℕ) → (a ≡ p.agreement) × (T (started p) → ⊥) × (x < p.plan.count) → Fits p (Start a x)
  fitting_start a x f = rw (eq-eqb a p.agreement f.0, not-T→false (started p) f.1, lt-ltb x p.plan.count f.2) tt

  -- A taken message's record: of this vote, from one of its boards, and of the table.
  pub fits_taken : (s : ℕ) (m : Message) → Fits p (Taken s m) → (m.number ≡ p.agreement) × (s < p.n) × T (in_table m)
  fits_taken s m f = by (eqb m.number p.agreement) (ltb s p.n) (in_table m) refl refl f
    where
      by : (b c t : Bool) → eqb m.number p.agreement ≡ b → ltb s p.n ≡ c → T (eqb (pick b (pick c 0 14) 16) 0 && t) → (m.number ≡ p.agreement) × (s < p.n) × T t
      by true true t i k e = (eqb-true m.number p.agreement i, ltb-true s p.n k, e)
      by true false t i k e = absurd e
      by false c t i k e = absurd e

  pub fitting_taken : (s : ℕ) (m : Message) → (m.number ≡ p.agreement) × (s < p.n) × T (in_table m) → Fits p (Taken s m)
  fitting_taken s m f = rw (eq-eqb m.number p.agreement f.0, lt-ltb s p.n f.1) f.2

  -- a record that fits has no fault
  pub fits_fault : (r : Record) → Fits p r → fault p r ≡ 0
  fits_fault r f = eqb→eq (fault p r) 0 (T-left (eqb (fault p r) 0) (tabled r) f)

  -- a record in its limits without a fault fits
  pub fault_fits : (r : Record) → InLimits r → fault p r ≡ 0 → Fits p r
  fault_fits r l e = T_and (eqb (fault p r) 0) (tabled r) (true→T (eq-eqb (fault p r) 0 e)) (table r l)
    where
      table : (r : Record) → InLimits r → T (tabled r)
      table (Start a x) l = tt
      table (Taken s m) l = true→T l.1.0
