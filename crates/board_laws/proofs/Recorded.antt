-- What an accepted start or take finds: a valid party, and a record that fits it with what that record does.
use mathlib.Core.Path.{◌≡◌, refl, sym, ap, ◌∙◌, subst}
use mathlib.Core.Bool.{Bool, true, false, not}
use mathlib.Core.List.{List}
use Prim.Native.Nat.{ℕ, ◌+◌, ◌<◌}
use native.Mathlib.Omega.{arith}
use lib.Dec.{T, leb, ltb, eqb, T_not, eqb→eq, ltb→lt}
use lib.IntN.{ℤ}
use lib.ListN.{length}
use borrow.Author.Tests.{eq-eqb}
use Rattle.std.specs.Prelude.{Ok, Err}
use Rattle.base.specs.Pick.{pick}
use Rattle.base.specs.Limits.{outgoing_size}
use Rattle.base.specs.Found.{Found, found}
use Rattle.base.proofs.Bools.{true→T}
use Rattle.varint.specs.Varint.{AllBytes}
use Rattle.plan.proofs.Listed.{asked}
use Rattle.message.specs.declared.Message.{Message}
use Rattle.message.specs.Reading.{Exactly, exact_message}
use Rattle.message.specs.Message.{in_table}
use Rattle.message.proofs.RoundTrip.{exact_message_written}
use Rattle.level.specs.Level.{no_output}
use Rattle.journal.specs.declared.Record.{Record}
use Rattle.journal.specs.declared.Record.TheVariants.{Start, Taken}
use Rattle.journal.specs.Journal.{record_bytes}
use Rattle.party.specs.Party.{Party, started, held_by}
use Rattle.party.specs.Run.{Ran, starting, taking}
use Rattle.party.specs.Valid.{party_valid}
use Rattle.party_life.specs.Life.{replayed, Fits}
use Rattle.party_life.proofs.Fits.{fitting_start, fitting_taken}
use Rattle.board_calls.specs.Answers.{position_of}
use Rattle.board_calls.specs.Calls.{Entry, again, fresh, at_door, fitting, start_questions, take_message, take_questions}
use Rattle.board_laws.proofs.Inputs.{position_on}

-- p passes question 19, and a call makes a record that fits it: what came of the call is what the record's replay gives
abbrev pub Recorded : Party → Record → Ran → Type 0
Recorded p r ran = T (party_valid p) × Fits p r × (ran ≡ replayed p r)

-- what is found is one record and what came of it
same_recorded : (p : Party) {r x : Record} {ran y : Ran} → found (fresh r ran) ≡ found (fresh x y) → Recorded p r ran → Recorded p x y
same_recorded p {r} {x} {ran} {y} e h =
    let i : r ≡ x = cc in
    let k : ran ≡ y = cc in
    (h.0, subst (Fits p) i h.1, sym k ∙ h.2 ∙ ap (replayed p) i)

-- past questions 19, 18 and 20
module _ (p : Party) (room used out : ℕ) where
  pub inside : (x : Entry) (go : Found Entry) → at_door p room used out go ≡ found x → T (party_valid p) × (go ≡ found x)
  inside x go e =
      let a = asked (party_valid p) 19 0 _ x e in
      let b = asked (leb outgoing_size out) 18 0 _ x a.1 in
      (a.0, (asked (leb used room) 20 0 go x b.1).1)

  -- what is found is found of a valid party
  pub start_valid : (x : Entry) (z : ℤ) → start_questions p z room used out ≡ found x → T (party_valid p)
  unfolding start_questions
  start_valid x z e = (inside x _ e).0

  pub take_valid : (x : Entry) (s : ℕ) (bytes : List ℕ) → take_questions p s bytes room used out ≡ found x → T (party_valid p)
  unfolding take_questions
  take_valid x s bytes e = (inside x _ e).0

module _ (p : Party) (room used out : ℕ) (r : Record) (ran : Ran) where
  -- past question 17
  fitted : (x : Record) (y : Ran) → fitting room used x y ≡ found (fresh r ran) → found (fresh x y) ≡ found (fresh r ran)
  fitted x y e = (asked (leb (used + length (record_bytes x)) room) 17 0 (found (fresh x y)) (fresh r ran) e).1

  -- a start that makes a record
  pub start_recorded : (z : ℤ) → start_questions p z room used out ≡ found (fresh r ran) → Recorded p r ran
  unfolding start_questions replayed
  start_recorded z e =
      let x : ℕ = position_of p.plan z in
      let a = inside p room used out (fresh r ran) _ e in
      let b = asked (not (started p)) 13 0 _ (fresh r ran) a.1 in
      let c = asked (not (eqb x no_output)) 12 0 (fitting room used (Start p.agreement x) (starting p x)) (fresh r ran) b.1 in
      same_recorded p (fitted (Start p.agreement x) (starting p x) c.1)
      (a.0, fitting_start p p.agreement x (refl, T_not (started p) b.0, position_on p.plan z (λ i. T_not (eqb x no_output) c.0 (true→T (eq-eqb x no_output i)))), refl)

  -- a take that makes a record
  pub take_recorded : (s : ℕ) (bytes : List ℕ) → AllBytes bytes → take_questions p s bytes room used out ≡ found (fresh r ran) → Recorded p r ran
  unfolding take_questions replayed
  take_recorded s bytes all e =
      let a = inside p room used out (fresh r ran) _ e in
      let b = asked (ltb s p.n) 14 0 (take_message p s room used (exact_message bytes)) (fresh r ran) a.1 in
      one a.0 (ltb→lt s p.n b.0) (exact_message bytes) refl b.1
    where
      new : T (party_valid p) → s < p.n → (m : Message) → T (in_table m) → m.number ≡ p.agreement → (h : Bool)
          → pick h (found again) (fitting room used (Taken s m) (taking p s m)) ≡ found (fresh r ran) → Recorded p r ran
      new v l m t i true e = let z : ◌≡◌ {A = ℕ} 0 1 = cc in absurd (omega arith)
      new v l m t i false e = same_recorded p (fitted (Taken s m) (taking p s m) e) (v, fitting_taken p s m (i, l, t), refl)

      one : T (party_valid p) → s < p.n → (x : Exactly) → exact_message bytes ≡ x → take_message p s room used x ≡ found (fresh r ran) → Recorded p r ran
      one v l (Ok m) i e =
          let c = asked (eqb m.number p.agreement) 16 0 _ (fresh r ran) e in
          new v l m (true→T (exact_message_written bytes m all i).0) (eqb→eq m.number p.agreement c.0) (held_by p s m) c.1
      one v l (Err y) i e = let z : ◌≡◌ {A = ℕ} 0 1 = cc in absurd (omega arith)
