-- What the questions of a start and a take find, question by question.
use mathlib.Core.Path.{◌≡◌, sym, ap, ◌∙◌}
use mathlib.Core.Bool.{true, false}
use mathlib.Core.List.{List}
use Prim.Native.Nat.{ℕ, ◌+◌, ◌≤◌, ◌<◌}
use lib.Dec.{T, ltb}
use lib.IntN.{ℤ}
use lib.ListN.{length}
use borrow.Author.Tests.{lt-ltb, le-ltb, le-leb, lt-leb, eq-eqb, ne_eqb}
use Rattle.std.specs.Prelude.{Ok}
use Rattle.base.specs.Pick.{pick}
use Rattle.base.specs.Limits.{outgoing_size}
use Rattle.base.proofs.Bools.{true→T, false→not-T}
use Rattle.base.specs.Found.{Found, found, refused, ask}
use Rattle.plan.proofs.Listed.{ask_yes}
use Rattle.plan.proofs.Answers.{ask_no}
use Rattle.message.specs.declared.Message.{Message}
use Rattle.format.specs.declared.Fault.{Fault}
use Rattle.message.specs.Reading.{broken, exact_message}
use Rattle.message.specs.Refusals.{refusal_number}
use Rattle.level.specs.Level.{no_output}
use Rattle.journal.specs.declared.Record.{Record}
use Rattle.journal.specs.declared.Record.TheVariants.{Start, Taken}
use Rattle.journal.specs.Journal.{record_bytes}
use Rattle.party.specs.Party.{Party, started, held_by}
use Rattle.party.specs.Run.{Ran, starting, taking}
use Rattle.party.specs.Valid.{party_valid}
use Rattle.party_life.specs.Life.{replayed}
use Rattle.board_calls.specs.Answers.{position_of}
use Rattle.board_calls.specs.Calls.{Entry, again, fresh, at_door, fitting, start_at, start_questions, take_message, take_questions}

-- ---- questions 19, 18 and 20

module _ {A : Type 0} (p : Party) (room used out : ℕ) (go : Found A) where
  pub shut_19 : party_valid p ≡ false → at_door p room used out go ≡ refused 19 0
  shut_19 v = ask_no (party_valid p) 19 0 _ (false→not-T v)

  pub shut_18 : party_valid p ≡ true → out < outgoing_size → at_door p room used out go ≡ refused 18 0
  shut_18 v h = ask_yes (party_valid p) 19 0 _ (true→T v) ∙ rw (lt-leb outgoing_size out h)

  pub shut_20 : party_valid p ≡ true → outgoing_size ≤ out → room < used → at_door p room used out go ≡ refused 20 0
  shut_20 v o h = ask_yes (party_valid p) 19 0 _ (true→T v) ∙ rw (le-leb outgoing_size out o, lt-leb used room h)

  pub door_yes : T (party_valid p) → outgoing_size ≤ out → used ≤ room → at_door p room used out go ≡ go
  door_yes v o h = ask_yes (party_valid p) 19 0 _ v ∙ rw (le-leb outgoing_size out o, le-leb used room h)

-- question 17
module _ (room used : ℕ) (r : Record) (ran : Ran) where
  pub full : room < used + length (record_bytes r) → fitting room used r ran ≡ refused 17 0
  full l = rw (lt-leb (used + length (record_bytes r)) room l)

  pub fitted : used + length (record_bytes r) ≤ room → fitting room used r ran ≡ found (fresh r ran)
  fitted l = rw (le-leb (used + length (record_bytes r)) room l)

-- ---- start

module _ (p : Party) (x room used out : ℕ) (v : T (party_valid p)) (o : outgoing_size ≤ out) (u : used ≤ room) where
  inside : at_door p room used out (start_at p x room used) ≡ start_at p x room used
  inside = door_yes p room used out _ v o u

  pub start_again : started p ≡ true → at_door p room used out (start_at p x room used) ≡ refused 13 0
  start_again h = inside ∙ rw h

  module _ (h : started p ≡ false) where
    pub start_off : x ≡ no_output → at_door p room used out (start_at p x room used) ≡ refused 12 0
    start_off i = inside ∙ rw (h, eq-eqb x no_output i)

    module _ (i : x ≡ no_output → ⊥) where
      start_on : at_door p room used out (start_at p x room used) ≡ fitting room used (Start p.agreement x) (starting p x)
      start_on = inside ∙ rw (h, ne_eqb x no_output i)

      -- what is left is to record it
      pub start_left : at_door p room used out (start_at p x room used) ≡ fitting room used (Start p.agreement x) (replayed p (Start p.agreement x))
      unfolding replayed
      start_left = start_on

pub start_fits : (p : Party) (z : ℤ) (room used out : ℕ) → T (party_valid p) → outgoing_size ≤ out → used ≤ room → started p ≡ false → (x : ℕ) → x ≡ position_of p.plan z
    → (x ≡ no_output → ⊥) → used + length (record_bytes (Start p.agreement x)) ≤ room → start_questions p z room used out ≡ found (fresh (Start p.agreement x) (starting p x))
unfolding start_questions
start_fits p z room used out v o u h x e i l =
    ap (λ (y : ℕ). at_door p room used out (start_at p y room used)) (sym e)
    ∙ start_on p x room used out v o u h i
    ∙ fitted room used (Start p.agreement x) (starting p x) l

-- ---- take

module _ (p : Party) (s : ℕ) (bytes : List ℕ) (room used out : ℕ) where
  pub take_door : (k : ℕ) → ((go : Found Entry) → at_door p room used out go ≡ refused k 0) → take_questions p s bytes room used out ≡ refused k 0
  unfolding take_questions
  take_door k h = h _

  module _ (v : T (party_valid p)) (o : outgoing_size ≤ out) (u : used ≤ room) where
    taken_inside : take_questions p s bytes room used out ≡ ask (ltb s p.n) 14 0 (take_message p s room used (exact_message bytes))
    unfolding take_questions
    taken_inside = door_yes p room used out _ v o u

    pub take_sender : p.n ≤ s → take_questions p s bytes room used out ≡ refused 14 0
    take_sender h = taken_inside ∙ rw (le-ltb s p.n h)

    module _ (h : s < p.n) where
      from_board : take_questions p s bytes room used out ≡ take_message p s room used (exact_message bytes)
      from_board = taken_inside ∙ rw (lt-ltb s p.n h)

      pub take_broken : (fault : Fault) (at : ℕ) → exact_message bytes ≡ broken fault at → take_questions p s bytes room used out ≡ refused (refusal_number fault) at
      take_broken fault at e = from_board ∙ ap (take_message p s room used) e

      module _ (m : Message) (e : exact_message bytes ≡ Ok m) where
        one_message : take_questions p s bytes room used out ≡ take_message p s room used (Ok m)
        one_message = from_board ∙ ap (take_message p s room used) e

        pub take_number : (m.number ≡ p.agreement → ⊥) → take_questions p s bytes room used out ≡ refused 16 0
        take_number d = one_message ∙ rw (ne_eqb m.number p.agreement d)

        module _ (i : m.number ≡ p.agreement) where
          ours : take_questions p s bytes room used out ≡ pick (held_by p s m) (found again) (fitting room used (Taken s m) (taking p s m))
          ours = one_message ∙ rw (eq-eqb m.number p.agreement i)

          pub take_held : held_by p s m ≡ true → take_questions p s bytes room used out ≡ found again
          take_held k = ours ∙ rw k

          module _ (k : held_by p s m ≡ false) where
            take_new : take_questions p s bytes room used out ≡ fitting room used (Taken s m) (taking p s m)
            take_new = ours ∙ rw k

            -- what is left is to record it
            pub take_left : take_questions p s bytes room used out ≡ fitting room used (Taken s m) (replayed p (Taken s m))
            unfolding replayed
            take_left = take_new

            pub take_fits : used + length (record_bytes (Taken s m)) ≤ room → take_questions p s bytes room used out ≡ found (fresh (Taken s m) (taking p s m))
            take_fits l = take_new ∙ fitted room used (Taken s m) (taking p s m) l
