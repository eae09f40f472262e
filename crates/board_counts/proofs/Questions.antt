-- What a start by count and the reading of a count find, question by question.
use mathlib.Core.Path.{◌≡◌, refl, sym, ap, ◌∙◌}
use mathlib.Core.Bool.{Bool, true, false}
use mathlib.Core.List.{List}
use Prim.Native.Nat.{ℕ, ◌<◌}
use native.Mathlib.Omega.{arith}
use lib.Dec.{T, eqb}
use lib.IntN.{ℤ}
use borrow.Author.Tests.{eq-eqb, ne_eqb}
use Rattle.std.specs.Prelude.{Option, Some, None, Result, Ok, Err, is_ok, is_some, IfSome}
use Rattle.std.specs.Bool.{then_some}
use Rattle.base.specs.Pick.{pick}
use Rattle.base.specs.Verdict.{Verdict, refused_by, as_verdict}
use Rattle.base.specs.Found.{Found, found, refused, ask}
use Rattle.base.specs.Question.{number_of, RefusesAtZero}
use Rattle.base.specs.declared.Question.{Question}
use Rattle.base.specs.declared.Question.TheVariants.{StepSize}
use Rattle.base.specs.declared.Refusal.{Refusal}
use Rattle.base.proofs.Bools.{true→T, false→not-T}
use Rattle.rounding.specs.Rounding.{size_passes, remainder}
use Rattle.plan.specs.Plan.{Plan}
use Rattle.plan.proofs.Listed.{ask_yes}
use Rattle.plan.proofs.Answers.{ask_no}
use Rattle.level.specs.Level.{no_output}
use Rattle.party.specs.Party.{Party, output_of}
use Rattle.party.specs.Valid.{party_valid}
use Rattle.board_calls.specs.Answers.{Answer, position_of, answer_of}
use Rattle.board_calls.specs.Calls.{Called, Entry, again, fresh, at_door, start_at, called_of, journal_after, outgoing_after, answered_of, Answered}
use Rattle.board_calls.specs.Counts.{count_position, start_count_questions, remainder_in, count_questions, count_gives}
use Rattle.board_calls.specs.Tie.{as_position, as_answered}
use Rattle.board_calls.specs.Results.{CallGives}
use Rattle.board_laws.proofs.Inputs.{no_none}
use Rattle.board_laws.proofs.Questions.{shut_19, door_yes}
use Rattle.board_questions.specs.declared.Door.{Door}
use Rattle.board_questions.specs.Inner.{AtDoor}
use Rattle.board_counts.specs.Inner.{RefusedBy}
use Rattle.board_counts.specs.Results.{CountStarts}

-- ---- the position of a step

module _ (q : Plan) where
  pub step_range : (step : ℤ) → q.kind ≡ 2 → position_of q step ≡ pick (eqb q.kind 2) (position_of q step) no_output
  step_range step k = rw (eq-eqb q.kind 2 k)

  pub step_none : (step : ℤ) → (q.kind ≡ 2 → ⊥) → no_output ≡ pick (eqb q.kind 2) (position_of q step) no_output
  step_none step d = rw (ne_eqb q.kind 2 d)

-- ---- question 19, by a party's own reading

abbrev is_accepted : Verdict → Bool
is_accepted Verdict.Accepted = true
is_accepted (Verdict.Refused number place) = false

abbrev read_of : Party → Bool → Answered
read_of p valid = pick valid (record { verdict = Verdict.Accepted; answer = answer_of p.plan (output_of p) }) (record { verdict = Verdict.Refused 19 0; answer = None })

module _ (p : Party) {a : Answered} (e : a ≡ answered_of p) where
  pub valid_told : is_accepted a.verdict ≡ party_valid p
  unfolding answered_of
  valid_told = ap (λ (x : Answered). is_accepted x.verdict) e ∙ go (party_valid p)
    where
      go : (b : Bool) → is_accepted (read_of p b).verdict ≡ b
      go true = refl
      go false = refl

  pub valid_accepted : a.verdict ≡ Verdict.Accepted → true ≡ party_valid p
  valid_accepted h = sym (ap is_accepted h) ∙ valid_told

  pub valid_read : a.verdict ≡ Verdict.Accepted → T (party_valid p)
  valid_read h = true→T (sym valid_told ∙ ap is_accepted h)

-- ---- a start by count

-- where the size does not pass, 19 and the door are asked before 25
module _ (p : Party) (room used out : ℕ) where
  pub shut_reading : {r x : Refusal} → as_answered (Err x) ≡ answered_of p → r ≡ x → RefusedBy p room used out (Err r)
  unfolding answered_of
  shut_reading {r = r} {x = x} e i = go (party_valid p) refl e
    where
      told : (19 ≡ number_of x.question) → 0 ≡ x.place → ◌≡◌ {A = Found Entry} (refused 19 0) (refused (number_of r.question) r.place)
      told n m = (λ k. refused (n k) (m k)) ∙ ap (λ (y : Refusal). refused (number_of y.question) y.place) (sym i)

      go : (b : Bool) → party_valid p ≡ b → as_answered (Err x) ≡ read_of p b → RefusedBy p room used out (Err r)
      go true v e =
          let k : refused_by x ≡ Verdict.Accepted = ap (λ (y : Answered). y.verdict) e in
          let z : ◌≡◌ {A = ℕ} 0 1 = cc in absurd (omega arith)
      go false v e =
          let k : refused_by x ≡ Verdict.Refused 19 0 = ap (λ (y : Answered). y.verdict) e in
          let n : 19 ≡ number_of x.question = cc in
          let m : 0 ≡ x.place = cc in
          shut_19 p room used out (refused 25 0) v ∙ told n m

module _ (d : Door) (p : Party) (v : d.valid ≡ party_valid p) where
  pub shut_door : (q : Question) → AtDoor d (Err q) → {r : Refusal} → RefusesAtZero q r → RefusedBy p d.room d.used d.out (Err r)
  shut_door q h z = h p v (refused 25 0) ∙ ap (λ (y : Refusal). refused (number_of y.question) y.place) (sym z)

  pub shut_25 : AtDoor d (Ok tt) → {r : Refusal} → RefusesAtZero StepSize r → RefusedBy p d.room d.used d.out (Err r)
  shut_25 h z = door_yes p d.room d.used d.out (refused 25 0) (true→T (sym v ∙ h.0)) h.1 h.2 ∙ ap (λ (y : Refusal). refused (number_of y.question) y.place) (sym z)

-- the remainder of a start that was asked
remainder_told : (p : Party) (g : ℕ) (c : ℤ) (used : ℕ) (q : Found Entry) (v : Result (Unit {0}) Refusal) → as_verdict v ≡ (called_of p used q).verdict
    → then_some (is_ok v) (remainder g c) ≡ remainder_in g c q
remainder_told p g c used (found again) (Ok u) e = refl
remainder_told p g c used (found again) (Err r) e = let z : ◌≡◌ {A = ℕ} 0 1 = cc in absurd (omega arith)
remainder_told p g c used (found (fresh x ran)) (Ok u) e = refl
remainder_told p g c used (found (fresh x ran)) (Err r) e = let z : ◌≡◌ {A = ℕ} 0 1 = cc in absurd (omega arith)
remainder_told p g c used (refused number place) (Ok u) e = let z : ◌≡◌ {A = ℕ} 0 1 = cc in absurd (omega arith)
remainder_told p g c used (refused number place) (Err r) e = refl

module _ (p : Party) (g : ℕ) (c : ℤ) (used : ℕ) where
  -- where the size passes, it is a start at the count's position
  pub count_from : (room out_room : ℕ) → T (size_passes g) → (x : ℕ) → x ≡ count_position p.plan g c
      → at_door p room used out_room (start_at p x room used) ≡ start_count_questions p g c room used out_room
  unfolding start_count_questions
  count_from room out_room s x e =
      ap (λ (y : ℕ). at_door p room used out_room (start_at p y room used)) e
      ∙ sym (ap (at_door p room used out_room) (ask_yes (size_passes g) 25 0 (start_at p (count_position p.plan g c) room used) s))

module _ (p : Party) (g : ℕ) (c : ℤ) (used : ℕ) {j out : List ℕ} where
  -- a refused start reports no remainder
  pub refused_starts : (room out_room : ℕ) (w : Result (Unit {0}) Refusal) {called : Called} → size_passes g ≡ false → RefusedBy p room used out_room w
      → called ≡ record { verdict = as_verdict w; party = p; used = used; sent = 0; rules = 0 }
      → CountStarts g c (start_count_questions p g c room used out_room) p used j out called None j out
  unfolding start_count_questions
  refused_starts room out_room (Ok u) s h i = absurd h
  refused_starts room out_room (Err r) s h i =
      let q : Found Entry = start_count_questions p g c room used out_room in
      let e : refused (number_of r.question) r.place ≡ q = sym (ap (at_door p room used out_room) (ask_no (size_passes g) 25 0 _ (false→not-T s)) ∙ h) in
      record {
        gives = record {
          result = i ∙ ap (called_of p used) e;
          journal = ap (journal_after j used) e;
          outgoing = ap (outgoing_after out) e;
        };
        remainder = ap (remainder_in g c) e;
      }

  pub asked_starts : {q s : Found Entry} {r : Called} {jThen out_then : List ℕ} (v : Result (Unit {0}) Refusal) {rest : Option ℤ} → s ≡ q → CallGives s p used j out r jThen out_then
      → as_verdict v ≡ r.verdict → rest ≡ then_some (is_ok v) (remainder g c) → CountStarts g c q p used j out r rest jThen out_then
  asked_starts {q} {s} v e w h i = record {
    gives = record {
      result = w.result ∙ ap (called_of p used) e;
      journal = w.journal ∙ ap (journal_after j used) e;
      outgoing = w.outgoing ∙ ap (outgoing_after out) e;
    };
    remainder = i ∙ remainder_told p g c used s v (h ∙ ap (λ (x : Called). x.verdict) w.result) ∙ ap (remainder_in g c) e;
  }

-- ---- the reading of a count

-- a plan that is no range has no position for it
pub no_position : (q : Plan) (g : ℕ) (c : ℤ) → (q.kind ≡ 2 → ⊥) → count_position q g c ≡ no_output
no_position q g c d = rw (ne_eqb q.kind 2 d)

module _ (p : Party) (g : ℕ) (c : ℤ) {a : Answered} (e : a ≡ answered_of p) where
  pub count_19 : {number place : ℕ} → a.verdict ≡ Verdict.Refused number place → count_questions p g c ≡ refused number place
  unfolding answered_of count_questions
  count_19 {number} {place} h = go (party_valid p) (sym (ap (λ (x : Answered). x.verdict) e) ∙ h) _
    where
      go : (b : Bool) → (read_of p b).verdict ≡ Verdict.Refused number place → (more : Found Answer) → ask b 19 0 more ≡ refused number place
      go true i more = let z : ◌≡◌ {A = ℕ} 0 1 = cc in absurd (omega arith)
      go false i more =
          let k : 19 ≡ number = cc in
          let l : 0 ≡ place = cc in
          λ t. refused (k t) (l t)

  module _ (h : a.verdict ≡ Verdict.Accepted) where
    pub count_25 : size_passes g ≡ false → count_questions p g c ≡ refused 25 0
    unfolding count_questions
    count_25 s = ask_yes (party_valid p) 19 0 _ (valid_read p e h) ∙ ask_no (size_passes g) 25 0 _ (false→not-T s)

    pub count_12 : T (size_passes g) → count_position p.plan g c ≡ no_output → count_questions p g c ≡ refused 12 0
    unfolding count_questions
    count_12 s i = ask_yes (party_valid p) 19 0 _ (valid_read p e h) ∙ ask_yes (size_passes g) 25 0 _ s ∙ rw (eq-eqb (count_position p.plan g c) no_output i)

-- ---- what the reading gives

-- a question that is answered by no
pub gives_refused : {f : Found Answer} (q : Question) {r : Refusal} → RefusesAtZero q r → f ≡ refused (number_of q) 0 → as_answered (Err r) ≡ count_gives f
gives_refused q z e = ap (λ (x : Refusal). as_answered (Err x)) z ∙ ap count_gives (sym e)

-- ---- a position that is there or not

pub none_there : (x : Option ℕ) → is_some x ≡ false → as_position x ≡ no_output
none_there None e = refl
none_there (Some y) e = let z : ◌≡◌ {A = ℕ} 0 1 = cc in absurd (omega arith)

pub some_there : (p : Party) → T (party_valid p) → (x : Option ℕ) → is_some x ≡ true → IfSome x (λ y. y < p.plan.count) → as_position x ≡ no_output → ⊥
some_there p v None e h = λ i. let z : ◌≡◌ {A = ℕ} 0 1 = cc in omega arith
some_there p v (Some y) e h = no_none p v y h
