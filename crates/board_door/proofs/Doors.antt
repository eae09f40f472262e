-- What was found is carried out, case by case.
use mathlib.Core.Path.{◌≡◌, refl, sym, ap, ◌∙◌, subst}
use mathlib.Core.Bool.{true}
use mathlib.Core.List.{List}
use Prim.Native.Nat.{ℕ, ◌+◌, ◌≤◌}
use native.Mathlib.Nat.{zero-add}
use native.Mathlib.Omega.{arith}
use lib.Dec.{T}
use lib.IntN.{ℤ}
use lib.ListN.{length}
use Rattle.std.specs.Prelude.{Option, Some, None, Result, Ok, Err}
use Rattle.base.specs.Limits.{max_rows, max_boards, last_level}
use Rattle.base.specs.Verdict.{Verdict, as_verdict}
use Rattle.base.specs.Put.{put_at}
use Rattle.base.specs.Found.{Found, refused}
use Rattle.base.specs.Question.{number_of, RefusesAtZero}
use Rattle.base.specs.declared.Question.TheVariants.{PartyRecord}
use Rattle.base.specs.declared.Refusal.{Refusal}
use Rattle.base.proofs.Bools.{true→T}
use Rattle.component_laws.proofs.Laws.{rows_lent}
use Rattle.journal.specs.declared.Record.{Record}
use Rattle.journal.specs.Journal.{record_bytes}
use Rattle.party.specs.declared.Chart.{Chart}
use Rattle.party.specs.declared.Party as Code
use Rattle.party.specs.Party.{Party}
use Rattle.party.specs.Valid.{party_valid}
use Rattle.party.specs.Tie.{as_party}
use Rattle.party.specs.Inner.{Charts}
use Rattle.party_laws.proofs.Valid.{valid→}
use Rattle.party_life.specs.Life.{replayed, Fits}
use Rattle.party_bounds.proofs.Laws.{Sized, replayed_within}
use Rattle.party_run.specs.Inner.{Ready, Room, Outcome, Gives}
use Rattle.board_calls.specs.Answers.{position_of}
use Rattle.board_calls.specs.Calls.{Called, Entry, at_door, start_at, start_questions, called_of}
use Rattle.board_calls.specs.Tie.{as_position}
use Rattle.board_calls.specs.Results.{CallGives}
use Rattle.board_laws.proofs.Replays.{outgoing_most}
use Rattle.board_questions.specs.Inner.{found_by, Recordable, Asks, start_from}
use Rattle.board_door.specs.declared.Carried.{Carried}
use Rattle.board_door.specs.Inner.{Carriable, carried_by}

-- ---- what was found is carried out

-- it asks for what the record and the chart say; all that a call can make fits the outgoing buffer
pub carried_asks : {p : Party} {chart : Chart} {room used out : ℕ} {a : Result (Option Record) Refusal} {r : Record} → a ≡ Ok (Some r) → Sized p → Carriable p chart room used out a
    → Ready p chart × Room (replayed p r) 0 out × Fits p r × (used + length (record_bytes r) ≤ room)
carried_asks {p} {chart} {room} {used} {out} {r = r} e z h =
    let f = subst (Recordable p room used out) e h.fits in
    let w = replayed_within (last_level + 1) (omega arith) p z r f.2 in
    (h.ready, omega (arith, f.1, outgoing_most p (replayed p r) w), f.2, f.3)

-- what a pattern of two steps says of it
pub in_two : {a : Result (Option Record) Refusal} {b c : Option Record} → a ≡ Ok b → b ≡ c → a ≡ Ok c
in_two {a} e i = subst (λ (x : Option Record). a ≡ Ok x) i e

-- it is carried out in the case that it is
pub found_at : {p : Party} {used : ℕ} {j out jThen out_then : List ℕ} {c : Called} {a b : Result (Option Record) Refusal} → a ≡ b → CallGives (found_by p b) p used j out c jThen out_then
    → CallGives (found_by p a) p used j out c jThen out_then
found_at {p} {used} {j} {out} {jThen} {out_then} {c} e g = subst (λ (x : Result (Option Record) Refusal). CallGives (found_by p x) p used j out c jThen out_then) (sym e) g

module _ {p : Party} {used : ℕ} {j out : List ℕ} where
  -- a call that is refused, or that brings a message that is held, changes nothing
  pub refusal_carried : (r : Refusal) {c : Called} → c ≡ record { verdict = as_verdict (Err r); party = p; used = used; sent = 0; rules = 0 } → CallGives (found_by p (Err r)) p used j out c j out
  refusal_carried r e = record { result = e; journal = refl; outgoing = refl }

  pub again_carried : {c : Called} → c ≡ record { verdict = Verdict.Accepted; party = p; used = used; sent = 0; rules = 0 } → CallGives (found_by p (Ok None)) p used j out c j out
  again_carried e = record { result = e; journal = refl; outgoing = refl }

  pub record_carried : (r : Record) {g : Outcome} {end : ℕ} {jThen out_then : List ℕ}
      → end ≡ used + length (record_bytes r) → jThen ≡ put_at j used (record_bytes r) → Gives (replayed p r) 0 out g out_then
      → CallGives (found_by p (Ok (Some r))) p used j out (record { verdict = Verdict.Accepted; party = g.party; used = end; sent = g.sent; rules = g.rules }) jThen out_then
  record_carried r k l w = record {
    result = λ z. record { verdict = Verdict.Accepted; party = w.party z; used = k z; sent = (w.sent ∙ zero-add _) z; rules = w.rules z };
    journal = l;
    outgoing = w.outgoing;
  }

-- a record that fails 19
pub shut_call : {p : Party} {q : Found Entry} {used : ℕ} {j out : List ℕ} {r : Refusal} {c : Called} → q ≡ refused 19 0 → RefusesAtZero PartyRecord r
    → c ≡ record { verdict = as_verdict (Err r); party = p; used = used; sent = 0; rules = 0 } → CallGives q p used j out c j out
shut_call {p} {q} {used} {j} {out} {r} {c} e z i =
    subst (λ (x : Found Entry). CallGives x p used j out c j out) (sym e)
    (record { result = i ∙ ap (λ (x : Refusal). called_of p used (refused (number_of x.question) x.place)) z; journal = refl; outgoing = refl })

-- the call gives what was carried out, with the party as it is then
pub call_carried : {p : Party} {q : Found Entry} {used : ℕ} {j out j_end out_end j_then out_then : List ℕ} {c d : Code.Party} {g h : Carried} {r : Called} → r ≡ carried_by (as_party c) g
    → c ≡ d → g ≡ h → j_end ≡ j_then → out_end ≡ out_then → CallGives q p used j out (carried_by (as_party d) h) j_then out_then → CallGives q p used j out r j_end out_end
call_carried e i k l m w = record { result = e ∙ (λ z. carried_by (as_party (i z)) (k z)) ∙ w.result; journal = l ∙ w.journal; outgoing = m ∙ w.outgoing }

-- which is what its questions find
pub call_gives_lem : {p : Party} {q : Found Entry} {room used out_room : ℕ} {a : Result (Option Record) Refusal} {j out jThen out_then : List ℕ} {r : Called}
    → Asks p room used out_room q a → CallGives (found_by p a) p used j out r jThen out_then → CallGives q p used j out r jThen out_then
call_gives_lem {p} {used = used} {j = j} {out = out} {jThen = jThen} {out_then = out_then} {r = r} h w =
    subst (λ (x : Found Entry). CallGives x p used j out r jThen out_then) (sym h.finds) w

-- a start is one at its input's position
pub started_from : (p : Party) (z : ℤ) (room used out_room : ℕ) (x : Option ℕ) {j out jThen out_then : List ℕ} {r : Called} → as_position x ≡ position_of p.plan z
    → CallGives (start_from p x room used out_room) p used j out r jThen out_then → CallGives (start_questions p z room used out_room) p used j out r jThen out_then
unfolding start_questions
started_from p z room used out_room x {j = j} {out = out} {jThen = jThen} {out_then = out_then} {r = r} e w =
    subst (λ (y : ℕ). CallGives (at_door p room used out_room (start_at p y room used)) p used j out r jThen out_then) e w

-- ---- a record that passes 19

module _ (c : Code.Party) (v : true ≡ party_valid (as_party c)) where
  pub passed : T (party_valid (as_party c))
  passed = true→T (sym v)

  -- it knows of at most 16 boards
  pub boards_most : c.n ≤ max_boards
  boards_most = (valid→ (as_party c) passed).settings.most

  pub readied : {chart : Chart} → Charts (as_party c) chart → length c.plan.parent ≡ max_rows → length c.plan.child ≡ max_rows → Ready (as_party c) chart
  readied h k l = record { valid = passed; rows = rows_lent (as_party c).plan (valid→ (as_party c) passed).plan k l; charts = h }
