-- No call is refused by 17 where the journal has room for the longest record.
use mathlib.Core.Path.{◌≡◌, refl, sym, ap, subst}
use mathlib.Core.Bool.{Bool, true, false, not}
use mathlib.Core.List.{List}
use Prim.Native.Nat.{ℕ, ◌+◌, ◌≤◌, ◌<◌}
use native.Mathlib.Omega.{arith}
use lib.Dec.{T, leb, ltb, eqb, T_not, ltb→lt}
use lib.IntN.{ℤ}
use lib.ListN.{length}
use borrow.Author.Tests.{eq-eqb}
use Rattle.std.specs.Prelude.{Ok, Err}
use Rattle.base.specs.Limits.{max_position, message_size, outgoing_size}
use Rattle.base.specs.Pick.{pick}
use Rattle.base.specs.Found.{Found, found, refused, ask}
use Rattle.base.specs.Verdict.{Verdict}
use Rattle.base.proofs.Bools.{true→T}
use Rattle.varint.proofs.Laws.{pieces_most, length_last}
use Rattle.varint.proofs.Lengths.{length_at_most}
use Rattle.plan_laws.proofs.Shape.{shape}
use Rattle.message.specs.declared.Message.{Message}
use Rattle.format.specs.declared.Fault.{Fault}
use Rattle.message.specs.Refusals.{refusal_number}
use Rattle.format.specs.Reading.{Read, whole, failed}
use Rattle.message.specs.Reading.{broken, message_at, exactly, exact_message}
use Rattle.message.specs.Message.{in_table}
use Rattle.message.proofs.RoundTrip.{message_table, message_length_most}
use Rattle.level.specs.Level.{no_output}
use Rattle.journal.specs.declared.Record.{Record}
use Rattle.journal.specs.declared.Record.TheVariants.{Start, Taken}
use Rattle.journal.specs.Journal.{record_bytes}
use Rattle.journal.proofs.Laws.{start_length, taken_length}
use Rattle.party.specs.Party.{Party, started, held_by}
use Rattle.party.specs.Run.{Ran, taking}
use Rattle.party.specs.Valid.{party_valid}
use Rattle.party_laws.proofs.Valid.{valid→}
use Rattle.board_calls.specs.Answers.{position_of}
use Rattle.board_calls.specs.Calls.{Entry, again, fresh, at_door, fitting, start_questions, take_message, take_questions, Called, called_of}
use Rattle.board_calls.specs.Results.{CallGives}
use Rattle.board_laws.proofs.Inputs.{position_on}
use Rattle.board_laws.proofs.Questions.{fitted}
use Rattle.bench_calls.specs.Room.{HasRoom}

-- the bytes of a record at most
abbrev record_most : ℕ
record_most = 2 + message_size

-- a start's: 1 for its tag, 5 for a number, 3 for a position
start_most : (a x : ℕ) → x ≤ max_position → length (record_bytes (Start a x)) ≤ record_most
start_most a x h = omega (arith, start_length a x, pieces_most 4 a, length_at_most 2 4 x (omega arith))

-- a taken message's: 1 for its tag, 1 for its sender, 8 for the message
taken_most : (s : ℕ) (m : Message) → s < 128 → in_table m ≡ true → length (record_bytes (Taken s m)) ≤ record_most
taken_most s m h t = omega (arith, taken_length s m, length_last s (omega arith), message_length_most m t)

-- ---- what the questions find

-- not a refusal by 17
abbrev Roomy : Found Entry → Type 0
Roomy (found x) = Unit {0}
Roomy (refused number place) = number ≡ 17 → ⊥

asking : (b : Bool) (number : ℕ) (go : Found Entry) → (number ≡ 17 → ⊥) → (T b → Roomy go) → Roomy (ask b number 0 go)
asking true number go d f = f tt
asking false number go d f = d

module _ (p : Party) (room used out : ℕ) (enough : used + record_most ≤ room) where
  past_door : (go : Found Entry) → (T (party_valid p) → Roomy go) → Roomy (at_door p room used out go)
  past_door go f =
      asking (party_valid p) 19 (ask (leb outgoing_size out) 18 0 (ask (leb used room) 20 0 go)) (λ e. omega arith)
      (λ v. asking (leb outgoing_size out) 18 (ask (leb used room) 20 0 go) (λ e. omega arith) (λ o. asking (leb used room) 20 go (λ e. omega arith) (λ u. f v)))

  short : (r : Record) (ran : Ran) → length (record_bytes r) ≤ record_most → Roomy (fitting room used r ran)
  short r ran l = subst Roomy (sym (fitted room used r ran (omega arith))) tt

  pub start_roomy : (z : ℤ) → Roomy (start_questions p z room used out)
  unfolding start_questions
  start_roomy z =
      past_door _
      (λ v. asking (not (started p)) 13 _ (λ e. omega arith)
      (λ n. asking (not (eqb x no_output)) 12 _ (λ e. omega arith)
      (λ o. short (Start p.agreement x) _
      (start_most p.agreement x (omega (arith, position_on p.plan z (λ i. T_not (eqb x no_output) o (true→T (eq-eqb x no_output i))), (shape p.plan (valid→ p v).plan).most))))))
    where
      x : ℕ
      x = position_of p.plan z

  pub take_roomy : (s : ℕ) (bytes : List ℕ) → Roomy (take_questions p s bytes room used out)
  unfolding take_questions exact_message
  take_roomy s bytes =
      past_door _
      (λ v. asking (ltb s p.n) 14 _ (λ e. omega arith)
      (λ l. read (omega (arith, ltb→lt s p.n l, (valid→ p v).settings.most)) (message_at bytes 0) refl))
    where
      new : s < 128 → (m : Message) → in_table m ≡ true → (h : Bool) → Roomy (pick h (found again) (fitting room used (Taken s m) (taking p s m)))
      new l m t true = tt
      new l m t false = short (Taken s m) (taking p s m) (taken_most s m l t)

      one : s < 128 → (m : Message) (next : ℕ) → in_table m ≡ true → (b : Bool) → Roomy (take_message p s room used (pick b (Ok m) (broken Fault.Spare next)))
      one l m next t true = asking (eqb m.number p.agreement) 16 _ (λ e. omega arith) (λ i. new l m t (held_by p s m))
      one l m next t false = λ e. omega arith

      told : (fault : Fault) (at : ℕ) → Roomy (refused (refusal_number fault) at)
      told Fault.Cut at = λ i. omega arith
      told Fault.CutOutside at = λ i. omega arith
      told Fault.Malformed at = λ i. omega arith
      told Fault.Outside at = λ i. omega arith
      told Fault.Spare at = λ i. omega arith

      read : s < 128 → (r : Read Message) → message_at bytes 0 ≡ r → Roomy (take_message p s room used (exactly bytes r))
      read l (Ok r) e = one l r.value r.next (message_table bytes 0 r.value r.next e) (eqb r.next (length bytes))
      read l (Err x) e = told x.fault x.at

-- ---- what the call gives

given : (q : Found Entry) (p : Party) (used : ℕ) → Roomy q → (v : Verdict) → v ≡ (called_of p used q).verdict → HasRoom v
given (found again) p used h v e place i = let z : ◌≡◌ {A = ℕ} 0 1 = cc in omega arith
given (found (fresh r ran)) p used h v e place i = let z : ◌≡◌ {A = ℕ} 0 1 = cc in omega arith
given (refused number at) p used h v e place i = h (cc)

pub has_room : {q : Found Entry} {p : Party} {used : ℕ} {j out : List ℕ} {r : Called} {jThen out_then : List ℕ} → CallGives q p used j out r jThen out_then → Roomy q → HasRoom r.verdict
has_room {q} {p} {used} {r = r} g h = given q p used h r.verdict (ap (λ (x : Called). x.verdict) g.result)
