-- Document 01, "Questions at the door": each call's questions in their order, and what it gives.
use Rattle.std.specs.Prelude.{not, List, ℕ, ◌+◌, leb, ltb, eqb, ℤ, length, None, Ok, Err}
use Rattle.base.specs.Pick.{pick}
use Rattle.base.specs.Put.{put_at}
use Rattle.base.specs.Limits.{outgoing_size}
use Rattle.base.specs.Verdict.{Verdict}
use Rattle.base.specs.Found.{Found, found, refused, ask}
use Rattle.plan.specs.Plan.{Plan}
use Rattle.plan.specs.Positions.{no_plan}
use Rattle.plan.specs.Reading.{settled_plan}
use Rattle.message.specs.Reading.{Exactly, exact_message}
use Rattle.message.specs.Refusals.{refusal_number}
use Rattle.level.specs.Level.{no_output}
use Rattle.journal.specs.declared.Record.{Record}
use Rattle.journal.specs.declared.Record.TheVariants.{Start, Taken}
use Rattle.journal.specs.Journal.{record_bytes}
use Rattle.party.specs.Party.{Party, new_party, started, held_by, output_of}
use Rattle.party.specs.Run.{Ran, starting, taking, bytes_of}
use Rattle.party.specs.Valid.{party_valid}
use Rattle.board_calls.specs.Answers.{Answer, position_of, answer_of}

-- "a refused set-up or restore gives no party": what comes back fails question 19
abbrev pub no_party : Party
no_party = new_party 0 0 0 0 no_plan

-- ---- set-up

-- what a set-up gives
pub record SetUp : Type 0 where
  pub verdict : Verdict
  pub party : Party

abbrev pub set_up_answer : ℕ → ℕ → ℕ → ℕ → Found Plan → SetUp
set_up_answer n t own agreement (found plan) = record { verdict = Verdict.Accepted; party = new_party n t own agreement plan }
set_up_answer n t own agreement (refused number place) = record { verdict = Verdict.Refused number place; party = no_party }

-- questions 1 to 11
unfoldable pub set_up_of : ℕ → ℕ → ℕ → ℕ → List ℕ → SetUp
set_up_of n t own agreement bytes = set_up_answer n t own agreement (settled_plan n t own bytes)

-- ---- start and take

-- what a call finds at the door: nothing to record (the message is held), or a record and what comes of it
pub data Entry : Type 0 where
  again : Entry
  fresh : Record → Ran → Entry

-- "Every call on a party: .. 19. Start, take, restore: Has the outgoing buffer 2,640 bytes (15 × 22 × 8)? 18. Start, take: Is the used length
-- within the lent journal? 20."
abbrev pub at_door : {A : Type 0} → Party → ℕ → ℕ → ℕ → Found A → Found A
at_door p room used out go = ask (party_valid p) 19 0 (ask (leb outgoing_size out) 18 0 (ask (leb used room) 20 0 go))

-- "Record fits the journal? 17."
abbrev pub fitting : ℕ → ℕ → Record → Ran → Found Entry
fitting room used r ran = ask (leb (used + length (record_bytes r)) room) 17 0 (found (fresh r ran))

-- "Start: Not yet started? 13. Input on the plan? 12. Record fits the journal? 17.", of an input at position x, which is no_output where it has none
abbrev pub start_at : Party → ℕ → ℕ → ℕ → Found Entry
start_at p x room used =
    ask (not (started p)) 13 0
    (ask (not (eqb x no_output)) 12 0
    (fitting room used (Start p.agreement x) (starting p x)))

unfoldable pub start_questions : Party → ℤ → ℕ → ℕ → ℕ → Found Entry
start_questions p input room used out = at_door p room used out (start_at p (position_of p.plan input) room used)

-- "Take: Sender below n? 14. Bytes exactly one message? 15. Our agreement number? 16. Held already, or record fits? 17." Document 02, Q-2: 15, 22, 23 and 24
-- "are asked at 15's place, left to right", with the place that was found.
abbrev pub take_message : Party → ℕ → ℕ → ℕ → Exactly → Found Entry
take_message p s room used (Ok m) =
    ask (eqb m.number p.agreement) 16 0
    (pick (held_by p s m) (found again) (fitting room used (Taken s m) (taking p s m)))
take_message p s room used (Err x) = refused (refusal_number x.fault) x.at

unfoldable pub take_questions : Party → ℕ → List ℕ → ℕ → ℕ → ℕ → Found Entry
take_questions p s bytes room used out =
    at_door p room used out
    (ask (ltb s p.n) 14 0
    (take_message p s room used (exact_message bytes)))

-- what a start, take or restore gives: the verdict, the party, the journal's used length, how many outgoing bytes it wrote and how many rules it applied
pub record Called : Type 0 where
  pub verdict : Verdict
  pub party : Party
  pub used : ℕ
  pub sent : ℕ
  pub rules : ℕ

-- what the call gives
abbrev pub called_of : Party → ℕ → Found Entry → Called
called_of p used (found again) = record { verdict = Verdict.Accepted; party = p; used = used; sent = 0; rules = 0 }
called_of p used (found (fresh r ran)) = record {
  verdict = Verdict.Accepted;
  party = ran.party;
  used = used + length (record_bytes r);
  sent = length (bytes_of ran.made);
  rules = ran.rules;
}
called_of p used (refused number place) = record { verdict = Verdict.Refused number place; party = p; used = used; sent = 0; rules = 0 }

-- "written into the lent journal from its used length on": the journal after the call
abbrev pub journal_after : List ℕ → ℕ → Found Entry → List ℕ
journal_after j used (found again) = j
journal_after j used (found (fresh r ran)) = put_at j used (record_bytes r)
journal_after j used (refused number place) = j

-- "An accepted call writes its messages from the outgoing buffer's first byte; no other byte there changes": the buffer after the call
abbrev pub outgoing_after : List ℕ → Found Entry → List ℕ
outgoing_after out (found again) = out
outgoing_after out (found (fresh r ran)) = put_at out 0 (bytes_of ran.made)
outgoing_after out (refused number place) = out

-- ---- reading the answer

-- what a reading gives: the verdict, and the answer if there is one
pub record Answered : Type 0 where
  pub verdict : Verdict
  pub answer : Answer

unfoldable pub answered_of : Party → Answered
answered_of p =
    pick (party_valid p)
    (record { verdict = Verdict.Accepted; answer = answer_of p.plan (output_of p) })
    (record { verdict = Verdict.Refused 19 0; answer = None })
