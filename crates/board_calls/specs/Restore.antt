-- "Restore gives the party of the whole records, in order, their length in bytes"; document 02, Q-5: it "hands over every message of the whole records'
-- history, each once, in the first order".
use Rattle.std.specs.Prelude.{List, ℕ, zero, suc, leb, eqb, length, Ok, Err}
use Rattle.base.specs.Pick.{pick}
use Rattle.base.specs.Put.{put_at}
use Rattle.base.specs.Limits.{outgoing_size}
use Rattle.base.specs.Verdict.{Verdict}
use Rattle.base.specs.Found.{Found, found, refused, ask}
use Rattle.plan.specs.Plan.{Plan}
use Rattle.plan.specs.Reading.{settled_plan}
use Rattle.journal.specs.declared.Record.{Record}
use Rattle.journal.specs.declared.RecordError.TheVariants.{Torn, Bad}
use Rattle.journal.specs.Reading.{RecordRead, record_at}
use Rattle.party.specs.Party.{Party, new_party}
use Rattle.party.specs.Run.{Ran, resting, bytes_of}
use Rattle.party_life.specs.Life.{replayed, following, fault}
use Rattle.board_calls.specs.Calls.{Called, no_party}

-- "Restore, each record: A whole record, or the torn last one? 21. Our number? 16. Sender below n? 14. Not a second start? 13. Position on the plan? 12."
-- The place is the record's first byte.
abbrev pub record_fits : {A : Type 0} → Party → ℕ → Record → Found A → Found A
record_fits p at r go = ask (eqb (fault p r) 0) (fault p r) at go

-- where the records end, and what came of them
pub record Replay : Type 0 where
  pub ran : Ran
  pub used : ℕ

-- the records from `at` on, at most f; "A torn last record .. is dropped"
unfoldable pub replay_from : ℕ → List ℕ → ℕ → Ran → Found Replay
replay_from zero j at r = found (record { ran = r; used = at })
replay_from (suc f) j at r = pick (leb (length j) at) (found (record { ran = r; used = at })) (go (record_at j at) (λ next q. replay_from f j next q))
  where
    go : RecordRead → (ℕ → Ran → Found Replay) → Found Replay
    go (Ok x) more = record_fits r.party at x.value (more x.next (following r (replayed r.party x.value)))
    go (Err Torn) more = found (record { ran = r; used = at })
    go (Err Bad) more = refused 21 at

-- questions 18, 1 to 3, the plan, then the records
abbrev pub on_plan_read : ℕ → ℕ → ℕ → ℕ → List ℕ → Found Plan → Found Replay
on_plan_read n t own agreement j (found plan) = replay_from (length j) j 0 (resting (new_party n t own agreement plan))
on_plan_read n t own agreement j (refused number place) = refused number place

unfoldable pub restore_questions : ℕ → ℕ → ℕ → ℕ → List ℕ → List ℕ → ℕ → Found Replay
restore_questions n t own agreement bytes j out =
    ask (leb outgoing_size out) 18 0 (on_plan_read n t own agreement j (settled_plan n t own bytes))

-- what the call gives
abbrev pub restored_of : Found Replay → Called
restored_of (found r) = record {
  verdict = Verdict.Accepted;
  party = r.ran.party;
  used = r.used;
  sent = length (bytes_of r.ran.made);
  rules = r.ran.rules;
}
restored_of (refused number place) = record { verdict = Verdict.Refused number place; party = no_party; used = 0; sent = 0; rules = 0 }

-- the outgoing buffer after it: the messages from the first byte on, and no other byte changed
abbrev pub restore_outgoing : List ℕ → Found Replay → List ℕ
restore_outgoing out (found r) = put_at out 0 (bytes_of r.ran.made)
restore_outgoing out (refused number place) = out
