-- The pass that asks the questions of a journal's records.
use mathlib.Core.Path.{◌≡◌, sym, ap, ◌∙◌}
use mathlib.Core.Bool.{Bool, false}
use mathlib.Core.List.{List}
use Prim.Native.Nat.{ℕ, ◌≤◌, ◌<◌}
use native.Mathlib.Omega.{arith}
use lib.ListN.{length}
use Rattle.std.specs.Prelude.{Ok, Err}
use Rattle.base.specs.Found.{found}
use Rattle.base.specs.Question.{number_of}
use Rattle.base.specs.declared.Question.{Question}
use Rattle.base.specs.declared.Question.TheVariants.{JournalRecord}
use Rattle.varint.specs.Varint.{AllBytes}
use Rattle.journal.specs.declared.Record.{Record}
use Rattle.journal.specs.declared.Record.TheVariants.{Start, Taken}
use Rattle.journal.specs.declared.RecordError.TheVariants.{Torn, Bad}
use Rattle.journal.specs.Reading.{whole_record, record_at}
use Rattle.journal.proofs.RoundTrip.{record_was_written}
use Rattle.party.specs.declared.Vote.{Vote}
use Rattle.party.specs.Party.{Party, started}
use Rattle.party.specs.Run.{Ran, resting}
use Rattle.party_life.specs.Life.{replayed, following, fault_of, fault}
use Rattle.party_life.proofs.Fits.{fault_fits}
use Rattle.board_calls.specs.Restore.{replay_from}
use Rattle.board_laws.specs.Inner.{New, started_by, one, Many, none}
use Rattle.board_restore.specs.Inner.{board_of, OfVote, Checks, Scanned}
use Rattle.board_laws.proofs.Replays.{fault_same, started_replayed, new_sized, new_started, many_sized, many_board, many_then, Goes, goes_start, goes_many, goes_end, goes_torn, goes_bad, goes_fault}

-- the records before `at` pass and make r of p
pub record Scanning (p : Party) (j : List ℕ) (flag : Bool) (at : ℕ) : Type 0 where
  pub r : Ran
  pub records : Many j 0 (resting p) at r
  pub start : flag ≡ started r.party

pub scanning_start : (p : Party) → New p → (j : List ℕ) → Scanning p j false 0
scanning_start p w j = record { r = resting p; records = none; start = sym (new_started p w) }

-- the questions are the same of every party of the vote
fault_board : {v : Vote} {count : ℕ} {p : Party} → OfVote v count p → (flag : Bool) (x : Record) → fault_of (board_of v count) flag x ≡ fault_of p flag x
fault_board o flag (Start a x) = rw (o.agreement, o.positions)
fault_board o flag (Taken s m) = rw (o.agreement, o.n)

module _ {p : Party} {j : List ℕ} {flag : Bool} {at : ℕ} (w : New p) (s : Scanning p j flag at) where
  goes : Goes j (replay_from (length j) j 0 (resting p)) at s.r
  goes = goes_many (goes_start j (resting p)) s.records

  whole : replay_from (length j) j 0 (resting p) ≡ found (record { ran = s.r; used = at }) → Scanned p j (Ok at)
  whole e = (s.r, record { records = s.records; replay = e })

  pub scanned_end : length j ≤ at → Scanned p j (Ok at)
  scanned_end h = whole (goes_end goes h)

  module _ (h : at < length j) where
    pub scanned_torn : record_at j at ≡ Err Torn → Scanned p j (Ok at)
    scanned_torn e = whole (goes_torn goes h e)

    pub scanned_bad : record_at j at ≡ Err Bad → Scanned p j (Err (record { question = JournalRecord; place = at }))
    scanned_bad e = goes_bad goes h e

    module _ {v : Vote} {count : ℕ} (o : OfVote v count p) {x : Record} {next : ℕ} (e : record_at j at ≡ whole_record x next) where
      -- the fault that is asked for is that of the party so far
      fault_now : {k : ℕ} → k ≡ fault_of (board_of v count) flag x → k ≡ fault s.r.party x
      fault_now f =
          f
          ∙ fault_board o flag x
          ∙ fault_same p s.r.party (many_board s.records) flag x
          ∙ ap (λ (b : Bool). fault_of s.r.party b x) s.start

      pub scanned_fault : (q : Question) → Checks (board_of v count) flag x (Err q) → Scanned p j (Err (record { question = q; place = at }))
      scanned_fault q f = goes_fault goes h x next (number_of q) e (fault_now f.0) f.1

      pub scanning_next : AllBytes j → Checks (board_of v count) flag x (Ok tt) → {flag_then : Bool} → flag_then ≡ started_by x flag → Scanning p j flag_then next
      scanning_next y f i =
          let l = record_was_written j at x next y e in
          let fits = fault_fits s.r.party x l.limits (sym (fault_now f)) in
          let full = (many_sized s.records (new_sized p w)).formed.full in
          record {
            r = following s.r (replayed s.r.party x);
            records = many_then s.records (one x h e fits);
            start = i ∙ ap (started_by x) s.start ∙ sym (started_replayed s.r.party x (omega arith));
          }
