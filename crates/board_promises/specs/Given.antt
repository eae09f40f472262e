-- The records that calls give as parties, which pass question 19, and those that come instead of a party, which fail it (proofs/Given.antt).
use Rattle.std.specs.Prelude.{◌≡◌, List, ℕ, ℤ, length}
use Rattle.base.specs.Limits.{level_count}
use Rattle.base.specs.Verdict.{Verdict}
use Rattle.varint.specs.Varint.{AllBytes}
use Rattle.party.specs.Party.{Party}
use Rattle.board_calls.specs.Calls.{set_up_of, start_questions, take_questions, called_of}
use Rattle.board_calls.specs.Counts.{start_count_questions}
use Rattle.board_calls.specs.Restore.{restore_questions, restored_of}

-- The record that comes with an accepted set-up, start, start by count, take or restore, whatever was lent. What is lent has its type: a party has level_count levels,
-- and bytes are below 256.
pub data Given : Party → Type 0 where
  -- a party that has not started
  set_up : (n t own agreement : ℕ) (plan : List ℕ) → (set_up_of n t own agreement plan).verdict ≡ Verdict.Accepted
      → Given (set_up_of n t own agreement plan).party
  -- the party after the rules that a start or a taken message calls for
  start : (p : Party) (input : ℤ) (room used out : ℕ) → length p.levels ≡ level_count
      → (called_of p used (start_questions p input room used out)).verdict ≡ Verdict.Accepted
      → Given (called_of p used (start_questions p input room used out)).party
  start_count : (p : Party) (g : ℕ) (count : ℤ) (room used out : ℕ) → length p.levels ≡ level_count
      → (called_of p used (start_count_questions p g count room used out)).verdict ≡ Verdict.Accepted
      → Given (called_of p used (start_count_questions p g count room used out)).party
  take : (p : Party) (sender : ℕ) (bytes : List ℕ) (room used out : ℕ) → length p.levels ≡ level_count → AllBytes bytes
      → (called_of p used (take_questions p sender bytes room used out)).verdict ≡ Verdict.Accepted
      → Given (called_of p used (take_questions p sender bytes room used out)).party
  -- "Restore gives the party of the whole records"
  restore : (n t own agreement : ℕ) (plan journal : List ℕ) (out : ℕ) → AllBytes journal
      → (restored_of (restore_questions n t own agreement plan journal out)).verdict ≡ Verdict.Accepted
      → Given (restored_of (restore_questions n t own agreement plan journal out)).party

-- "a refused set-up or restore gives no party": the record that comes with one.
pub data Withheld : Party → Type 0 where
  set_up : (n t own agreement : ℕ) (plan : List ℕ) (number place : ℕ) → (set_up_of n t own agreement plan).verdict ≡ Verdict.Refused number place
      → Withheld (set_up_of n t own agreement plan).party
  restore : (n t own agreement : ℕ) (plan journal : List ℕ) (out number place : ℕ)
      → (restored_of (restore_questions n t own agreement plan journal out)).verdict ≡ Verdict.Refused number place
      → Withheld (restored_of (restore_questions n t own agreement plan journal out)).party
