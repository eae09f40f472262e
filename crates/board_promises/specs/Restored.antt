-- Document 02, Q-5: "Restore now hands over every message of the whole records' history, each once, in the first order. The buffer suffices."
use Rattle.std.specs.Prelude.{◌≡◌, List, ℕ, ◌≤◌, T, length, take, drop}
use Rattle.std.proofs.Math.Option.{some}
use Rattle.base.specs.Distinct.{Distinct}
use Rattle.base.specs.Limits.{max_number, outgoing_size}
use Rattle.base.specs.Found.{found}
use Rattle.varint.specs.Varint.{AllBytes}
use Rattle.plan.specs.Plan.{Plan}
use Rattle.plan.specs.Reading.{settled_plan}
use Rattle.journal.specs.declared.Record.{Record}
use Rattle.journal.specs.Reading.{records_in}
use Rattle.journal.specs.Records.{journal_bytes}
use Rattle.party.specs.Party.{Party, new_party}
use Rattle.party.specs.Run.{bytes_of}
use Rattle.party.specs.Typed.{Typed}
use Rattle.party.specs.Valid.{party_valid}
use Rattle.party_life.specs.Life.{Life, lived, made_along}
use Rattle.board_calls.specs.Calls.{Called}
use Rattle.board_calls.specs.Restore.{Replay, restore_questions}
use Rattle.board_calls.specs.Results.{RestoreGives}
use Rattle.board_promises.specs.Outgoing.{messages_of}

-- "every message of the whole records' history .. in the first order": the records are a life of the board as set up, and what is given is what that life
-- makes of it, its messages in the order in which the calls made them
pub record LivedAgain (n t own agreement : ℕ) (bytes j : List ℕ) (x : Replay) : Type 0 where
  pub plan : Plan
  pub reads : settled_plan n t own bytes ≡ found plan
  pub life : Life (new_party n t own agreement plan) (records_in j)
  pub ran : x.ran ≡ lived (new_party n t own agreement plan) (records_in j)
  -- "their length in bytes"
  pub used : x.used ≡ length (journal_bytes (records_in j))

-- what an accepted restore makes of the outgoing buffer: the messages from its first byte, "each once", and no other byte
pub record WritesAll (x : Replay) (c : Called) (out out_then : List ℕ) : Type 0 where
  pub messages : messages_of (take c.sent out_then) ≡ some x.ran.made
  pub once : Distinct x.ran.made
  pub room : c.sent ≤ outgoing_size
  pub rest : drop c.sent out_then ≡ drop c.sent out

-- of every accepted restore, whatever the journal holds; the agreement number has the width of its type
abbrev pub RestoresAll : Type 0
RestoresAll =
    (n t own agreement : ℕ) (bytes j out : List ℕ) (c : Called) (out_then : List ℕ) (x : Replay) → agreement ≤ max_number → AllBytes j
    → RestoreGives (restore_questions n t own agreement bytes j (length out)) out c out_then → restore_questions n t own agreement bytes j (length out) ≡ found x
    → LivedAgain n t own agreement bytes j x × WritesAll x c out out_then

-- "The buffer suffices": from every party that passes question 19, for every list of records that a restore would accept after it, whoever is faulty
abbrev pub BufferSuffices : Type 0
BufferSuffices = (p : Party) → Typed p → T (party_valid p) → (rs : List Record) → Life p rs → length (bytes_of (made_along p rs)) ≤ outgoing_size
