-- Only for proofs: started, taken and made by the records in a board's journal, which is what demand 3 says (Words, `started_records`, `took_records`,
-- `made_records`, `started_with_records`).
use Rattle.std.specs.Prelude.{◌≡◌, ℕ, ℤ}
use mathlib.Core.List.{List, Memᴰ}
use Rattle.base.specs.Found.{found}
use Rattle.plan.specs.Plan.{Plan}
use Rattle.message.specs.declared.Message.{Message}
use Rattle.journal.specs.declared.Record.{Record}
use Rattle.journal.specs.declared.Record.TheVariants.{Start, Taken}
use Rattle.journal.specs.Reading.{records_in}
use Rattle.party.specs.Party.{Party, new_party}
use Rattle.party.specs.Run.{starting}
use Rattle.party_life.specs.Life.{made_along}
use Rattle.board_calls.specs.Calls.{fresh}
use Rattle.agreement.specs.History.{Instance, Lent, StartInput, voted_input, start, start_finds, calls, History, board_after}
use Rattle.agreement.specs.Demand.{Stands}

-- the records of board i's calls that are not lost
abbrev pub records_of : History → ℕ → List Record
records_of h i = records_in (board_after h i).journal

-- there is one of a start at position x; of message m taken from board s
abbrev pub StartRecorded : History → ℕ → ℕ → Type 0
StartRecorded h i x = (a : ℕ) × Memᴰ (Start a x) (records_of h i)

abbrev pub TakeRecorded : History → ℕ → ℕ → Message → Type 0
TakeRecorded h i s m = Memᴰ (Taken s m) (records_of h i)

-- the call of one made the message m
abbrev pub RecordsMade : Instance → Plan → History → ℕ → Message → Type 0
RecordsMade v plan h i m = Memᴰ m (made_along (new_party v.n v.t i v.agreement plan) (records_of h i))

-- an accepted start of board i in the list: what its caller gave is voted on as z, and the call's record is of a start at position x
pub record AcceptedStart (h : History) (i x : ℕ) (z : ℤ) : Type 0 where
  pub party : Party
  pub input : StartInput
  pub lent : Lent
  pub used : ℕ
  pub call : Memᴰ (calls i (start party input lent used)) h
  pub accepted : start_finds party input lent used ≡ found (fresh (Start party.agreement x) (starting party x))
  pub voted : voted_input input ≡ z

-- board i started with z: in an accepted call, at the position x of z, and there is a record of a start at x
pub record StartedRecorded (plan : Plan) (h : History) (i x : ℕ) (z : ℤ) : Type 0 where
  pub call : AcceptedStart h i x z
  pub stands : Stands plan x z
  pub kept : StartRecorded h i x
