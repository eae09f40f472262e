-- A vote as a machine: a board's state is its party, and a recorded call is a start at a position or a message taken.
use Rattle.std.specs.Prelude.{◌≡◌, Bool, List, [], ◌∷◌, ℕ, T, ltb}
use Rattle.base.specs.Pick.{pick}
use Rattle.plan.specs.Plan.{Plan}
use Rattle.message.specs.declared.Message.{Message}
use Rattle.journal.specs.declared.Record.{Record}
use Rattle.journal.specs.declared.Record.TheVariants.{Start, Taken}
use Rattle.party.specs.Party.{Party, new_party, level_at, sending, context_of}
use Rattle.party.specs.Run.{Ran, resting, starting, taking}
use Rattle.party_life.specs.Life.{passes}
use Rattle.execution.specs.Machine.{Event, start, take, Machine}
use Rattle.level_laws.specs.Inner.{heard_from, SentIn}

-- the record of a call
abbrev pub record_of : Party → Event Message ℕ → Record
record_of p (start x) = Start p.agreement x
record_of p (take s m) = Taken s m

-- the call is one that a board accepts: its only start, on the plan; a message of the table, of this vote and from one of its boards
abbrev pub accepts : Party → Event Message ℕ → Bool
accepts p e = passes p (record_of p e)

-- what an accepted call does
abbrev pub accepted : Party → Event Message ℕ → Ran
accepted p (start x) = starting p x
accepted p (take s m) = taking p s m

-- what a call does: nothing, where it is not accepted
unfoldable pub called : Party → Event Message ℕ → Ran
called p e = pick (accepts p e) (accepted p e) (resting p)

-- message m was taken from board s
pub record Heard (p : Party) (s : ℕ) (m : Message) : Type 0 where
  pub number : m.number ≡ p.agreement
  pub body : T (heard_from (level_at p m.level) m.body s)

-- message m was made
pub record Sent (p : Party) (m : Message) : Type 0 where
  pub number : m.number ≡ p.agreement
  pub sends : T (sending p m.level)
  pub body : SentIn (context_of p m.level) (level_at p m.level) m.body

-- the own number of a board; one that is not of the vote counts as board 0
abbrev pub seat : ℕ → ℕ → ℕ
seat n i = pick (ltb i n) i 0

-- the vote of n boards, t of which may be faulty, with an agreement number and a plan
abbrev pub vote_machine : (n t agreement : ℕ) → Plan → Machine
vote_machine n t agreement plan = record {
  Msg = Message;
  Input = ℕ;
  State = Party;
  initial = λ i. new_party n t (seat n i) agreement plan;
  run = λ p e. (called p e).party;
  Heard = Heard;
  Sent = Sent;
}

-- the calls of some records, the latest first
abbrev pub event_of : Record → Event Message ℕ
event_of (Start a x) = start x
event_of (Taken s m) = take s m

unfoldable pub events_of : List Record → List (Event Message ℕ)
events_of [] = []
events_of (r ∷ rs) = event_of r ∷ events_of rs
