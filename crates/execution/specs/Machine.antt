-- A board as a state machine: its state is what its recorded calls make of it.
use Rattle.std.specs.Prelude.{ℕ}

-- a recorded call: a start with an input, or a message taken as board s's
pub data Event (Msg Input : Type 0) : Type 0 where
  start : Input → Event Msg Input
  take : (s : ℕ) → Msg → Event Msg Input

pub record Machine : Type 1 where
  pub Msg : Type 0
  pub Input : Type 0
  pub State : Type 0
  -- board i before its first call
  pub initial : (i : ℕ) → State
  -- one recorded call
  pub run : State → Event Msg Input → State
  -- what the state tells, for proofs: the message was taken as that board's
  pub Heard : State → ℕ → Msg → Type 0
  -- and: the message was made
  pub Sent : State → Msg → Type 0
