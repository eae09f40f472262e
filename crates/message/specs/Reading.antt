-- Reading a message by its format. `Reads` and `Refuses` (Statement.antt) say what is found; the calls and demand 3 need no more.
use Rattle.std.specs.Prelude.{List, ℕ, eqb, length, Ok, Err}
use Rattle.base.specs.Pick.{pick}
use Rattle.format.specs.declared.Fault.{Fault}
use Rattle.format.specs.Reading.{Read, read_at}
use Rattle.message.specs.declared.Message.{Message}
use Rattle.message.specs.Format.{message_format}
pub use Rattle.message.specs.Results.{Exactly, broken}

-- the message that stands at `at`
unfoldable pub message_at : List ℕ → ℕ → Read Message
message_at s at = read_at message_format s at

-- "Bytes exactly one message?" Document 02, Q-2: "for 24 the first spare byte"
abbrev pub exactly : List ℕ → Read Message → Exactly
exactly s (Ok r) = pick (eqb r.next (length s)) (Ok r.value) (broken Fault.Spare r.next)
exactly s (Err e) = Err e

unfoldable pub exact_message : List ℕ → Exactly
exact_message s = exactly s (message_at s 0)
