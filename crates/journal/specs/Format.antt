-- The format of a record: document 01, "Journal and cuts": "Start: group 1, agreement number, position (0 to 65,535). Taken: group 2, sender (0 to 15), message bytes."
use Rattle.std.specs.Prelude.{ℕ, eqb}
use Rattle.base.specs.Pick.{pick}
use Rattle.base.specs.Limits.{max_number, max_position, max_sender}
use Rattle.format.specs.Format.{Format, says, field, saying}
use Rattle.message.specs.Format.{message_format}
use Rattle.journal.specs.declared.Record.{Record}
use Rattle.journal.specs.declared.Record.TheVariants.{Start, Taken}

-- a start's position, after its agreement number
abbrev pub from_agreement : ℕ → Format Record
from_agreement a = field 0 max_position (λ x. says (Start a x))

abbrev pub start_format : Format Record
start_format = field 0 max_number from_agreement

-- a taken message, after its sender
abbrev pub from_sender : ℕ → Format Record
from_sender b = saying (Taken b) message_format

abbrev pub taken_format : Format Record
taken_format = field 0 max_sender from_sender

abbrev pub record_format : Format Record
record_format = field 1 2 (λ tag. pick (eqb tag 1) start_format taken_format)
