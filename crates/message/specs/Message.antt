-- Document 01, "Messages": "Groups: agreement number, level (0 to 14), kind, value", by the table of six kinds.
use Rattle.std.specs.Prelude.{◌≡◌, Bool, true, ◌&&◌, List, [], ◌++◌, ℕ, ◌≤◌, leb}
pub use Rattle.base.specs.Limits.{last_level, none_value}
use Rattle.base.specs.Limits.{max_number, max_degree}
use Rattle.varint.specs.Varint.{varint_bytes}
use Rattle.message.specs.declared.Body.{Body}
use Rattle.message.specs.declared.Body.TheVariants.{FirstEcho, FirstProposal, SecondEcho, SecondProposal, Side, Centre}
use Rattle.message.specs.declared.Message.{Message}

-- the largest value: "d at most 15"
abbrev pub max_value : ℕ
max_value = max_degree

-- the table's column "Kind"
abbrev pub kind_of : Body → ℕ
kind_of (FirstEcho v) = 1
kind_of (FirstProposal v) = 2
kind_of (SecondEcho v) = 3
kind_of (SecondProposal v) = 4
kind_of (Side v) = 5
kind_of Centre = 6

abbrev pub body_in_table : Body → Bool
body_in_table (FirstEcho v) = leb v none_value
body_in_table (FirstProposal v) = leb v max_value
body_in_table (SecondEcho v) = leb v none_value
body_in_table (SecondProposal v) = leb v none_value
body_in_table (Side v) = leb 1 v && leb v max_value
body_in_table Centre = true

abbrev pub in_table : Message → Bool
in_table m = leb m.level last_level && body_in_table m.body

-- "An agreement number (0 to 4,294,967,295)", and level, kind and value by the table
abbrev pub InLimits : Message → Type 0
InLimits m = (in_table m ≡ true) × (m.number ≤ max_number)

-- the value's group; "field absent" for a centre
abbrev pub value_bytes : Body → List ℕ
value_bytes (FirstEcho v) = varint_bytes v
value_bytes (FirstProposal v) = varint_bytes v
value_bytes (SecondEcho v) = varint_bytes v
value_bytes (SecondProposal v) = varint_bytes v
value_bytes (Side v) = varint_bytes v
value_bytes Centre = []

unfoldable pub message_bytes : Message → List ℕ
message_bytes m = ((varint_bytes m.number ++ varint_bytes m.level) ++ varint_bytes (kind_of m.body)) ++ value_bytes m.body
