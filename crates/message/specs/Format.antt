-- The format of a message: document 01, "Messages": "Groups: agreement number, level (0 to 14), kind, value".
use Rattle.std.specs.Prelude.{ℕ, eqb}
use Rattle.base.specs.Pick.{pick}
use Rattle.base.specs.Limits.{max_number, last_level}
use Rattle.format.specs.Format.{Format, says, field}
use Rattle.message_values.specs.Values.{value_low, value_high}
use Rattle.message.specs.declared.Body.{Body}
use Rattle.message.specs.declared.Body.TheVariants.{FirstEcho, FirstProposal, SecondEcho, SecondProposal, Side, Centre}
use Rattle.message.specs.declared.Message.{Message}

-- a body's value; 0 for a centre, which has none
abbrev pub value_of : Body → ℕ
value_of (FirstEcho v) = v
value_of (FirstProposal v) = v
value_of (SecondEcho v) = v
value_of (SecondProposal v) = v
value_of (Side v) = v
value_of Centre = 0

-- the body of kind 1 to 6 with value v
abbrev pub body_of : ℕ → ℕ → Body
body_of k v =
    pick (eqb k 1) (FirstEcho v)
    (pick (eqb k 2) (FirstProposal v)
    (pick (eqb k 3) (SecondEcho v)
    (pick (eqb k 4) (SecondProposal v)
    (pick (eqb k 5) (Side v) Centre))))

-- the value within its kind's limits, after number n, level l and kind k; "field absent" for a centre
abbrev pub from_kind : ℕ → ℕ → ℕ → Format Message
from_kind n l k =
    pick (eqb k 6) (says (record { number = n; level = l; body = Centre }))
    (field (value_low k) (value_high k) (λ v. says (record { number = n; level = l; body = body_of k v })))

-- the kind, after number and level
abbrev pub from_level : ℕ → ℕ → Format Message
from_level n l = field 1 6 (from_kind n l)

-- the level, after the number
abbrev pub from_number : ℕ → Format Message
from_number n = field 0 last_level (from_level n)

abbrev pub message_format : Format Message
message_format = field 0 max_number from_number
