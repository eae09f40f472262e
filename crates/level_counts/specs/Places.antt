-- "For each level and body a party keeps the set of senders": where a level keeps each of them.
use Rattle.std.specs.Prelude.{ℕ, ◌+◌}
use Rattle.message.specs.declared.Body.{Body}
use Rattle.message.specs.declared.Body.TheVariants.{FirstEcho, FirstProposal, SecondEcho, SecondProposal, Side, Centre}
use Rattle.message.specs.Message.{none_value}

-- a value that is not there yet
abbrev pub not_yet : ℕ
not_yet = none_value + 1

-- the values of an echo: those before none, and none
abbrev pub value_count : ℕ
value_count = none_value + 1

-- the places of a value's binary digits: "bit place 0 to 3"
abbrev pub bit_places : ℕ
bit_places = 4

-- where the sets of each kind of message begin, first echoes at 0: that of value v is v places on
abbrev pub first_proposals : ℕ
first_proposals = value_count

-- none is never a first proposal
abbrev pub second_echoes : ℕ
second_echoes = first_proposals + none_value

abbrev pub second_proposals : ℕ
second_proposals = second_echoes + value_count

-- sides begin with 1
abbrev pub sides : ℕ
sides = second_proposals + none_value

abbrev pub centres : ℕ
centres = sides + none_value

-- how many messages differ at a level
abbrev pub slot_count : ℕ
slot_count = centres + 1

-- the place of a message's set of senders
unfoldable pub slot : Body → ℕ
slot (FirstEcho v) = v
slot (FirstProposal v) = first_proposals + v
slot (SecondEcho v) = second_echoes + v
slot (SecondProposal v) = second_proposals + v
slot (Side v) = sides + v
slot Centre = centres
