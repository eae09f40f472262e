-- Document 02, Q-2: the number that tells the wire tester what is broken in a message. Its place is the fault's.
use Rattle.std.specs.Prelude.{ℕ}
use Rattle.format.specs.declared.Fault.{Fault}

abbrev pub refusal_number : Fault → ℕ
-- "15 when the bytes end inside the message"
refusal_number Fault.Cut = 15
refusal_number Fault.CutOutside = 15
-- "22 when a group is too long or too large, even where the bytes end there"
refusal_number Fault.Malformed = 22
-- "23 when level, kind or value is outside the table"
refusal_number Fault.Outside = 23
-- "24 when bytes follow the message"
refusal_number Fault.Spare = 24
