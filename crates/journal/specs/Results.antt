-- What reading a record finds, as the code's results have it. `Statement` says when it is found.
use Rattle.std.specs.Prelude.{ℕ, Result, Ok}
use Rattle.varint.specs.declared.Parsed.{Parsed}
use Rattle.journal.specs.declared.Record.{Record}
use Rattle.journal.specs.declared.RecordError.{RecordError}

-- what reading a record finds: it and the place past it, or why there is none
abbrev pub RecordRead : Type 0
RecordRead = Result (Parsed Record) RecordError

-- read: the record, and the place past it
abbrev pub whole_record : Record → ℕ → RecordRead
whole_record r next = Ok (record { value = r; next = next })
