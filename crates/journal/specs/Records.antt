-- Whole journals: the bytes of a list of records, and the limits of a record.
use Rattle.std.specs.Prelude.{List, [], ◌∷◌, ◌++◌, ℕ, ◌≤◌}
use Rattle.base.specs.Limits.{max_number, max_position, max_sender}
use Rattle.varint.specs.Statement.{Beginning}
use Rattle.message.specs.Message.{InLimits as MessageInLimits}
use Rattle.journal.specs.declared.Record.{Record}
use Rattle.journal.specs.declared.Record.TheVariants.{Start, Taken}
use Rattle.journal.specs.Journal.{record_bytes}

-- "A whole record has every value in the limits just given and in the message table."
abbrev pub InLimits : Record → Type 0
InLimits (Start agreement x) = (agreement ≤ max_number) × (x ≤ max_position)
InLimits (Taken sender m) = (sender ≤ max_sender) × MessageInLimits m

abbrev pub AllInLimits : List Record → Type 0
AllInLimits [] = Unit
AllInLimits (r ∷ rs) = InLimits r × AllInLimits rs

-- tail is a beginning of the record's bytes, perhaps empty, and not all of them
abbrev pub ProperBeginning : Record → List ℕ → Type 0
ProperBeginning r tail = Beginning (record_bytes r) tail

-- the bytes of the records, the latest first in the list and last in the bytes
unfoldable pub journal_bytes : List Record → List ℕ
journal_bytes [] = []
journal_bytes (r ∷ rs) = journal_bytes rs ++ record_bytes r
