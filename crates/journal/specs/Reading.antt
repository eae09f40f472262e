-- Reading a record by its format, and the records of given bytes. `Reads` (Statement.antt) says what is found, so that nobody needs to believe these definitions.
use Rattle.std.specs.Prelude.{◌≡◌, List, [], ◌∷◌, ℕ, zero, suc, length, Ok, Err}
use Rattle.format.specs.declared.Fault.{Fault}
use Rattle.format.specs.declared.Failure.{Failure}
use Rattle.format.specs.Reading.{Read, read_at}
use Rattle.journal.specs.declared.Record.{Record}
use Rattle.journal.specs.declared.RecordError.{RecordError}
use Rattle.journal.specs.declared.RecordError.TheVariants.{Torn, Bad}
use Rattle.journal.specs.Format.{record_format}
pub use Rattle.journal.specs.Results.{RecordRead, whole_record}

-- "A torn last record, one that only further bytes could make whole": the fault decides, and not a refusal's number
abbrev pub fails_as : Fault → RecordError
fails_as Fault.Cut = Torn
fails_as Fault.CutOutside = Bad
fails_as Fault.Malformed = Bad
fails_as Fault.Outside = Bad
fails_as Fault.Spare = Bad

abbrev pub FailsAs : Failure → RecordError → Type 0
FailsAs x e = e ≡ fails_as x.fault

-- what the format finds, as the reader answers it
abbrev pub as_read : Read Record → RecordRead
as_read (Ok r) = Ok r
as_read (Err x) = Err (fails_as x.fault)

-- the record that stands at `at`
unfoldable pub record_at : List ℕ → ℕ → RecordRead
record_at s at = as_read (read_at record_format s at)

abbrev pub with_record : RecordRead → List Record → (Record → ℕ → List Record) → List Record
with_record (Ok r) rs more = more r.value r.next
with_record (Err e) rs more = rs

-- the whole records from `at` on, at most f, after rs; the latest first
unfoldable pub records_from : ℕ → List ℕ → ℕ → List Record → List Record
records_from zero j at rs = rs
records_from (suc f) j at rs = with_record (record_at j at) rs (λ r next. records_from f j next (r ∷ rs))

-- the whole records that a journal begins with, the latest first
abbrev pub records_in : List ℕ → List Record
records_in j = records_from (length j) j 0 []
