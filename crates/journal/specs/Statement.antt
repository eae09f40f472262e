-- What reading a record, and the records of given bytes, finds, in terms of what is written: `reads` (proofs/Theorem.antt) proves it of the definitions of reading.
use Rattle.std.specs.Prelude.{◌≡◌, ◌⊎◌, List, ◌++◌, ℕ, ◌+◌, ◌≤◌, length, take, drop, Err}
use Rattle.varint.specs.Varint.{AllBytes}
use Rattle.varint.specs.Statement.{BytesAt}
use Rattle.journal.specs.declared.Record.{Record}
use Rattle.journal.specs.declared.RecordError.TheVariants.{Torn, Bad}
use Rattle.journal.specs.Journal.{record_bytes}
use Rattle.journal.specs.Records.{InLimits, AllInLimits, ProperBeginning, journal_bytes}
use Rattle.journal.specs.Results.{whole_record}
use Rattle.journal.specs.Reading.{record_at, records_in}

-- The bytes j begin with the records rs, and what stands after them is torn, which nothing at all is too, or bad.
pub record Begins (j : List ℕ) (rs : List Record) : Type 0 where
  pub limits : AllInLimits rs
  pub inside : length (journal_bytes rs) ≤ length j
  pub bytes : take (length (journal_bytes rs)) j ≡ journal_bytes rs
  pub end : (record_at j (length (journal_bytes rs)) ≡ Err Torn) ⊎ (record_at j (length (journal_bytes rs)) ≡ Err Bad)

-- What is neither read nor torn is bad.
pub record Reads : Type 0 where
  -- "A whole record has every value in the limits just given and in the message table": such a record is read back wherever it stands
  pub written : (r : Record) (p q : List ℕ) → InLimits r → record_at (p ++ (record_bytes r ++ q)) (length p) ≡ whole_record r (length p + length (record_bytes r))
  -- only such a record is read
  pub only : (s : List ℕ) (at : ℕ) (r : Record) (next : ℕ) → AllBytes s → record_at s at ≡ whole_record r next → InLimits r × BytesAt s at next (record_bytes r)
  -- "A torn last record, one that only further bytes could make whole": the beginning of such a record's bytes, perhaps empty
  pub torn : (r : Record) (p tail : List ℕ) → InLimits r → ProperBeginning r tail → record_at (p ++ tail) (length p) ≡ Err Torn
  -- only that is torn
  pub torn_only : (s : List ℕ) (at : ℕ) → AllBytes s → at ≤ length s → record_at s at ≡ Err Torn → (r : Record) × InLimits r × ProperBeginning r (drop at s)
  -- "the whole records, in order", and a torn last record "is dropped"
  pub records : (rs : List Record) (r : Record) (tail : List ℕ) → AllInLimits rs → InLimits r → ProperBeginning r tail
      → records_in (journal_bytes rs ++ tail) ≡ rs
  -- of any bytes, the whole records that they begin with
  pub begins : (j : List ℕ) → AllBytes j → Begins j (records_in j)
