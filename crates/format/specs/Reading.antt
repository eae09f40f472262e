-- Reading by a format, left to right: the first field that fails decides, and its first byte is the place.
use Rattle.std.specs.Prelude.{List, ℕ, ltb, Ok, Err}
use Rattle.base.specs.Pick.{pick}
use Rattle.varint.specs.declared.VarintError.{VarintError}
use Rattle.varint.specs.declared.VarintError.TheVariants.{Short, Malformed}
use Rattle.varint.specs.Reading.{VarintRead, varint_at}
use Rattle.format.specs.declared.Fault.{Fault}
use Rattle.format.specs.Format.{Format, says, field}
pub use Rattle.format.specs.Results.{Read, whole, failed}

-- Document 02, Q-2: "The reading of a single group must say whether the bytes ended or the group was malformed": a field is that reading, held to its limits.
abbrev pub fault_of : ℕ → VarintError → Fault
fault_of high (Short least) = pick (ltb high least) Fault.CutOutside Fault.Cut
fault_of high Malformed = Fault.Malformed

abbrev pub field_of : ℕ → ℕ → ℕ → VarintRead → Read ℕ
field_of low high at (Ok r) = pick (ltb r.value low) (failed Fault.Outside at) (pick (ltb high r.value) (failed Fault.Outside at) (whole r.value r.next))
field_of low high at (Err e) = failed (fault_of high e) at

unfoldable pub field_at : ℕ → ℕ → List ℕ → ℕ → Read ℕ
field_at low high s at = field_of low high at (varint_at s at)

abbrev pub with_field : {A : Type 0} → Read ℕ → (ℕ → ℕ → Read A) → Read A
with_field (Ok r) more = more r.value r.next
with_field (Err e) more = Err e

-- the format's fields from `at` on
abbrev pub read_at : {A : Type 0} → Format A → List ℕ → ℕ → Read A
read_at (says a) s at = whole a at
read_at (field low high rest) s at = with_field (field_at low high s at) (λ v next. read_at (rest v) s next)
