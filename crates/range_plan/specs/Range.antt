-- What the contracts of this crate cite: the number that a reading stands for, and the plan of a range.
use Rattle.std.specs.Prelude.{Option, Some, None, List, ◌++◌, ℕ, ◌+◌, ◌-◌, leb, ℤ, pos, negsuc, neg_ℤ, ◌-ℤ◌}
use Rattle.base.specs.Pick.{pick}
use Rattle.base.specs.Limits.{max_number}
use Rattle.varint.specs.Varint.{varint_bytes}
use Rattle.signed.specs.Signed.{zigzag}
use Rattle.script_numbers.specs.declared.Reading.{Reading}
use Rattle.range_plan.specs.declared.Fields.{Fields}

-- the number that a reading stands for
abbrev pub integer : Reading → ℤ
integer r = pick r.negative (neg_ℤ (pos r.magnitude)) (pos r.magnitude)

-- "Plan kind 2 (range): group 2, signed low reading, then the width": the low reading's varint has the value low
abbrev pub range_plan : ℕ → ℕ → List ℕ
range_plan low width = (varint_bytes 2 ++ varint_bytes low) ++ varint_bytes width

-- a width, if it has a varint
abbrev pub with_width : ℕ → ℤ → Option Fields
with_width low (pos width) = pick (leb width max_number) (Some (record { low = low; width = width })) None
with_width low (negsuc n) = None

-- the numbers of the plan of a range, if both have varints
unfoldable pub fields_of : Reading → Reading → Option Fields
fields_of low high = pick (leb (zigzag (integer low)) max_number) (with_width (zigzag (integer low)) (integer high -ℤ integer low)) None

-- inner: a reading plus 2^32
abbrev pub raised_by : Reading → ℕ
raised_by r = pick r.negative (max_number + 1 - r.magnitude) (max_number + 1 + r.magnitude)
