-- "A signed number z is the group of 2z if z is 0 or more, else of -2z-1; so -5 is 09."
use Rattle.std.specs.Prelude.{List, ℕ, ◌+◌, ◌-◌, ◌*◌, ◌/◌, ◌%◌, eqb, leb, ℤ, pos, negsuc, Result, Ok, Err}
use Rattle.base.specs.Limits.{offset_zero}
use Rattle.base.specs.Pick.{pick}
use Rattle.varint.specs.declared.Parsed.{Parsed}
use Rattle.varint.specs.declared.VarintError.{VarintError}
use Rattle.varint.specs.Varint.{varint_bytes}
use Rattle.varint.specs.Reading.{VarintRead, varint_at}

-- negsuc n is -(n + 1)
abbrev pub zigzag : ℤ → ℕ
zigzag (pos n) = 2 * n
zigzag (negsuc n) = 2 * n + 1

abbrev pub unzigzag : ℕ → ℤ
unzigzag v = pick (eqb (v % 2) 0) (pos (v / 2)) (negsuc (v / 2))

abbrev pub signed_bytes : ℤ → List ℕ
signed_bytes z = varint_bytes (zigzag z)

-- what reading a signed number finds
abbrev pub SignedRead : Type 0
SignedRead = Result (Parsed ℤ) VarintError

abbrev pub signed_of : VarintRead → SignedRead
signed_of (Ok r) = Ok (record { value = unzigzag r.value; next = r.next })
signed_of (Err e) = Err e

abbrev pub signed_at : List ℕ → ℕ → SignedRead
signed_at s at = signed_of (varint_at s at)

-- Offset binary: z + 2^31, so that a signed 32-bit number is a number from 0 to 2^32 - 1 in the same order.
abbrev pub offset : ℤ → ℕ
offset (pos n) = n + offset_zero
offset (negsuc n) = offset_zero - 1 - n

-- the number whose offset binary is u
abbrev pub from_offset : ℕ → ℤ
from_offset u = pick (leb offset_zero u) (pos (u - offset_zero)) (negsuc (offset_zero - 1 - u))

-- offset binary of the number that the varint v stands for
abbrev pub offset_of_zigzag : ℕ → ℕ
offset_of_zigzag v = pick (eqb (v % 2) 0) (offset_zero + v / 2) (offset_zero - 1 - v / 2)
