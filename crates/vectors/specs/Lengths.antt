-- Document 02, Q-4: the printed table of lengths at both sides of each border. proofs/Lengths.antt shows that every row holds.
use Rattle.std.specs.Prelude.{◌≡◌, List, [], ◌∷◌, ℕ, length}
use Rattle.varint.specs.Varint.{varint_bytes}
use Rattle.varint.specs.Table.{table_length}

-- a number, and how many bytes its varint has
pub record Row : Type 0 where
  pub value : ℕ
  pub bytes : ℕ

infix 70 ◌has◌
abbrev pub ◌has◌ : ℕ → ℕ → Row
v has k = record { value = v; bytes = k }

-- what a row claims: of the bytes that are written, and of the table
abbrev pub Measured : Row → Type 0
Measured r = (length (varint_bytes r.value) ≡ r.bytes) × (table_length r.value ≡ r.bytes)

unfoldable pub lengths : List Row
lengths =
    -- "1 byte to 127"
    0 has 1
    ∷ 127 has 1
    -- "2 to 16,383"
    ∷ 128 has 2
    ∷ 16383 has 2
    -- "3 to 2,097,151"
    ∷ 16384 has 3
    ∷ 2097151 has 3
    -- "4 to 268,435,455"
    ∷ 2097152 has 4
    ∷ 268435455 has 4
    -- "else 5"
    ∷ 268435456 has 5
    ∷ 4294967295 has 5
    ∷ []
