-- Document 01, "Groups": a varint (document 01's term: group) "is a whole number in seven-bit pieces, low piece first,
-- top bit set on every byte but the last, in the fewest bytes, at most 4,294,967,295".
use Rattle.std.specs.Prelude.{List, [], ◌∷◌, ℕ, zero, suc, ◌+◌, ◌-◌, ◌/◌, ◌%◌, ◌<◌, ltb, length, get_or}
use Rattle.base.specs.Pick.{pick}

-- "seven-bit pieces", "at most 4,294,967,295": so at most five pieces
abbrev pub piece_size : ℕ
piece_size = 128

abbrev pub max_pieces : ℕ
max_pieces = 5

-- every element is a byte
abbrev pub AllBytes : List ℕ → Type 0
AllBytes s = (i : ℕ) → get_or s i 0 < 256

-- the pieces of v, at most f + 1 of them
unfoldable pub pieces : ℕ → ℕ → List ℕ
pieces zero v = (v % piece_size) ∷ []
pieces (suc f) v = pick (ltb v piece_size) (v ∷ []) ((v % piece_size + piece_size) ∷ pieces f (v / piece_size))

-- five pieces hold every number up to 4,294,967,295
abbrev pub varint_bytes : ℕ → List ℕ
varint_bytes v = pieces (max_pieces - 1) v

abbrev pub varint_length : ℕ → ℕ
varint_length v = length (varint_bytes v)
