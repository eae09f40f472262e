-- Reading a varint. `Reads` (Statement.antt) says what it finds, and what it says where it finds no value; the calls and demand 3 need no more.
use Rattle.std.specs.Prelude.{List, ℕ, zero, suc, ◌+◌, ◌-◌, ◌*◌, ◌/◌, max, ltb, eqb, length, get_or, Ok, Err}
use Rattle.base.specs.Pick.{pick}
use Rattle.base.specs.Limits.{max_number}
use Rattle.varint.specs.declared.VarintError.{VarintError}
use Rattle.varint.specs.declared.VarintError.TheVariants.{Short, Malformed}
use Rattle.varint.specs.Varint.{piece_size, max_pieces}
pub use Rattle.varint.specs.Results.{VarintRead, value}

-- what stands above the lowest piece is at most 33,554,431
abbrev pub max_rest : ℕ
max_rest = max_number / piece_size

-- The piece of byte b, 128 or more, before a rest. A rest of value 0 is not in the fewest bytes, so a rest still to come has at least value 1.
abbrev pub prefixed_error : ℕ → VarintError → VarintError
prefixed_error b (Short least) = pick (ltb max_rest (max 1 least)) Malformed (Short (b - piece_size + piece_size * max 1 least))
prefixed_error b Malformed = Malformed

abbrev pub prefixed : ℕ → VarintRead → VarintRead
prefixed b (Ok r) = pick (eqb r.value 0) (Err Malformed) (pick (ltb max_rest r.value) (Err Malformed) (value (b - piece_size + piece_size * r.value) r.next))
prefixed b (Err e) = Err (prefixed_error b e)

-- the varint that stands at `at`, of at most f bytes
unfoldable pub pieces_at : ℕ → List ℕ → ℕ → VarintRead
pieces_at zero s at = Err Malformed
pieces_at (suc f) s at =
    pick (ltb at (length s))
    (pick (ltb (get_or s at 0) piece_size) (value (get_or s at 0) (at + 1)) (prefixed (get_or s at 0) (pieces_at f s (at + 1))))
    (Err (Short 0))

abbrev pub varint_at : List ℕ → ℕ → VarintRead
varint_at s at = pieces_at max_pieces s at

-- the value that was read, or 0; the place past it, or `at`, where none was
abbrev pub value_of : VarintRead → ℕ
value_of (Ok r) = r.value
value_of (Err e) = 0

abbrev pub past_of : VarintRead → ℕ → ℕ
past_of (Ok r) at = r.next
past_of (Err e) at = at
