-- What reading a varint finds and how long it is, in terms of what is written: `reads` and `sizes` (proofs/Theorem.antt) prove it.
use Rattle.std.specs.Prelude.{◌≡◌, List, ◌++◌, ℕ, ◌+◌, ◌-◌, ◌<◌, ◌≤◌, leb, length, take, drop, Ok, Err}
use Rattle.base.specs.Pick.{pick}
use Rattle.base.specs.Limits.{max_number}
use Rattle.varint.specs.declared.VarintError.TheVariants.{Short, Malformed}
use Rattle.varint.specs.Varint.{AllBytes, varint_bytes}
use Rattle.varint.specs.Table.{table_length}
use Rattle.varint.specs.Results.{value}
use Rattle.varint.specs.Reading.{varint_at}
use Rattle.varint.specs.Writing.{written_of}

-- the bytes of s from `at` up to `next` are bs
abbrev pub BytesAt : List ℕ → ℕ → ℕ → List ℕ → Type 0
BytesAt s at next bs = (at ≤ next) × (next ≤ length s) × (take (next - at) (drop at s) ≡ bs)

-- t is a beginning of bs, perhaps empty, and not all of it
abbrev pub Beginning : List ℕ → List ℕ → Type 0
Beginning bs t = (rest : List ℕ) × (0 < length rest) × (t ++ rest ≡ bs)

pub record Reads : Type 0 where
  -- what is written is read back wherever it stands: "300 is AC 02"
  pub written : (v : ℕ) (p q : List ℕ) → v ≤ max_number → varint_at (p ++ (varint_bytes v ++ q)) (length p) ≡ value v (length p + length (varint_bytes v))
  -- only what was written is read, "in the fewest bytes, at most 4,294,967,295": "80 00 is refused"
  pub only : (s : List ℕ) (at v next : ℕ) → AllBytes s → varint_at s at ≡ value v next → (v ≤ max_number) × BytesAt s at next (varint_bytes v)
  -- document 02, Q-2: "whether the bytes ended": they end inside the varint of `least`, and inside that of no smaller value
  pub short : (s : List ℕ) (at least : ℕ) → AllBytes s → at ≤ length s → varint_at s at ≡ Err (Short least)
      → (least ≤ max_number) × Beginning (varint_bytes least) (drop at s) × ((v : ℕ) → v ≤ max_number → Beginning (varint_bytes v) (drop at s) → least ≤ v)
  -- "or the group was malformed": no varint stands there, and the bytes end inside none
  pub malformed : (s : List ℕ) (at : ℕ) → at ≤ length s → varint_at s at ≡ Err Malformed
      → (v : ℕ) → v ≤ max_number → (Beginning (varint_bytes v) (drop at s) → ⊥) × ((q : List ℕ) → drop at s ≡ varint_bytes v ++ q → ⊥)

-- document 02: "those five cases, shown for every value to be the number of bytes written"
pub record Sizes : Type 0 where
  -- of the bytes of every value that a varint can hold
  pub bytes : (v : ℕ) → v ≤ max_number → table_length v ≡ length (varint_bytes v)
  -- of what the public writer answers: it needs room for so many bytes, and says that it wrote so many
  pub written : (l : List ℕ) (at v : ℕ) → v ≤ max_number
      → written_of l at (varint_bytes v) ≡ pick (leb (at + table_length v) (length l)) (Ok (table_length v)) (Err (record {}))
