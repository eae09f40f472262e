-- What reading by a format finds, in terms of what is written: `reads` (proofs/Theorem.antt) proves it of every sensible format.
use Rattle.std.specs.Prelude.{◌≡◌, ◌⊎◌, List, [], ◌++◌, ℕ, ◌+◌, ◌<◌, ◌≤◌, length, drop}
use Rattle.base.specs.Limits.{max_number}
use Rattle.varint.specs.Varint.{AllBytes, piece_size, varint_bytes}
use Rattle.varint.specs.Statement.{BytesAt, Beginning}
use Rattle.format.specs.declared.Fault.{Fault}
use Rattle.format.specs.Format.{Format, says, field, Spells}
use Rattle.format.specs.Results.{whole, failed}
use Rattle.format.specs.Reading.{read_at}

-- of every field that is reached the least value has one byte and is not above the largest, which a varint holds
abbrev pub Sensible : {A : Type 0} → Format A → Type 0
Sensible (says a) = Unit {0}
Sensible (field low high rest) = (low < piece_size) × (low ≤ high) × (high ≤ max_number) × ((v : ℕ) → low ≤ v → v ≤ high → Sensible (rest v))

-- the bytes are the fields before one that is to be from low to high, each within its limits
abbrev pub Leads : {A : Type 0} → Format A → List ℕ → ℕ → ℕ → Type 0
Leads (says a) bs low high = ⊥
Leads (field l h rest) bs low high =
    ((bs ≡ []) × (l ≡ low) × (h ≡ high)) ⊎ ((v : ℕ) × (l ≤ v) × (v ≤ h) × (more : List ℕ) × (bs ≡ varint_bytes v ++ more) × Leads (rest v) more low high)

-- what a fault says of the bytes t from the failing field on, which is to be from low to high
abbrev pub Breaks : ℕ → ℕ → List ℕ → Fault → Type 0
-- they end inside a varint of the limits
Breaks low high t Fault.Cut = (v : ℕ) × (low ≤ v) × (v ≤ high) × Beginning (varint_bytes v) t
-- they end inside a varint, but of none within the limits
Breaks low high t Fault.CutOutside = ((v : ℕ) × (v ≤ max_number) × Beginning (varint_bytes v) t) × ((v : ℕ) → v ≤ max_number → Beginning (varint_bytes v) t → high < v)
-- no varint stands there, and they end inside none
Breaks low high t Fault.Malformed = (v : ℕ) → v ≤ max_number → (Beginning (varint_bytes v) t → ⊥) × ((q : List ℕ) → t ≡ varint_bytes v ++ q → ⊥)
-- a varint stands there that is outside the limits
Breaks low high t Fault.Outside = (v : ℕ) × (v ≤ max_number) × (q : List ℕ) × (t ≡ varint_bytes v ++ q) × ((v < low) ⊎ (high < v))
Breaks low high t Fault.Spare = ⊥

-- the bytes of s from `at` on fail by this fault at this place
pub record Fails {A : Type 0} (f : Format A) (s : List ℕ) (at : ℕ) (fault : Fault) (place : ℕ) : Type 0 where
  pub low : ℕ
  pub high : ℕ
  pub before : List ℕ
  pub leads : Leads f before low high
  pub stands : BytesAt s at place before
  pub breaks : Breaks low high (drop place s) fault

pub record Reads {A : Type 0} (f : Format A) : Type 0 where
  -- what is written is read back wherever it stands
  pub written : (bs : List ℕ) (a : A) (p q : List ℕ) → Spells f bs a → read_at f (p ++ (bs ++ q)) (length p) ≡ whole a (length p + length bs)
  -- only what was written is read
  pub only : (s : List ℕ) (at : ℕ) (a : A) (next : ℕ) → AllBytes s → at ≤ length s → read_at f s at ≡ whole a next → (bs : List ℕ) × Spells f bs a × BytesAt s at next bs
  -- what further bytes could make whole is cut, at some place
  pub cut : (bs : List ℕ) (a : A) (p t : List ℕ) → Spells f bs a → Beginning bs t → (place : ℕ) × (read_at f (p ++ t) (length p) ≡ failed Fault.Cut place)
  -- only that is cut
  pub cut_only : (s : List ℕ) (at place : ℕ) → AllBytes s → at ≤ length s → read_at f s at ≡ failed Fault.Cut place
      → (bs : List ℕ) × (a : A) × Spells f bs a × Beginning bs (drop at s)
  -- every fault is what it says, at the first byte of the first field that fails
  pub fails : (s : List ℕ) (at : ℕ) (fault : Fault) (place : ℕ) → AllBytes s → at ≤ length s → read_at f s at ≡ failed fault place → Fails f s at fault place
  -- and always then, so that of any bytes at most one fault, at one place, is as it says
  pub always : (s : List ℕ) (at : ℕ) (fault : Fault) (place : ℕ) → AllBytes s → Fails f s at fault place → read_at f s at ≡ failed fault place
