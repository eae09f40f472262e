-- The table of messages, by kind and value, and the definitions case by case.
use mathlib.Core.Path.{◌≡◌, refl, sym, ap}
use mathlib.Core.Bool.{Bool, true, false, ◌&&◌}
use mathlib.Core.List.{List, []}
use Prim.Native.Nat.{ℕ, ◌+◌, ◌<◌, ◌≤◌}
use native.Mathlib.Omega.{arith}
use lib.Dec.{leb, eqb}
use lib.ListN.{length, length-append}
use borrow.Author.Tests.{le-leb, eq-eqb, ne_eqb}
use Rattle.base.specs.Pick.{pick}
use Rattle.varint.specs.Varint.{varint_bytes}
use Rattle.varint.proofs.Laws.{pieces_most}
use Rattle.format.specs.declared.Fault.{Fault}
use Rattle.format.specs.Format.{says, field}
use Rattle.format.specs.Reading.{Read, whole}
use Rattle.message_values.specs.Values.{value_low, value_high}
use Rattle.message.specs.declared.Body.{Body}
use Rattle.message.specs.declared.Body.TheVariants.{FirstEcho, FirstProposal, SecondEcho, SecondProposal, Side, Centre}
use Rattle.message.specs.declared.Message.{Message}
use Rattle.std.specs.Prelude.{Ok}
use Rattle.message.specs.Message.{max_value, none_value, kind_of, value_bytes, body_in_table, message_bytes}
use Rattle.message.specs.Format.{value_of, body_of, from_kind}
use Rattle.message.specs.Reading.{broken, message_at, exactly, exact_message}

-- ---- a body by its kind and value

-- kind 6 has no value
pub bytes_without : (b : Body) → kind_of b ≡ 6 → value_bytes b ≡ []
bytes_without (FirstEcho v) e = absurd (omega arith)
bytes_without (FirstProposal v) e = absurd (omega arith)
bytes_without (SecondEcho v) e = absurd (omega arith)
bytes_without (SecondProposal v) e = absurd (omega arith)
bytes_without (Side v) e = absurd (omega arith)
bytes_without Centre e = refl

pub bytes_with : (b : Body) → (kind_of b ≡ 6 → ⊥) → value_bytes b ≡ varint_bytes (value_of b)
bytes_with (FirstEcho v) d = refl
bytes_with (FirstProposal v) d = refl
bytes_with (SecondEcho v) d = refl
bytes_with (SecondProposal v) d = refl
bytes_with (Side v) d = refl
bytes_with Centre d = absurd (d refl)

-- the other kinds' values lie within the kind's limits
pub table_with : (b : Body) → (kind_of b ≡ 6 → ⊥) → body_in_table b ≡ leb (value_low (kind_of b)) (value_of b) && leb (value_of b) (value_high (kind_of b))
table_with (FirstEcho v) d = rw (le-leb 0 v (omega arith))
table_with (FirstProposal v) d = rw (le-leb 0 v (omega arith))
table_with (SecondEcho v) d = rw (le-leb 0 v (omega arith))
table_with (SecondProposal v) d = rw (le-leb 0 v (omega arith))
table_with (Side v) d = refl
table_with Centre d = absurd (d refl)

-- ---- reading

-- the value's field: none for a centre
pub kind_without : (n l k : ℕ) → k ≡ 6 → from_kind n l k ≡ says (record { number = n; level = l; body = Centre })
kind_without n l k e = rw (eq-eqb k 6 e)

pub kind_with : (n l k : ℕ) → (k ≡ 6 → ⊥) → from_kind n l k ≡ field (value_low k) (value_high k) (λ v. says (record { number = n; level = l; body = body_of k v }))
kind_with n l k d = rw (ne_eqb k 6 d)

pub high_most : (k : ℕ) → value_high k ≤ none_value
high_most k = go (eqb k 2) (eqb k 5)
  where
    go : (a b : Bool) → pick a max_value (pick b max_value none_value) ≤ none_value
    go true b = omega arith
    go false true = omega arith
    go false false = omega arith

pub low_high : (k : ℕ) → (value_low k ≤ value_high k) × (value_low k < 128)
low_high k = go (eqb k 2) (eqb k 5)
  where
    go : (a b : Bool) → (pick b 1 0 ≤ pick a max_value (pick b max_value none_value)) × (pick b 1 0 < 128)
    go true true = (omega arith, omega arith)
    go true false = (omega arith, omega arith)
    go false true = (omega arith, omega arith)
    go false false = (omega arith, omega arith)

pub read_exactly : (s : List ℕ) {r : Read Message} → message_at s 0 ≡ r → exactly s r ≡ exact_message s
unfolding exact_message
read_exactly s e = ap (exactly s) (sym e)

pub exactly_one : (s : List ℕ) (m : Message) (next : ℕ) → next ≡ length s → exactly s (whole m next) ≡ Ok m
exactly_one s m next e = rw (eq-eqb next (length s) e)

pub exactly_more : (s : List ℕ) (m : Message) (next : ℕ) → (next ≡ length s → ⊥) → exactly s (whole m next) ≡ broken Fault.Spare next
exactly_more s m next d = rw (ne_eqb next (length s) d)

-- ---- writing

pub message_length : (m : Message)
    → length (message_bytes m) ≡ length (varint_bytes m.number) + length (varint_bytes m.level) + length (varint_bytes (kind_of m.body)) + length (value_bytes m.body)
unfolding message_bytes
message_length m = simp length-append

pub value_most : (b : Body) → length (value_bytes b) ≤ 5
value_most (FirstEcho v) = pieces_most 4 v
value_most (FirstProposal v) = pieces_most 4 v
value_most (SecondEcho v) = pieces_most 4 v
value_most (SecondProposal v) = pieces_most 4 v
value_most (Side v) = pieces_most 4 v
value_most Centre = omega arith
