-- A signed number, its varint's number and its offset binary stand for each other.
use mathlib.Core.Path.{◌≡◌, refl, sym, ap, ap₂, ◌∙◌, subst}
use mathlib.Core.Bool.{Bool, true, false}
use mathlib.Core.List.{List, ◌++◌}
use Prim.Native.Nat.{ℕ, ◌+◌, ◌-◌, ◌*◌, ◌/◌, ◌%◌, ◌<◌, ◌≤◌, ◌^◌}
use native.Mathlib.Omega.{arith}
use native.Mathlib.Decide.{ℕ_discrete, dec_le}
use lib.Dec.{eqb, leb}
use lib.IntN.{ℤ, pos, negsuc}
use lib.ListN.{length, take, drop}
use lib.Signed.{mag, le_z}
use borrow.Author.Tests.{le-leb, lt-leb}
use Rattle.base.specs.Limits.{offset_zero}
use Rattle.base.specs.Pick.{pick}
use Rattle.std.specs.Prelude.{Ok, Err}
use Rattle.varint.specs.Varint.{AllBytes}
use Rattle.varint.specs.Reading.{VarintRead, value, varint_at}
use Rattle.varint.proofs.Laws.{same_parsed}
use Rattle.varint.proofs.RoundTrip.{varint_read, varint_was_written}
use Rattle.signed.specs.Signed.{zigzag, unzigzag, signed_bytes, signed_of, signed_at, offset, from_offset, offset_of_zigzag}
use Rattle.signed.proofs.Laws.{unzigzag_even, unzigzag_odd}

pub unzigzag_zigzag : (z : ℤ) → unzigzag (zigzag z) ≡ z
unzigzag_zigzag (pos n) = unzigzag_even (2 * n) (omega arith) ∙ ap pos (omega arith)
unzigzag_zigzag (negsuc n) = unzigzag_odd (2 * n + 1) (λ e. omega arith) ∙ ap negsuc (omega arith)

pub zigzag_unzigzag : (v : ℕ) → zigzag (unzigzag v) ≡ v
zigzag_unzigzag v = go (ℕ_discrete (v % 2) 0)
  where
    go : Dec (v % 2 ≡ 0) → zigzag (unzigzag v) ≡ v
    go (yes e) = ap zigzag (unzigzag_even v e) ∙ omega arith
    go (no d) = ap zigzag (unzigzag_odd v d) ∙ omega arith

-- mag z < 2 ^ 31 says that z is a number of 32 bits
pub zigzag_fits : (z : ℤ) → mag z < 2 ^ 31 → zigzag z < 2 ^ 32
zigzag_fits (pos n) h = omega arith
zigzag_fits (negsuc n) h = omega arith

pub unzigzag_mag : (v : ℕ) → v < 2 ^ 32 → mag (unzigzag v) < 2 ^ 31
unzigzag_mag v h = go (eqb (v % 2) 0)
  where
    go : (b : Bool) → mag (pick b (pos (v / 2)) (negsuc (v / 2))) < 2 ^ 31
    go true = omega arith
    go false = omega arith

-- ---- in bytes

pub signed_read : (z : ℤ) (p q : List ℕ) → mag z < 2 ^ 31 → signed_at (p ++ (signed_bytes z ++ q)) (length p) ≡ Ok (record { value = z; next = length p + length (signed_bytes z) })
signed_read z p q h =
    ap signed_of (varint_read (zigzag z) p q (zigzag_fits z h)) ∙ ap (λ (x : ℤ). Ok (record { value = x; next = length p + length (signed_bytes z) })) (unzigzag_zigzag z)

-- a signed value comes from a varint
of_varint : (r : VarintRead) (z : ℤ) (next : ℕ) → signed_of r ≡ Ok (record { value = z; next = next }) → r ≡ value (zigzag z) next
of_varint (Ok r) z next e =
    let w = same_parsed e in
    ap₂ value (sym (zigzag_unzigzag r.value) ∙ ap zigzag w.0) w.1
of_varint (Err x) z next e = let y : ◌≡◌ {A = ℕ} 0 1 = cc in absurd (omega arith)

pub signed_was_written : (s : List ℕ) (at : ℕ) (z : ℤ) (next : ℕ) → AllBytes s → signed_at s at ≡ Ok (record { value = z; next = next })
    → (mag z < 2 ^ 31) × (at < next) × (next ≤ length s) × (take (next - at) (drop at s) ≡ signed_bytes z)
signed_was_written s at z next h e =
    let r = varint_was_written s at (zigzag z) next h (of_varint (varint_at s at) z next e) in
    (subst (λ (x : ℤ). mag x < 2 ^ 31) (unzigzag_zigzag z) (unzigzag_mag (zigzag z) r.0), r.1, r.2, r.3)

-- ---- offset binary

pub from_offset_lem : (z : ℤ) → mag z < 2 ^ 31 → from_offset (offset z) ≡ z
from_offset_lem (pos n) h = rw (le-leb offset_zero (n + offset_zero) (omega arith)) (ap pos (omega arith))
from_offset_lem (negsuc n) h = rw (lt-leb offset_zero (offset_zero - 1 - n) (omega arith)) (ap negsuc (omega arith))

pub offset_from : (u : ℕ) → u < 2 ^ 32 → offset (from_offset u) ≡ u
offset_from u h = go (dec_le offset_zero u)
  where
    go : Dec (offset_zero ≤ u) → offset (from_offset u) ≡ u
    go (yes p) = rw (le-leb offset_zero u p) (omega arith)
    go (no p) = rw (lt-leb offset_zero u (omega arith)) (omega arith)

pub offset_fits : (z : ℤ) → mag z < 2 ^ 31 → offset z < 2 ^ 32
offset_fits (pos n) h = omega arith
offset_fits (negsuc n) h = omega arith

pub offset_unzigzag : (v : ℕ) → offset (unzigzag v) ≡ offset_of_zigzag v
offset_unzigzag v = go (eqb (v % 2) 0)
  where
    go : (b : Bool) → offset (pick b (pos (v / 2)) (negsuc (v / 2))) ≡ pick b (offset_zero + v / 2) (offset_zero - 1 - v / 2)
    go true = omega arith
    go false = refl

-- the order is the same
pub offset_order : (a b : ℤ) → mag a < 2 ^ 31 → mag b < 2 ^ 31 → le_z a b ≡ leb (offset a) (offset b)
offset_order (pos a) (pos b) h k = go (dec_le a b)
  where
    go : Dec (a ≤ b) → leb a b ≡ leb (a + offset_zero) (b + offset_zero)
    go (yes p) = le-leb a b p ∙ sym (le-leb (a + offset_zero) (b + offset_zero) (omega arith))
    go (no p) = lt-leb a b (omega arith) ∙ sym (lt-leb (a + offset_zero) (b + offset_zero) (omega arith))
offset_order (pos a) (negsuc b) h k = sym (lt-leb (a + offset_zero) (offset_zero - 1 - b) (omega arith))
offset_order (negsuc a) (pos b) h k = sym (le-leb (offset_zero - 1 - a) (b + offset_zero) (omega arith))
offset_order (negsuc a) (negsuc b) h k = go (dec_le b a)
  where
    go : Dec (b ≤ a) → leb b a ≡ leb (offset_zero - 1 - a) (offset_zero - 1 - b)
    go (yes p) = le-leb b a p ∙ sym (le-leb (offset_zero - 1 - a) (offset_zero - 1 - b) (omega arith))
    go (no p) = lt-leb b a (omega arith) ∙ sym (lt-leb (offset_zero - 1 - a) (offset_zero - 1 - b) (omega arith))
