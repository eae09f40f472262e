-- How many bytes a varint has: the fewest that hold its value.
use mathlib.Core.Path.{◌≡◌, refl, sym, ap, ◌∙◌}
use mathlib.Core.Logic.{◌⊎◌, inl, inr}
use Prim.Native.Nat.{ℕ, zero, suc, ◌*◌, ◌/◌, ◌<◌, ◌≤◌, ◌^◌}
use native.Mathlib.Omega.{arith}
use native.Mathlib.Nat.{pow-suc}
use native.Mathlib.Decide.{dec_lt}
use native.Mathlib.Numerals.{sub-one}
use lib.Dec.{leb}
use lib.ListN.{length}
use borrow.Author.Tests.{le-leb, lt-leb}
use Rattle.base.specs.Pick.{pick}
use Rattle.varint.specs.Varint.{pieces, varint_length}
use Rattle.varint.specs.Table.{table_length}
use Rattle.varint.proofs.Laws.{pieces_last, pieces_more, pieces_pos, pieces_most, pieces_none}

-- a number below 128 ^ (k + 1) has at most k + 1 pieces
pub length_at_most : (k f v : ℕ) → v < 128 ^ suc k → length (pieces f v) ≤ suc k
length_at_most k zero v h = omega (arith, ap length (pieces_none 0 v refl))
length_at_most zero (suc f) v h = omega (arith, ap length (pieces_last (suc f) v (omega arith) h))
length_at_most (suc k) (suc f) v h = go (dec_lt v 128) (length_at_most k f (v / 128))
  where
    go : Dec (v < 128) → (v / 128 < 128 ^ suc k → length (pieces f (v / 128)) ≤ suc k) → length (pieces (suc f) v) ≤ suc (suc k)
    go (yes p) rec = omega (arith, ap length (pieces_last (suc f) v (omega arith) p))
    go (no p) rec =
        let r = rec (omega (arith, rw (pow-suc 128 (suc k)) at h)) in
        omega (arith, rw sub-one at (ap length (pieces_more (suc f) v (omega arith) (omega arith))))

-- a number from 128 ^ k on has at least k + 1 pieces, where so many are allowed
pub length_at_least : (k f v : ℕ) → k ≤ f → 128 ^ k ≤ v → suc k ≤ length (pieces f v)
length_at_least zero f v l h = pieces_pos f v
length_at_least (suc k) zero v l h = absurd (omega arith)
length_at_least (suc k) (suc f) v l h =
    let g : 128 ^ k * 128 ≤ v = rw (pow-suc 128 k) at h in
    let p : 0 < 128 ^ k = pow_pos k in
    let r = length_at_least k f (v / 128) (omega arith) (omega arith) in
    omega (arith, rw sub-one at (ap length (pieces_more (suc f) v (omega arith) (omega arith))))
  where
    pow_pos : (k : ℕ) → 0 < 128 ^ k
    pow_pos zero = omega arith
    pow_pos (suc k) = omega (arith, pow_pos k, pow-suc 128 k)

-- exactly k + 1 bytes: from 128 ^ k, or 0 for a single byte, to 128 ^ (k + 1) - 1
pub length_exactly : (k v : ℕ) → k < 5 → (k ≡ 0) ⊎ (128 ^ k ≤ v) → v < 128 ^ suc k → varint_length v ≡ suc k
length_exactly k v l (inl e) h = omega (arith, pieces_pos 4 v, length_at_most k 4 v h)
length_exactly k v l (inr g) h = omega (arith, length_at_least k 4 v (omega arith) g, length_at_most k 4 v h)

-- 1 to 5 bytes
pub length_limits : (v : ℕ) → (1 ≤ varint_length v) × (varint_length v ≤ 5)
length_limits v = (pieces_pos 4 v, pieces_most 4 v)

-- the table's five cases
pub one_byte : (v : ℕ) → v ≤ 127 → 1 ≡ varint_length v
one_byte v h = sym (length_exactly 0 v (omega arith) (inl refl) (omega arith))

pub two_bytes : (v : ℕ) → 128 ≤ v → v ≤ 16383 → 2 ≡ varint_length v
two_bytes v g h = sym (length_exactly 1 v (omega arith) (inr (omega arith)) (omega arith))

pub three_bytes : (v : ℕ) → 16384 ≤ v → v ≤ 2097151 → 3 ≡ varint_length v
three_bytes v g h = sym (length_exactly 2 v (omega arith) (inr (omega arith)) (omega arith))

pub four_bytes : (v : ℕ) → 2097152 ≤ v → v ≤ 268435455 → 4 ≡ varint_length v
four_bytes v g h = sym (length_exactly 3 v (omega arith) (inr (omega arith)) (omega arith))

pub five_bytes : (v : ℕ) → 268435456 ≤ v → v < 2 ^ 32 → 5 ≡ varint_length v
five_bytes v g h = sym (length_exactly 4 v (omega arith) (inr (omega arith)) (omega arith))

-- what holds on either side of a border of the table
by_border : {v border x y k : ℕ} → (v ≤ border → x ≡ k) → (border < v → y ≡ k) → pick (leb v border) x y ≡ k
by_border {v} {border} {x} {y} {k} low high = go (dec_lt border v)
  where
    go : Dec (border < v) → pick (leb v border) x y ≡ k
    go (yes p) = rw (lt-leb v border p) (high p)
    go (no p) = rw (le-leb v border (omega arith)) (low (omega arith))

-- the table's five cases, whatever its borders b and lengths n
by_cases : (v k : ℕ) {b1 b2 b3 b4 n1 n2 n3 n4 n5 : ℕ} → table_length v ≡ pick (leb v b1) n1 (pick (leb v b2) n2 (pick (leb v b3) n3 (pick (leb v b4) n4 n5)))
    → (v ≤ b1 → n1 ≡ k) → (b1 < v → v ≤ b2 → n2 ≡ k) → (b2 < v → v ≤ b3 → n3 ≡ k) → (b3 < v → v ≤ b4 → n4 ≡ k) → (b4 < v → n5 ≡ k) → table_length v ≡ k
by_cases v k e c1 c2 c3 c4 c5 = e ∙ by_border c1 (λ p. by_border (c2 p) (λ q. by_border (c3 q) (λ r. by_border (c4 r) c5)))

-- the table gives the number of bytes written
pub table_bytes : (v : ℕ) → v < 2 ^ 32 → table_length v ≡ varint_length v
unfolding table_length
table_bytes v h =
    by_cases v (varint_length v) refl
    (one_byte v)
    (λ p q. two_bytes v (omega arith) q)
    (λ p q. three_bytes v (omega arith) q)
    (λ p q. four_bytes v (omega arith) q)
    (λ p. five_bytes v (omega arith) h)
