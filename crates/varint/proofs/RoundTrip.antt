-- Writing a varint and reading it are inverse.
use mathlib.Core.Path.{◌≡◌, refl, sym, ap, ap₂, ◌∙◌}
use mathlib.Core.List.{List, [], ◌∷◌, ◌++◌, append_assoc}
use Prim.Native.Nat.{ℕ, zero, suc, ◌+◌, ◌-◌, ◌*◌, ◌/◌, ◌%◌, ◌<◌, ◌≤◌, ◌^◌}
use native.Mathlib.Omega.{arith}
use native.Mathlib.Nat.{pow-suc, mod-eq_of_lt}
use native.Mathlib.Numerals.{sub-one}
use native.Mathlib.Decide.{dec_lt}
use lib.ListN.{length, get_or, take, drop, length-append}
use lib.Seq.{get_or-append_seam}
use Rattle.base.proofs.Parts.{part_first}
use Rattle.varint.specs.declared.VarintError.TheVariants.{Malformed}
use Rattle.varint.specs.Varint.{AllBytes, pieces, varint_bytes}
use Rattle.std.specs.Prelude.{Err}
use Rattle.varint.specs.Reading.{value, pieces_at, prefixed, varint_at}
use Rattle.varint.proofs.Laws.{at_none, at_end, at_last, at_more, pieces_none, pieces_last, pieces_more, prefixed_value, prefixed_inverse, same_value, same_next, Stands, ended, last, more, stands}

-- ---- what is written is read back

-- what stands at the end of p
seam_long : (p : List ℕ) (b : ℕ) (r : List ℕ) → length p < length (p ++ (b ∷ r))
seam_long p b r = simp (length-append) (omega arith)

one : (f v : ℕ) (p q : List ℕ) → v < 128 → pieces_at (suc f) (p ++ (v ∷ q)) (length p) ≡ value v (length p + 1)
one f v p q h =
    let e : get_or (p ++ (v ∷ q)) (length p) 0 ≡ v = get_or-append_seam p v q 0 in
    sym (at_last (suc f) (p ++ (v ∷ q)) (length p) (omega arith) (seam_long p v q) (omega arith)) ∙ ap (λ (x : ℕ). value x (length p + 1)) e

-- pieces that stand after p are read whole
pub pieces_read : (f v : ℕ) (p q : List ℕ) → v < 128 ^ suc f → v < 2 ^ 32
    → pieces_at (suc f) (p ++ (pieces f v ++ q)) (length p) ≡ value v (length p + length (pieces f v))
pieces_read zero v p q hf hv = rw (pieces_none 0 v refl, mod-eq_of_lt hf) (one 0 v p q hf)
pieces_read (suc f) v p q hf hv = go (dec_lt v 128) (λ (u : List ℕ). pieces_read f (v / 128) u q)
  where
    go : Dec (v < 128)
        → ((u : List ℕ) → v / 128 < 128 ^ suc f → v / 128 < 2 ^ 32
        → pieces_at (suc f) (u ++ (pieces f (v / 128) ++ q)) (length u) ≡ value (v / 128) (length u + length (pieces f (v / 128))))
        → pieces_at (suc (suc f)) (p ++ (pieces (suc f) v ++ q)) (length p) ≡ value v (length p + length (pieces (suc f) v))
    go (yes h) rec = rw (pieces_last (suc f) v (omega arith) h) (one (suc f) v p q h)
    go (no h) rec =
        let b : ℕ = v % 128 + 128 in
        let ys : List ℕ = pieces f (v / 128) in
        let s : List ℕ = p ++ (b ∷ (ys ++ q)) in
        let e : get_or s (length p) 0 ≡ b = get_or-append_seam p b (ys ++ q) 0 in
        let hh : v / 128 < 128 ^ suc f = omega (arith, rw (pow-suc 128 (suc f)) at hf) in
        let ih : pieces_at (suc f) s (length p + 1) ≡ value (v / 128) (length p + 1 + length ys)
        = simp (append_assoc, length-append) at (rec (p ++ (b ∷ [])) hh (omega arith)) in
        rw (pieces_more (suc f) v (omega arith) (omega arith), sub-one)
        (at_more (suc (suc f)) s (length p) (omega arith) (seam_long p b (ys ++ q)) (omega arith)
        ∙ rw (sub-one, e, ih) (prefixed_value b (v / 128) (length p + 1 + length ys) (omega arith) (omega arith)
        ∙ ap₂ value (omega arith) (omega arith)))

pub varint_read : (v : ℕ) (p q : List ℕ) → v < 2 ^ 32 → varint_at (p ++ (varint_bytes v ++ q)) (length p) ≡ value v (length p + length (varint_bytes v))
varint_read v p q h = pieces_read 4 v p q (omega arith) h

-- the same of bytes that are known to hold it
pub varint_read_at : (v : ℕ) (s p q : List ℕ) (at : ℕ) → v < 2 ^ 32 → s ≡ p ++ (varint_bytes v ++ q) → at ≡ length p → varint_at s at ≡ value v (at + length (varint_bytes v))
varint_read_at v s p q at h es ea = ap₂ varint_at es ea ∙ varint_read v p q h ∙ ap (λ (n : ℕ). value v (n + length (varint_bytes v))) (sym ea)

-- ---- what is read was written

-- a value ends past its first byte and within the bytes
pub value_place : (f : ℕ) (s : List ℕ) (at v next : ℕ) → pieces_at f s at ≡ value v next → (at < next) × (next ≤ length s)
value_place zero s at v next e = let z : ◌≡◌ {A = ℕ} 0 1 = cc (at_none 0 s at refl) in absurd (omega arith)
value_place (suc f) s at v next e = go (stands s at) (value_place f s (at + 1))
  where
    go : Stands s at → ((v n : ℕ) → pieces_at f s (at + 1) ≡ value v n → (at + 1 < n) × (n ≤ length s)) → (at < next) × (next ≤ length s)
    go (ended p) rec = let z : ◌≡◌ {A = ℕ} 0 1 = cc (at_end (suc f) s at (omega arith) p) in absurd (omega arith)
    go (last p q) rec = let n : at + 1 ≡ next = same_next (at_last (suc f) s at (omega arith) p q ∙ e) in (omega arith, omega arith)
    go (more p q) rec =
        let i = prefixed_inverse (get_or s at 0) (pieces_at f s (at + 1)) v next (sym (rw sub-one at (at_more (suc f) s at (omega arith) p q)) ∙ e) in
        let r = rec i.0 next i.1 in
        (omega (arith, r.0), r.1)

-- one piece is enough below 128
pieces_small : (f v : ℕ) → v < 128 → pieces f v ≡ v ∷ []
pieces_small zero v h = pieces_none 0 v refl ∙ ap (λ (x : ℕ). x ∷ []) (mod-eq_of_lt h)
pieces_small (suc f) v h = pieces_last (suc f) v (omega arith) h

-- a value of one byte
value_last : (f : ℕ) (s : List ℕ) (at v next : ℕ) → at < length s → get_or s at 0 < 128 → value (get_or s at 0) (at + 1) ≡ value v next
    → (v < 2 ^ 32) × (take (next - at) (drop at s) ≡ pieces f v)
value_last f s at v next p q e =
    let ev : get_or s at 0 ≡ v = same_value e in
    let en : at + 1 ≡ next = same_next e in
    let ez : next - (at + 1) ≡ 0 = omega arith in
    (omega arith, part_first s at next (omega arith) p ∙ rw ez (ap (λ (x : ℕ). x ∷ []) ev ∙ sym (pieces_small f v (omega arith))))

-- a value is below 2 ^ 32, and its bytes are its pieces
pub value_bytes_lem : (f : ℕ) (s : List ℕ) (at v next : ℕ) → AllBytes s → pieces_at (suc f) s at ≡ value v next
    → (v < 2 ^ 32) × (take (next - at) (drop at s) ≡ pieces f v)
value_bytes_lem zero s at v next h e = go (stands s at)
  where
    go : Stands s at → (v < 2 ^ 32) × (take (next - at) (drop at s) ≡ pieces 0 v)
    go (ended p) = let z : ◌≡◌ {A = ℕ} 0 1 = cc (at_end 1 s at (omega arith) p) in absurd (omega arith)
    go (last p q) = value_last 0 s at v next p q (at_last 1 s at (omega arith) p q ∙ e)
    go (more p q) =
        let f : prefixed (get_or s at 0) (pieces_at 0 s (at + 1)) ≡ Err Malformed = ap (prefixed (get_or s at 0)) (sym (at_none 0 s (at + 1) refl)) in
        let z : ◌≡◌ {A = ℕ} 0 1 = cc (at_more 1 s at (omega arith) p q) in absurd (omega arith)
value_bytes_lem (suc f) s at v next h e = go (stands s at) (λ w. value_bytes_lem f s (at + 1) w next h)
  where
    go : Stands s at
        → ((w : ℕ) → pieces_at (suc f) s (at + 1) ≡ value w next → (w < 2 ^ 32) × (take (next - (at + 1)) (drop (at + 1) s) ≡ pieces f w))
        → (v < 2 ^ 32) × (take (next - at) (drop at s) ≡ pieces (suc f) v)
    go (ended p) rec = let z : ◌≡◌ {A = ℕ} 0 1 = cc (at_end (suc (suc f)) s at (omega arith) p) in absurd (omega arith)
    go (last p q) rec = value_last (suc f) s at v next p q (at_last (suc (suc f)) s at (omega arith) p q ∙ e)
    go (more p q) rec =
        let b : ℕ = get_or s at 0 in
        let i = prefixed_inverse b (pieces_at (suc f) s (at + 1)) v next (sym (rw sub-one at (at_more (suc (suc f)) s at (omega arith) p q)) ∙ e) in
        let w : ℕ = i.0 in
        let l = value_place (suc f) s (at + 1) w next i.1 in
        let k : b < 256 = h at in
        let ev : v ≡ b - 128 + 128 * w = i.4 in
        let pw : 0 < w = i.2 in
        let qw : w ≤ 33554431 = i.3 in
        let r = rec w i.1 in
        let eb : b ≡ v % 128 + 128 = omega arith in
        let ew : w ≡ v / 128 = omega arith in (
          omega arith,
          part_first s at next (omega (arith, l.0)) p
              ∙ ap₂ (λ (x : ℕ) (y : List ℕ). x ∷ y) eb (r.1 ∙ ap (pieces f) ew)
              ∙ sym (rw sub-one at (pieces_more (suc f) v (omega arith) (omega arith))),
        )

-- what is read as v is the varint of v
pub varint_was_written : (s : List ℕ) (at v next : ℕ) → AllBytes s → varint_at s at ≡ value v next
    → (v < 2 ^ 32) × (at < next) × (next ≤ length s) × (take (next - at) (drop at s) ≡ varint_bytes v)
varint_was_written s at v next h e =
    let r = value_bytes_lem 4 s at v next h e in
    let p = value_place 5 s at v next e in
    (r.0, p.0, p.1, r.1)
