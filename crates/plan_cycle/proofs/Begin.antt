-- Where the edges of a tree refused by 8 begin, however its bytes are written as a tree's: past the bytes of its kind and of its vertex count.
use mathlib.Core.Path.{◌≡◌, refl, sym, ap, ap₂, ◌∙◌}
use mathlib.Core.List.{List, [], ◌∷◌, ◌++◌, append_assoc}
use Prim.Native.Nat.{ℕ, suc, ◌+◌, ◌*◌, ◌/◌, ◌%◌, ◌≤◌, ◌<◌, ◌^◌}
use native.Mathlib.Decide.{dec_lt}
use native.Mathlib.Numerals.{sub-one}
use native.Mathlib.Omega.{arith}
use lib.ListN.{length, get_or, length-append}
use lib.Seq.{get_or-append_seam}
use Rattle.base.specs.Limits.{max_vertices}
use Rattle.base.specs.Found.{refused}
use Rattle.varint.specs.Varint.{pieces, varint_bytes}
use Rattle.varint.specs.Reading.{VarintRead, value, pieces_at, varint_at, past_of}
use Rattle.varint.proofs.Laws.{at_more, pieces_more, prefixed_inverse}
use Rattle.varint.proofs.RoundTrip.{varint_read_at}
use Rattle.plan.specs.Reading.{plan_of}
use Rattle.plan_cycle.specs.Cycle.{value_at, past_at}
use Rattle.plan_cycle.proofs.Refusals.{Whole}
use Rattle.plan_cycle.proofs.Opening.{begin, opened}

-- ---- a number that is read as a vertex count is small

-- a byte of 128 or more stands before the bytes of a part of the value
byte_more : (f : ℕ) (p : List ℕ) (b : ℕ) (q : List ℕ) (w next : ℕ) → 128 ≤ b → pieces_at (suc f) (p ++ (b ∷ q)) (length p) ≡ value w next
    → (high : ℕ) × (pieces_at f (p ++ (b ∷ q)) (length p + 1) ≡ value high next) × (0 < high) × (128 * high ≤ w)
byte_more f p b q w next h e =
    let s : List ℕ = p ++ (b ∷ q) in
    let g : get_or s (length p) 0 ≡ b = get_or-append_seam p b q 0 in
    let l : length p < length s = simp length-append (omega arith) in
    let i = prefixed_inverse (get_or s (length p) 0) (pieces_at f s (length p + 1)) w next (sym (rw sub-one at (at_more (suc f) s (length p) (omega arith) l (omega arith))) ∙ e) in
    (i.0, i.1, i.2, omega (arith, i.4))

two_more : (p : List ℕ) (b c : ℕ) (q : List ℕ) (w next : ℕ) → 128 ≤ b → 128 ≤ c → varint_at (p ++ (b ∷ (c ∷ q))) (length p) ≡ value w next → 128 * 128 ≤ w
two_more p b c q w next h k e =
    let i = byte_more 4 p b (c ∷ q) w next h e in
    let u : List ℕ = p ++ (b ∷ []) in
    let a : pieces_at 4 (u ++ (c ∷ q)) (length u) ≡ value i.0 next = simp (append_assoc, length-append) i.1 in
    let j = byte_more 3 u c q i.0 next k a in
    omega (arith, i.3, j.2, j.3)

count_small : (v : ℕ) (s p q : List ℕ) (at : ℕ) → s ≡ p ++ (varint_bytes v ++ q) → at ≡ length p → Whole s at → value_at s at ≤ max_vertices → v < 2 ^ 32
count_small v s p q at es ea e l = go (dec_lt v (128 * 128))
  where
    bytes : 128 * 128 ≤ v → varint_bytes v ≡ (v % 128 + 128) ∷ ((v / 128 % 128 + 128) ∷ pieces 2 (v / 128 / 128))
    bytes h = pieces_more 4 v (omega arith) (omega arith) ∙ ap (λ (t : List ℕ). (v % 128 + 128) ∷ t) (pieces_more 3 (v / 128) (omega arith) (omega arith))

    go : Dec (v < 128 * 128) → v < 2 ^ 32
    go (yes h) = omega arith
    go (no h) =
        let r : List ℕ = pieces 2 (v / 128 / 128) ++ q in
        let z = two_more p (v % 128 + 128) (v / 128 % 128 + 128) r (value_at s at) (past_at s at) (omega arith) (omega arith)
        (sym (ap₂ varint_at (es ∙ ap (λ (t : List ℕ). p ++ (t ++ q)) (bytes (omega arith))) ea) ∙ e) in
        absurd (omega (arith, z))

-- ---- the place past it

pub edges_begin : (s : List ℕ) (place v : ℕ) (rest : List ℕ) → plan_of s ≡ refused 8 place → s ≡ varint_bytes 1 ++ (varint_bytes v ++ rest) → begin s ≡ length (varint_bytes 1 ++ varint_bytes v)
edges_begin s place v rest e es =
    let o = opened s place e in
    let k : past_at s 0 ≡ length (varint_bytes 1) = ap (λ (r : VarintRead). past_of r 0) (varint_read_at 1 s [] (varint_bytes v ++ rest) 0 (omega arith) es refl) ∙ omega arith in
    let l = count_small v s (varint_bytes 1) rest (past_at s 0) es k o.count_whole o.within in
    ap (λ (r : VarintRead). past_of r (past_at s 0)) (varint_read_at v s (varint_bytes 1) rest (past_at s 0) l es k) ∙ simp length-append (omega arith)
