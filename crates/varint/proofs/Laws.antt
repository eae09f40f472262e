-- The definitions of varints, case by case.
use mathlib.Core.Path.{◌≡◌, refl, sym, ap, subst}
use mathlib.Core.Bool.{Bool, true, false}
use mathlib.Core.List.{List, [], ◌∷◌, ◌++◌}
use Prim.Native.Nat.{ℕ, zero, suc, ◌+◌, ◌-◌, ◌*◌, ◌/◌, ◌%◌, ◌<◌, ◌≤◌, max}
use native.Mathlib.Omega.{arith}
use native.Mathlib.Nat.{not-suc-le-zero, zero-lt-suc, le_refl}
use native.Mathlib.Numerals.{sub-one}
use native.Mathlib.Decide.{dec_lt}
use lib.Dec.{ltb, eqb}
use lib.ListN.{length, get_or, get_or-append}
use lib.Seq.{get_or-append-add}
use borrow.Author.Tests.{lt-ltb, le-ltb, eq-eqb, ne_eqb, ltb-false, eqb-false}
use Rattle.base.specs.Pick.{pick}
use Rattle.varint.specs.declared.Parsed.{Parsed}
use Rattle.varint.specs.declared.VarintError.TheVariants.{Short, Malformed}
use Rattle.varint.specs.Varint.{AllBytes, pieces, varint_length}
use Rattle.std.specs.Prelude.{Result, Ok, Err}
use Rattle.varint.specs.Reading.{VarintRead, value, pieces_at, prefixed, prefixed_error, varint_at}

-- pieces_at, case by case
pub at_none : (f : ℕ) (s : List ℕ) (at : ℕ) → f ≡ 0 → Err Malformed ≡ pieces_at f s at
unfolding pieces_at
at_none f s at e = rw e

module _ (f : ℕ) (s : List ℕ) (at : ℕ) (h : 0 < f) where
  at_step : pieces_at f s at
      ≡ pick (ltb at (length s)) (pick (ltb (get_or s at 0) 128) (value (get_or s at 0) (at + 1)) (prefixed (get_or s at 0) (pieces_at (f - 1) s (at + 1)))) (Err (Short 0))
  unfolding pieces_at
  at_step = step f h
    where
      step : (f : ℕ) → 0 < f → pieces_at f s at
          ≡ pick (ltb at (length s)) (pick (ltb (get_or s at 0) 128) (value (get_or s at 0) (at + 1)) (prefixed (get_or s at 0) (pieces_at (f - 1) s (at + 1)))) (Err (Short 0))
      step zero h = absurd (not-suc-le-zero h)
      step (suc f) h = rw sub-one

  pub at_end : length s ≤ at → Err (Short 0) ≡ pieces_at f s at
  at_end p = simp (at_step, le-ltb at (length s) p)

  pub at_last : at < length s → get_or s at 0 < 128 → value (get_or s at 0) (at + 1) ≡ pieces_at f s at
  at_last p q = simp (at_step, lt-ltb at (length s) p, lt-ltb (get_or s at 0) 128 q)

  pub at_more : at < length s → 128 ≤ get_or s at 0 → pieces_at f s at ≡ prefixed (get_or s at 0) (pieces_at (f - 1) s (at + 1))
  at_more p q = simp (at_step, lt-ltb at (length s) p, le-ltb (get_or s at 0) 128 q)

-- pieces, case by case
pub pieces_none : (f v : ℕ) → f ≡ 0 → pieces f v ≡ (v % 128) ∷ []
unfolding pieces
pieces_none f v e = rw e

module _ (f v : ℕ) (h : 0 < f) where
  pieces_step : pieces f v ≡ pick (ltb v 128) (v ∷ []) ((v % 128 + 128) ∷ pieces (f - 1) (v / 128))
  unfolding pieces
  pieces_step = step f h
    where
      step : (f : ℕ) → 0 < f → pieces f v ≡ pick (ltb v 128) (v ∷ []) ((v % 128 + 128) ∷ pieces (f - 1) (v / 128))
      step zero h = absurd (not-suc-le-zero h)
      step (suc f) h = rw sub-one

  pub pieces_last : v < 128 → pieces f v ≡ v ∷ []
  pieces_last p = simp (pieces_step, lt-ltb v 128 p)

  pub pieces_more : 128 ≤ v → pieces f v ≡ (v % 128 + 128) ∷ pieces (f - 1) (v / 128)
  pieces_more p = simp (pieces_step, le-ltb v 128 p)

pub pieces_pos : (f v : ℕ) → 0 < length (pieces f v)
unfolding pieces
pieces_pos zero v = zero-lt-suc 0
pieces_pos (suc f) v = by_test (ltb v 128)
  where
    by_test : (b : Bool) → 0 < length (pick b (v ∷ []) ((v % 128 + 128) ∷ pieces f (v / 128)))
    by_test true = zero-lt-suc 0
    by_test false = zero-lt-suc (length (pieces f (v / 128)))

-- prefixed, case by case
module _ (b : ℕ) where
  pub prefixed_none : (high next : ℕ) → high ≡ 0 → prefixed b (value high next) ≡ Err Malformed
  prefixed_none high next h = simp (eq-eqb high 0 h)

  pub prefixed_large : (high next : ℕ) → 33554431 < high → prefixed b (value high next) ≡ Err Malformed
  prefixed_large high next h = simp (ne_eqb high 0 (λ z. omega arith), lt-ltb 33554431 high h)

  pub prefixed_value : (high next : ℕ) → 0 < high → high ≤ 33554431 → prefixed b (value high next) ≡ value (b - 128 + 128 * high) next
  prefixed_value high next p h = simp (ne_eqb high 0 (λ z. omega arith), le-ltb 33554431 high h)

  pub error_large : (least : ℕ) → 33554431 < max 1 least → prefixed_error b (Short least) ≡ Malformed
  error_large least h = simp (lt-ltb 33554431 (max 1 least) h)

  pub error_short : (least : ℕ) → max 1 least ≤ 33554431 → prefixed_error b (Short least) ≡ Short (b - 128 + 128 * max 1 least)
  error_short least h = simp (le-ltb 33554431 (max 1 least) h)

  pub prefixed_short_large : (least : ℕ) → 33554431 < max 1 least → prefixed b (Err (Short least)) ≡ Err Malformed
  prefixed_short_large least h = ap Err (error_large least h)

  pub prefixed_short : (least : ℕ) → max 1 least ≤ 33554431 → prefixed b (Err (Short least)) ≡ Err (Short (b - 128 + 128 * max 1 least))
  prefixed_short least h = ap Err (error_short least h)

-- ---- lengths

pub pieces_most : (f v : ℕ) → length (pieces f v) ≤ suc f
unfolding pieces
pieces_most zero v = le_refl 1
pieces_most (suc f) v = by_test (ltb v 128) (pieces_most f (v / 128))
  where
    by_test : (b : Bool) → length (pieces f (v / 128)) ≤ suc f → length (pick b (v ∷ []) ((v % 128 + 128) ∷ pieces f (v / 128))) ≤ suc (suc f)
    by_test true h = omega arith
    by_test false h = omega arith

-- one byte below 128
pub length_last : (v : ℕ) → v < 128 → varint_length v ≡ 1
length_last v h = ap length (pieces_last 4 v (omega arith) h)

-- ---- what stands at a place

-- no byte, the last byte of a varint, or one before further bytes
pub data Stands (s : List ℕ) (at : ℕ) : Type 0 where
  ended : length s ≤ at → Stands s at
  last : at < length s → get_or s at 0 < 128 → Stands s at
  more : at < length s → 128 ≤ get_or s at 0 → Stands s at

pub stands : (s : List ℕ) (at : ℕ) → Stands s at
stands s at = go (dec_lt at (length s)) (dec_lt (get_or s at 0) 128)
  where
    go : Dec (at < length s) → Dec (get_or s at 0 < 128) → Stands s at
    go (no p) d = ended (omega arith)
    go (yes p) (yes q) = last p q
    go (yes p) (no q) = more p (omega arith)

-- what is read alike has the same value and ends at the same place
pub same_parsed : {A E : Type 0} {a b : A} {m n : ℕ} → ◌≡◌ {A = Result (Parsed A) E} (Ok (record { value = a; next = m })) (Ok (record { value = b; next = n })) → (a ≡ b) × (m ≡ n)
same_parsed {A} {E} {a} e = (ap value_or e, ap next_or e)
  where
    value_or : Result (Parsed A) E → A
    value_or (Ok r) = r.value
    value_or (Err x) = a

    next_or : Result (Parsed A) E → ℕ
    next_or (Ok r) = r.next
    next_or (Err x) = 0

pub same_value : {v w m n : ℕ} → value v m ≡ value w n → v ≡ w
same_value e = (same_parsed e).0

pub same_next : {v w m n : ℕ} → value v m ≡ value w n → m ≡ n
same_next e = (same_parsed e).1

-- a value after a first byte comes from a value of the rest
pub prefixed_inverse : (b : ℕ) (r : VarintRead) (v next : ℕ) → prefixed b r ≡ value v next
    → (high : ℕ) × (r ≡ value high next) × (0 < high) × (high ≤ 33554431) × (v ≡ b - 128 + 128 * high)
prefixed_inverse b (Ok r) v next e = go (eqb r.value 0) (ltb 33554431 r.value) refl refl e
  where
    go : (x y : Bool) → eqb r.value 0 ≡ x → ltb 33554431 r.value ≡ y → pick x (Err Malformed) (pick y (Err Malformed) (value (b - 128 + 128 * r.value) r.next)) ≡ value v next
        → (h : ℕ) × (Ok r ≡ value h next) × (0 < h) × (h ≤ 33554431) × (v ≡ b - 128 + 128 * h)
    go true y p q e = let z : ◌≡◌ {A = ℕ} 0 1 = cc in absurd (omega arith)
    go false true p q e = let z : ◌≡◌ {A = ℕ} 0 1 = cc in absurd (omega arith)
    go false false p q e =
        let d : r.value ≡ 0 → ⊥ = eqb-false r.value 0 p in
        (r.value, ap (value r.value) (same_next e), omega arith, ltb-false 33554431 r.value q, sym (same_value e))
prefixed_inverse b (Err (Short least)) v next e = go (ltb 33554431 (max 1 least)) e
  where
    go : (x : Bool) → Err (pick x Malformed (Short (b - 128 + 128 * max 1 least))) ≡ value v next
        → (h : ℕ) × (Err (Short least) ≡ value h next) × (0 < h) × (h ≤ 33554431) × (v ≡ b - 128 + 128 * h)
    go true e = let z : ◌≡◌ {A = ℕ} 0 1 = cc in absurd (omega arith)
    go false e = let z : ◌≡◌ {A = ℕ} 0 1 = cc in absurd (omega arith)
prefixed_inverse b (Err Malformed) v next e = let z : ◌≡◌ {A = ℕ} 0 1 = cc in absurd (omega arith)

-- a short reading after a first byte comes from a short reading of the rest
pub prefixed_short_inverse : (b : ℕ) (r : VarintRead) (least : ℕ) → prefixed b r ≡ Err (Short least)
    → (l : ℕ) × (r ≡ Err (Short l)) × (max 1 l ≤ 33554431) × (least ≡ b - 128 + 128 * max 1 l)
prefixed_short_inverse b (Ok r) least e = go (eqb r.value 0) (ltb 33554431 r.value) e
  where
    go : (x y : Bool) → pick x (Err Malformed) (pick y (Err Malformed) (value (b - 128 + 128 * r.value) r.next)) ≡ Err (Short least)
        → (l : ℕ) × (Ok r ≡ Err (Short l)) × (max 1 l ≤ 33554431) × (least ≡ b - 128 + 128 * max 1 l)
    go true y e = let z : ◌≡◌ {A = ℕ} 0 1 = cc in absurd (omega arith)
    go false true e = let z : ◌≡◌ {A = ℕ} 0 1 = cc in absurd (omega arith)
    go false false e = let z : ◌≡◌ {A = ℕ} 0 1 = cc in absurd (omega arith)
prefixed_short_inverse b (Err (Short k)) least e = go (ltb 33554431 (max 1 k)) refl (cc)
  where
    go : (x : Bool) → ltb 33554431 (max 1 k) ≡ x → pick x Malformed (Short (b - 128 + 128 * max 1 k)) ≡ Short least
        → (l : ℕ) × (◌≡◌ {A = VarintRead} (Err (Short k)) (Err (Short l))) × (max 1 l ≤ 33554431) × (least ≡ b - 128 + 128 * max 1 l)
    go true p e = let z : ◌≡◌ {A = ℕ} 0 1 = cc in absurd (omega arith)
    go false p e = (k, refl, ltb-false 33554431 (max 1 k) p, (cc))
prefixed_short_inverse b (Err Malformed) least e = let z : ◌≡◌ {A = ℕ} 0 1 = cc in absurd (omega arith)

-- nothing stands past the last byte
pub varint_at_end : (s : List ℕ) → varint_at s (length s) ≡ Err (Short 0)
varint_at_end s = sym (at_end 5 s (length s) (omega arith) (le_refl (length s)))

pub all_bytes_append : (a b : List ℕ) → AllBytes a → AllBytes b → AllBytes (a ++ b)
all_bytes_append a b h k i = go (dec_lt i (length a))
  where
    go : Dec (i < length a) → get_or (a ++ b) i 0 < 256
    go (yes l) = omega (arith, get_or-append a b 0 i l, h i)
    go (no l) =
        let e : length a + (i - length a) ≡ i = omega arith in
        subst (λ (j : ℕ). get_or (a ++ b) j 0 < 256) e (omega (arith, get_or-append-add a b (i - length a) 0, k (i - length a)))
