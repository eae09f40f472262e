-- Reading with further bytes: what was read stays, and what was short can be made whole.
use mathlib.Core.Path.{◌≡◌, refl, sym, ap, ap₂, ◌∙◌, subst, subst₂}
use mathlib.Core.List.{List, [], ◌∷◌, ◌++◌}
use Prim.Native.Nat.{ℕ, zero, suc, ◌+◌, ◌-◌, ◌*◌, ◌<◌, ◌≤◌, max}
use native.Mathlib.Omega.{arith}
use native.Mathlib.Nat.{le_refl}
use native.Mathlib.Numerals.{sub-one}
use native.Mathlib.Decide.{dec_lt, ℕ_discrete}
use lib.ListN.{length, get_or, length-append, get_or-append}
use lib.Seq.{get_or_at}
use Rattle.varint.specs.declared.VarintError.TheVariants.{Short, Malformed}
use Rattle.varint.specs.Varint.{AllBytes}
use Rattle.std.specs.Prelude.{Ok, Err}
use Rattle.varint.specs.Reading.{VarintRead, value, pieces_at, prefixed, varint_at}
use Rattle.varint.proofs.Laws.{at_none, at_end, at_last, at_more, prefixed_none, prefixed_large, prefixed_value, prefixed_short, prefixed_short_large, prefixed_short_inverse, Stands, ended, last, more, stands}

-- ---- what further bytes can change

-- r is read of some bytes, and r2 of those and further ones: a value and what is malformed stay, and what is short becomes no less
abbrev pub Extends : VarintRead → VarintRead → Type 0
Extends (Ok r) r2 = r2 ≡ Ok r
Extends (Err (Short least)) (Ok r) = least ≤ r.value
Extends (Err (Short least)) (Err (Short l)) = least ≤ l
Extends (Err (Short least)) (Err Malformed) = Unit
Extends (Err Malformed) r2 = r2 ≡ Err Malformed

extends_refl : (r : VarintRead) → Extends r r
extends_refl (Ok r) = refl
extends_refl (Err (Short least)) = le_refl least
extends_refl (Err Malformed) = refl

unchanged : (r r2 : VarintRead) → r2 ≡ r → Extends r r2
unchanged r r2 e = subst (Extends r) (sym e) (extends_refl r)

-- the same of equal readings
alike : {r r2 x x2 : VarintRead} → r ≡ x → r2 ≡ x2 → Extends x x2 → Extends r r2
alike p q h = subst₂ Extends (sym p) (sym q) h

prefixed_extends : (b : ℕ) (r r2 : VarintRead) → Extends r r2 → Extends (prefixed b r) (prefixed b r2)
prefixed_extends b (Ok r) r2 e = unchanged (prefixed b (Ok r)) (prefixed b r2) (ap (prefixed b) e)
prefixed_extends b (Err Malformed) r2 e = ap (prefixed b) e
prefixed_extends b (Err (Short l)) (Err Malformed) h = go (dec_lt 33554431 (max 1 l))
  where
    go : Dec (33554431 < max 1 l) → Extends (prefixed b (Err (Short l))) (Err Malformed)
    go (yes p) = alike (prefixed_short_large b l p) refl refl
    go (no p) = alike {x = Err (Short (b - 128 + 128 * max 1 l))} (prefixed_short b l (omega arith)) refl tt
prefixed_extends b (Err (Short l)) (Err (Short k)) h = go (dec_lt 33554431 (max 1 l)) (dec_lt 33554431 (max 1 k))
  where
    go : Dec (33554431 < max 1 l) → Dec (33554431 < max 1 k) → Extends (prefixed b (Err (Short l))) (prefixed b (Err (Short k)))
    go (yes p) d = alike (prefixed_short_large b l p) (prefixed_short_large b k (omega arith)) refl
    go (no p) (yes q) = alike {x = Err (Short (b - 128 + 128 * max 1 l))} {x2 = Err Malformed} (prefixed_short b l (omega arith)) (prefixed_short_large b k q) tt
    go (no p) (no q) = alike {x = Err (Short (b - 128 + 128 * max 1 l))} {x2 = Err (Short (b - 128 + 128 * max 1 k))} (prefixed_short b l (omega arith)) (prefixed_short b k (omega arith)) (omega arith)
prefixed_extends b (Err (Short l)) (Ok r) h = go (dec_lt 33554431 (max 1 l)) (ℕ_discrete r.value 0) (dec_lt 33554431 r.value)
  where
    go : Dec (33554431 < max 1 l) → Dec (r.value ≡ 0) → Dec (33554431 < r.value) → Extends (prefixed b (Err (Short l))) (prefixed b (value r.value r.next))
    go (yes p) d d2 = alike (prefixed_short_large b l p) (prefixed_large b r.value r.next (omega arith)) refl
    go (no p) (yes q) d2 = alike {x = Err (Short (b - 128 + 128 * max 1 l))} {x2 = Err Malformed} (prefixed_short b l (omega arith)) (prefixed_none b r.value r.next q) tt
    go (no p) (no q) (yes o) = alike {x = Err (Short (b - 128 + 128 * max 1 l))} {x2 = Err Malformed} (prefixed_short b l (omega arith)) (prefixed_large b r.value r.next o) tt
    go (no p) (no q) (no o) =
        alike {x = Err (Short (b - 128 + 128 * max 1 l))} {x2 = value (b - 128 + 128 * r.value) r.next} (prefixed_short b l (omega arith)) (prefixed_value b r.value r.next (omega arith) (omega arith)) (omega arith)

-- short of everything extends to everything
short_zero : (r : VarintRead) → Extends (Err (Short 0)) r
short_zero (Ok r) = omega arith
short_zero (Err (Short l)) = omega arith
short_zero (Err Malformed) = tt

pub pieces_extend : (f : ℕ) (s t : List ℕ) (at : ℕ) → Extends (pieces_at f s at) (pieces_at f (s ++ t) at)
pieces_extend zero s t at = alike (sym (at_none 0 s at refl)) (sym (at_none 0 (s ++ t) at refl)) refl
pieces_extend (suc f) s t at = go (stands s at) (pieces_extend f s t (at + 1))
  where
    same : at < length s → get_or (s ++ t) at 0 ≡ get_or s at 0
    same p = get_or-append s t 0 at p

    long : length s ≤ length (s ++ t)
    long = simp length-append (omega arith)

    go : Stands s at → Extends (pieces_at f s (at + 1)) (pieces_at f (s ++ t) (at + 1)) → Extends (pieces_at (suc f) s at) (pieces_at (suc f) (s ++ t) at)
    go (ended p) rec = alike {x = Err (Short 0)} (sym (at_end (suc f) s at (omega arith) p)) refl (short_zero (pieces_at (suc f) (s ++ t) at))
    go (last p q) rec =
        let e : get_or (s ++ t) at 0 ≡ get_or s at 0 = same p in
        alike {x = value (get_or s at 0) (at + 1)}
        (sym (at_last (suc f) s at (omega arith) p q))
        (sym (at_last (suc f) (s ++ t) at (omega arith) (omega (arith, long)) (omega arith)))
        (ap (λ (x : ℕ). value x (at + 1)) e)
    go (more p q) rec =
        let e : get_or (s ++ t) at 0 ≡ get_or s at 0 = same p in
        alike (rw sub-one at (at_more (suc f) s at (omega arith) p q))
        (rw sub-one at (at_more (suc f) (s ++ t) at (omega arith) (omega (arith, long)) (omega arith)) ∙ ap (λ (x : ℕ). prefixed x (pieces_at f (s ++ t) (at + 1))) e)
        (prefixed_extends (get_or s at 0) (pieces_at f s (at + 1)) (pieces_at f (s ++ t) (at + 1)) rec)

pub varint_extends : (s t : List ℕ) (at : ℕ) → Extends (varint_at s at) (varint_at (s ++ t) at)
varint_extends s t at = pieces_extend 5 s t at

-- ---- a value and what is malformed stay, and no value is below the least

module _ {r r2 : VarintRead} (x : Extends r r2) where
  pub value_stays : {v next : ℕ} → r ≡ value v next → r2 ≡ value v next
  value_stays e = subst (λ (z : VarintRead). Extends z r2) e x

  pub malformed_stays : r ≡ Err Malformed → r2 ≡ Err Malformed
  malformed_stays e = subst (λ (z : VarintRead). Extends z r2) e x

  pub least_holds : {least v next : ℕ} → r ≡ Err (Short least) → r2 ≡ value v next → least ≤ v
  least_holds e f = subst₂ Extends e f x

pub varint_value_stays : (s t : List ℕ) (at v next : ℕ) → varint_at s at ≡ value v next → varint_at (s ++ t) at ≡ value v next
varint_value_stays s t at v next e = value_stays (varint_extends s t at) e

pub varint_malformed_stays : (s t : List ℕ) (at : ℕ) → varint_at s at ≡ Err Malformed → varint_at (s ++ t) at ≡ Err Malformed
varint_malformed_stays s t at e = malformed_stays (varint_extends s t at) e

pub varint_least : (s t : List ℕ) (at least v next : ℕ) → varint_at s at ≡ Err (Short least) → varint_at (s ++ t) at ≡ value v next → least ≤ v
varint_least s t at least v next e f = least_holds (varint_extends s t at) e f

-- ---- what is short can be made whole

-- one byte
one_byte : (b : ℕ) → b < 256 → AllBytes (b ∷ [])
one_byte b h zero = h
one_byte b h (suc i) = omega arith

-- Further bytes make the least value; before the first byte, any value of one byte.
pub complete : (f : ℕ) (s : List ℕ) (at low least : ℕ) → low < 128 → at ≤ length s → pieces_at f s at ≡ Err (Short least)
    → (t : List ℕ) × AllBytes t × (pieces_at f (s ++ t) at ≡ value (max low least) (length (s ++ t)))
complete zero s at low least h l e = let z : ◌≡◌ {A = ℕ} 0 1 = cc (at_none 0 s at refl) in absurd (omega arith)
complete (suc f) s at low least h l e = go (stands s at) (λ k. complete f s (at + 1) 1 k (omega arith))
  where
    go : Stands s at
        → ((k : ℕ) → at + 1 ≤ length s → pieces_at f s (at + 1) ≡ Err (Short k)
        → (t : List ℕ) × AllBytes t × (pieces_at f (s ++ t) (at + 1) ≡ value (max 1 k) (length (s ++ t))))
        → (t : List ℕ) × AllBytes t × (pieces_at (suc f) (s ++ t) at ≡ value (max low least) (length (s ++ t)))
    go (ended p) rec =
        let e0 : least ≡ 0 = cc (at_end (suc f) s at (omega arith) p) in
        let b : get_or (s ++ (low ∷ [])) at 0 ≡ low = get_or_at s low [] 0 at (omega arith) in
        let n : length (s ++ (low ∷ [])) ≡ length s + 1 = length-append s (low ∷ []) in (
          low ∷ [],
          one_byte low (omega arith),
          sym (at_last (suc f) (s ++ (low ∷ [])) at (omega arith) (omega arith) (omega arith)) ∙ ap₂ value (omega arith) (omega arith),
        )
    go (last p q) rec = let z : ◌≡◌ {A = ℕ} 0 1 = cc (at_last (suc f) s at (omega arith) p q) in absurd (omega arith)
    go (more p q) rec =
        let b : ℕ = get_or s at 0 in
        let i = prefixed_short_inverse b (pieces_at f s (at + 1)) least (sym (rw sub-one at (at_more (suc f) s at (omega arith) p q)) ∙ e) in
        let k : ℕ = i.0 in
        let r = rec k (omega arith) i.1 in
        let t : List ℕ = r.0 in
        let n : length (s ++ t) ≡ length s + length t = length-append s t in
        let eb : get_or (s ++ t) at 0 ≡ b = get_or-append s t 0 at p in
        let small : max 1 k ≤ 33554431 = i.2 in
        let el : least ≡ b - 128 + 128 * max 1 k = i.3 in (
          t,
          r.1,
          rw sub-one at (at_more (suc f) (s ++ t) at (omega arith) (omega arith) (omega arith))
              ∙ ap₂ prefixed eb r.2
              ∙ prefixed_value b (max 1 k) (length (s ++ t)) (omega arith) small
              ∙ ap (λ (x : ℕ). value x (length (s ++ t))) (omega arith),
        )
