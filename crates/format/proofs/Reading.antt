-- Reading by a format and writing are inverse, and what is cut is what further bytes could make whole.
use mathlib.Core.Path.{◌≡◌, refl, sym, ap, ap₂, ◌∙◌}
use mathlib.Core.Logic.{◌⊎◌, inl, inr}
use mathlib.Core.List.{List, [], ◌++◌, append_assoc, append-nil}
use Prim.Native.Nat.{ℕ, ◌+◌, ◌-◌, ◌<◌, ◌≤◌}
use native.Mathlib.Omega.{arith}
use native.Mathlib.Nat.{le_refl}
use lib.ListN.{length, take, drop, length-append}
use Rattle.base.proofs.Parts.{part_none, part_join}
use Rattle.std.specs.Prelude.{Err}
use Rattle.varint.specs.declared.VarintError.TheVariants.{Malformed}
use Rattle.varint.specs.Varint.{AllBytes, varint_bytes}
use Rattle.varint.specs.Reading.{value, varint_at}
use Rattle.varint.specs.Statement.{BytesAt, Beginning}
use Rattle.varint.proofs.RoundTrip.{varint_read_at, varint_was_written, value_place}
use Rattle.varint.proofs.Laws.{same_value, same_next}
use Rattle.varint.proofs.Further.{varint_value_stays, varint_malformed_stays, varint_least}
use Rattle.format.specs.declared.Fault.{Fault}
use Rattle.format.specs.Format.{Format, says, field, Spells}
use Rattle.format.specs.Reading.{Read, field_at, whole, failed, with_field, read_at}
use Rattle.format.specs.Statement.{Sensible}
use Rattle.format.proofs.Fields.{Finds, good, outside, cut, cut_outside, malformed, finds, read_as, of_value, same_whole}

-- ---- one field, and what follows it

module _ {A : Type 0} (low high : ℕ) (rest : ℕ → Format A) (s : List ℕ) (at : ℕ) where
  pub read_on : {v next : ℕ} → field_at low high s at ≡ whole v next → read_at (field low high rest) s at ≡ read_at (rest v) s next
  read_on e = ap (λ (r : Read ℕ). with_field r (λ v next. read_at (rest v) s next)) e

  pub read_fails : {fault : Fault} → field_at low high s at ≡ failed fault at → read_at (field low high rest) s at ≡ failed fault at
  read_fails e = ap (λ (r : Read ℕ). with_field r (λ v next. read_at (rest v) s next)) e

-- ---- what is written is read back

pub spelled_read : {A : Type 0} (f : Format A) → Sensible f → (bs : List ℕ) (a : A) (p q : List ℕ) → Spells f bs a → read_at f (p ++ (bs ++ q)) (length p) ≡ whole a (length p + length bs)
spelled_read (says x) k bs a p q (e, g) = ap₂ whole g (omega (arith, ap length e))
spelled_read (field low high rest) (k0, k1, k2, k) bs a p q (v, l, h, more, e, g) =
    let b : List ℕ = varint_bytes v in
    let s : List ℕ = p ++ (bs ++ q) in
    let e1 : s ≡ p ++ (b ++ (more ++ q)) = ap (λ (x : List ℕ). p ++ (x ++ q)) e ∙ ap (λ (x : List ℕ). p ++ x) (append_assoc b more q) in
    let e2 : s ≡ (p ++ b) ++ (more ++ q) = e1 ∙ sym (append_assoc p b (more ++ q)) in
    let n : length (p ++ b) ≡ length p + length b = length-append p b in
    let r = varint_read_at v s p (more ++ q) (length p) (omega arith) e1 refl in
    read_on low high rest s (length p) (sym (read_as low high s (length p) r (of_value low high (length p) v (length p + length b) l h)))
    ∙ ap₂ (read_at (rest v)) e2 (sym n)
    ∙ spelled_read (rest v) (k v l h) more a (p ++ b) q g
    ∙ ap (whole a) (omega (arith, ap length e, length-append b more))

-- ---- what is read was written

-- its first field, and what follows that
pub whole_first : {A : Type 0} (low high : ℕ) (rest : ℕ → Format A) (s : List ℕ) (at : ℕ) (a : A) (next : ℕ) → read_at (field low high rest) s at ≡ whole a next
    → (v n : ℕ) × (low ≤ v) × (v ≤ high) × (varint_at s at ≡ value v n) × (read_at (rest v) s n ≡ whole a next)
whole_first low high rest s at a next e = go (finds low high s at)
  where
    none : {fault : Fault} → field_at low high s at ≡ failed fault at
        → (v n : ℕ) × (low ≤ v) × (v ≤ high) × (varint_at s at ≡ value v n) × (read_at (rest v) s n ≡ whole a next)
    none h = let y = read_fails low high rest s at h in let z : ◌≡◌ {A = ℕ} 0 1 = cc in absurd (omega arith)

    go : Finds low high s at → (v n : ℕ) × (low ≤ v) × (v ≤ high) × (varint_at s at ≡ value v n) × (read_at (rest v) s n ≡ whole a next)
    go (good v n p q g h) = (v, n, p, q, g, sym (read_on low high rest s at h) ∙ e)
    go (outside v n p g h) = none h
    go (cut least p g h) = none h
    go (cut_outside least p g h) = none h
    go (malformed g h) = none h

-- it ends within the bytes
pub whole_place : {A : Type 0} (f : Format A) (s : List ℕ) (at : ℕ) (a : A) (next : ℕ) → at ≤ length s → read_at f s at ≡ whole a next → (at ≤ next) × (next ≤ length s)
whole_place (says x) s at a next l e = let n = (same_whole e).1 in (omega (arith, n), omega (arith, n))
whole_place (field low high rest) s at a next l e =
    let w = whole_first low high rest s at a next e in
    let p = value_place 5 s at w.0 w.1 w.4 in
    let r = whole_place (rest w.0) s w.1 a next p.1 w.5 in
    (omega (arith, p.0, r.0), r.1)

-- some bytes spell it
pub whole_spelled : {A : Type 0} (f : Format A) (s : List ℕ) (at : ℕ) (a : A) (next : ℕ) → read_at f s at ≡ whole a next → (bs : List ℕ) × Spells f bs a
whole_spelled (says x) s at a next e = ([], (refl, (same_whole e).0))
whole_spelled (field low high rest) s at a next e =
    let w = whole_first low high rest s at a next e in
    let r = whole_spelled (rest w.0) s w.1 a next w.5 in
    (varint_bytes w.0 ++ r.0, (w.0, w.2, w.3, r.0, refl, r.1))

-- its bytes stand there
pub whole_written : {A : Type 0} (f : Format A) (s : List ℕ) (at : ℕ) (a : A) (next : ℕ) → AllBytes s → at ≤ length s → read_at f s at ≡ whole a next
    → (bs : List ℕ) × Spells f bs a × BytesAt s at next bs
whole_written (says x) s at a next b l e =
    let n : at ≡ next = (same_whole e).1 in
    ([], (refl, (same_whole e).0), (omega arith, omega arith, ap (λ (m : ℕ). take (m - at) (drop at s)) (sym n) ∙ part_none s at))
whole_written (field low high rest) s at a next b l e =
    let w = whole_first low high rest s at a next e in
    let o = varint_was_written s at w.0 w.1 b w.4 in
    let r = whole_written (rest w.0) s w.1 a next b o.2 w.5 in (
      varint_bytes w.0 ++ r.0,
      (w.0, w.2, w.3, r.0, refl, r.1),
      (omega (arith, o.1, r.2.0), r.2.1, part_join s at w.1 next (omega (arith, o.1)) r.2.0 o.3 r.2.2),
    )

-- ---- what further bytes could make whole

-- what is whole with further bytes is whole without them, or cut
pub whole_before : {A : Type 0} (f : Format A) (s t : List ℕ) (at : ℕ) (a : A) (next : ℕ) → read_at f (s ++ t) at ≡ whole a next
    → (read_at f s at ≡ whole a next) ⊎ ((place : ℕ) × (read_at f s at ≡ failed Fault.Cut place))
whole_before (says x) s t at a next e = inl e
whole_before (field low high rest) s t at a next e =
    let w = whole_first low high rest (s ++ t) at a next e in
    let v : ℕ = w.0 in
    let n : ℕ = w.1 in
    go w (finds low high s at) (whole_before (rest v) s t n a next w.5)
  where
    Whole : Type 0
    Whole = (v n : ℕ) × (low ≤ v) × (v ≤ high) × (varint_at (s ++ t) at ≡ value v n) × (read_at (rest v) (s ++ t) n ≡ whole a next)

    Goal : Type 0
    Goal = (read_at (field low high rest) s at ≡ whole a next) ⊎ ((place : ℕ) × (read_at (field low high rest) s at ≡ failed Fault.Cut place))

    go : (w : Whole) → Finds low high s at → (read_at (rest w.0) s w.1 ≡ whole a next) ⊎ ((place : ℕ) × (read_at (rest w.0) s w.1 ≡ failed Fault.Cut place)) → Goal
    go w (good v n p q g h) r = on r
      where
        same : varint_at (s ++ t) at ≡ value v n
        same = varint_value_stays s t at v n g

        step : read_at (field low high rest) s at ≡ read_at (rest w.0) s w.1
        step =
            let k : value v n ≡ value w.0 w.1 = sym same ∙ w.4 in
            let ev : v ≡ w.0 = same_value k in
            let en : n ≡ w.1 = same_next k in
            read_on low high rest s at h ∙ ap₂ (λ (x y : ℕ). read_at (rest x) s y) ev en

        on : (read_at (rest w.0) s w.1 ≡ whole a next) ⊎ ((place : ℕ) × (read_at (rest w.0) s w.1 ≡ failed Fault.Cut place)) → Goal
        on (inl x) = inl (step ∙ x)
        on (inr x) = inr (x.0, step ∙ x.1)
    go w (outside v n p g h) r =
        let k : value v n ≡ value w.0 w.1 = sym (varint_value_stays s t at v n g) ∙ w.4 in
        let ev : v ≡ w.0 = same_value k in
        absurd (both p (omega (arith, w.2)) (omega (arith, w.3)))
      where
        both : (v < low) ⊎ (high < v) → low ≤ v → v ≤ high → ⊥
        both (inl x) y z = omega arith
        both (inr x) y z = omega arith
    go w (cut least p g h) r = inr (at, read_fails low high rest s at h)
    go w (cut_outside least p g h) r = absurd (omega (arith, varint_least s t at least w.0 w.1 g w.4, w.3))
    go w (malformed g h) r =
        let k : varint_at (s ++ t) at ≡ Err Malformed = varint_malformed_stays s t at g in
        let y : varint_at (s ++ t) at ≡ value w.0 w.1 = w.4 in
        let z : ◌≡◌ {A = ℕ} 0 1 = cc in
        absurd (omega arith)

-- a beginning of what is written, not all of it, is cut
pub beginning_cut : {A : Type 0} (f : Format A) → Sensible f → (bs : List ℕ) (a : A) (p t : List ℕ) → Spells f bs a → Beginning bs t
    → (place : ℕ) × (read_at f (p ++ t) (length p) ≡ failed Fault.Cut place)
beginning_cut f k bs a p t g (rest, pos, e) = go (whole_before f (p ++ t) rest (length p) a (length p + length bs) all)
  where
    all : read_at f ((p ++ t) ++ rest) (length p) ≡ whole a (length p + length bs)
    all =
        let x : (p ++ t) ++ rest ≡ p ++ (bs ++ []) = append_assoc p t rest ∙ ap (λ (y : List ℕ). p ++ y) (e ∙ sym (append-nil bs)) in
        ap (λ (y : List ℕ). read_at f y (length p)) x ∙ spelled_read f k bs a p [] g

    go : (read_at f (p ++ t) (length p) ≡ whole a (length p + length bs)) ⊎ ((place : ℕ) × (read_at f (p ++ t) (length p) ≡ failed Fault.Cut place))
        → (place : ℕ) × (read_at f (p ++ t) (length p) ≡ failed Fault.Cut place)
    go (inl x) =
        let n : length (p ++ t) ≡ length p + length t = length-append p t in
        let w = whole_place f (p ++ t) (length p) a (length p + length bs) (omega arith) x in
        absurd (omega (arith, w.1, length-append t rest, ap length e))
    go (inr x) = x

-- every format can be written
pub some : {A : Type 0} (f : Format A) → Sensible f → (bs : List ℕ) × (a : A) × Spells f bs a
some (says x) k = ([], x, (refl, refl))
some (field low high rest) (k0, k1, k2, k) =
    let r = some (rest low) (k low (le_refl low) k1) in
    (varint_bytes low ++ r.0, r.1, (low, le_refl low, k1, r.0, refl, r.2))
