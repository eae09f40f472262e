-- What each fault says of the bytes.
use mathlib.Core.Path.{◌≡◌, refl, sym, ap, ap₂, ◌∙◌, subst, subst₂}
use mathlib.Core.Logic.{◌⊎◌, inl, inr}
use mathlib.Core.List.{List, [], ◌++◌, append_assoc}
use Prim.Native.Nat.{ℕ, ◌+◌, ◌-◌, ◌<◌, ◌≤◌, max}
use native.Mathlib.Omega.{arith}
use lib.ListN.{length, take, drop, length-append, length-take, length-drop}
use lib.Seq.{drop-drop, take-append_seam, drop-append_seam}
use Rattle.base.specs.Limits.{max_number}
use Rattle.base.proofs.Parts.{part_none, part_join}
use Rattle.std.specs.Prelude.{Err}
use Rattle.varint.specs.declared.VarintError.TheVariants.{Short}
use Rattle.varint.specs.Varint.{AllBytes, varint_bytes}
use Rattle.varint.specs.Reading.{value, varint_at}
use Rattle.varint.specs.Statement.{BytesAt, Beginning}
use Rattle.varint.proofs.RoundTrip.{varint_was_written, value_place}
use Rattle.varint.proofs.Laws.{same_value, same_next}
use Rattle.varint.proofs.Further.{varint_value_stays}
use Rattle.format.specs.declared.Fault.{Fault}
use Rattle.format.specs.Format.{Format, says, field, Spells}
use Rattle.format.specs.Reading.{failed, field_at, read_at}
use Rattle.format.specs.Statement.{Sensible, Leads, Breaks, Fails}
use Rattle.format.proofs.Fields.{Finds, good, outside, cut, cut_outside, malformed, finds, read_as, of_value, same_failed}
use Rattle.varint.proofs.Bytes.{from_to, value_stands, read_there, read_further, short_completed, short_begins, short_least, none_begins, none_stands}
use Rattle.format.proofs.Reading.{read_on, read_fails, some}

-- ---- the field that fails

-- the first field fails, or it is read and a later one fails
pub data Failing {A : Type 0} (low high : ℕ) (rest : ℕ → Format A) (s : List ℕ) (at : ℕ) (fault : Fault) (place : ℕ) : Type 0 where
  here : field_at low high s at ≡ failed fault at → at ≡ place → Failing low high rest s at fault place
  later : (v n : ℕ) → low ≤ v → v ≤ high → varint_at s at ≡ value v n → read_at (rest v) s n ≡ failed fault place → Failing low high rest s at fault place

pub failing : {A : Type 0} (low high : ℕ) (rest : ℕ → Format A) (s : List ℕ) (at : ℕ) (fault : Fault) (place : ℕ) → read_at (field low high rest) s at ≡ failed fault place
    → Failing low high rest s at fault place
failing {A} low high rest s at fault place e = go (finds low high s at)
  where
    first : {x : Fault} → field_at low high s at ≡ failed x at → Failing low high rest s at fault place
    first {x} h =
        let w = same_failed (sym (read_fails low high rest s at h) ∙ e) in
        here (h ∙ ap (λ (z : Fault). failed z at) w.0) w.1

    go : Finds low high s at → Failing low high rest s at fault place
    go (good v n p q g h) = later v n p q g (sym (read_on low high rest s at h) ∙ e)
    go (outside v n p g h) = first h
    go (cut least p g h) = first h
    go (cut_outside least p g h) = first h
    go (malformed g h) = first h

-- what its fault says of the bytes from it on
pub field_breaks : (low high : ℕ) (s : List ℕ) (at : ℕ) (fault : Fault) → low < 128 → low ≤ high → AllBytes s → at ≤ length s → field_at low high s at ≡ failed fault at
    → Breaks low high (drop at s) fault
field_breaks low high s at fault k j b l e = go (finds low high s at)
  where
    is : {x : Fault} → field_at low high s at ≡ failed x at → Breaks low high (drop at s) x → Breaks low high (drop at s) fault
    is {x} h y =
        subst (Breaks low high (drop at s)) (same_failed (sym h ∙ e)).0 y

    go : Finds low high s at → Breaks low high (drop at s) fault
    go (good v n p q g h) = let z : ◌≡◌ {A = ℕ} 0 1 = cc in absurd (omega arith)
    go (outside v n p g h) =
        let w = value_stands s at v n b g in
        is h (v, w.0, drop n s, w.1, p)
    go (cut least p g h) =
        let w = short_completed s at low least b k l g in
        is h (max low least, omega arith, omega arith, w.1)
    go (cut_outside least p g h) =
        let w = short_begins s at least b l g in
        is h ((least, w.0, w.1), λ v i o. omega (arith, short_least s at least l g v i o))
    go (malformed g h) = is h (λ v i. (none_begins s at l g v i, none_stands s at l g v i))

-- and what is as a fault says is read so
module _ (low high : ℕ) (s : List ℕ) (at : ℕ) (b : AllBytes s) (l : at ≤ length s) where
  -- where the bytes end inside a varint, none stands
  unended : (v : ℕ) → v ≤ max_number → Beginning (varint_bytes v) (drop at s) → (u n : ℕ) → varint_at s at ≡ value u n → ⊥
  unended v h i u n g =
      let f : varint_at (s ++ i.0) at ≡ value u n = varint_value_stays s i.0 at u n g in
      let k : value u n ≡ value v (at + length (varint_bytes v)) = sym f ∙ read_further s at l v h i in
      let en : n ≡ at + length (varint_bytes v) = same_next k in
      let p = value_place 5 s at u n g in
      omega (arith, p.1, i.1, ap length i.2, length-append (drop at s) i.0, length-drop at s)

  pub breaks_read : (fault : Fault) → high ≤ max_number → Breaks low high (drop at s) fault → field_at low high s at ≡ failed fault at
  breaks_read Fault.Cut m (v, p, q, i) = go (finds low high s at)
    where
      go : Finds low high s at → field_at low high s at ≡ failed Fault.Cut at
      go (good u n _ _ g h) = absurd (unended v (omega arith) i u n g)
      go (outside u n _ g h) = absurd (unended v (omega arith) i u n g)
      go (cut least _ g h) = h
      go (cut_outside least o g h) = absurd (omega (arith, short_least s at least l g v (omega arith) i))
      go (malformed g h) = absurd (none_begins s at l g v (omega arith) i)
  breaks_read Fault.CutOutside m ((v, p, i), above) = go (finds low high s at)
    where
      go : Finds low high s at → field_at low high s at ≡ failed Fault.CutOutside at
      go (good u n _ _ g h) = absurd (unended v p i u n g)
      go (outside u n _ g h) = absurd (unended v p i u n g)
      go (cut least o g h) =
          let w = short_begins s at least b l g in
          absurd (omega (arith, above least w.0 w.1))
      go (cut_outside least o g h) = h
      go (malformed g h) = absurd (none_begins s at l g v p i)
  breaks_read Fault.Malformed m none = go (finds low high s at)
    where
      stands : (u n : ℕ) → varint_at s at ≡ value u n → ⊥
      stands u n g = let w = value_stands s at u n b g in (none u w.0).1 (drop n s) w.1

      ends : (least : ℕ) → varint_at s at ≡ Err (Short least) → ⊥
      ends least g = let w = short_begins s at least b l g in (none least w.0).0 w.1

      go : Finds low high s at → field_at low high s at ≡ failed Fault.Malformed at
      go (good u n _ _ g h) = absurd (stands u n g)
      go (outside u n _ g h) = absurd (stands u n g)
      go (cut least _ g h) = absurd (ends least g)
      go (cut_outside least _ g h) = absurd (ends least g)
      go (malformed g h) = h
  breaks_read Fault.Outside m (v, p, q, e, o) = go (finds low high s at)
    where
      there : varint_at s at ≡ value v (at + length (varint_bytes v))
      there = read_there s at l v p q e

      both : (u : ℕ) → u ≡ v → (v < low) ⊎ (high < v) → low ≤ u → u ≤ high → ⊥
      both u z (inl x) y w = omega arith
      both u z (inr x) y w = omega arith

      go : Finds low high s at → field_at low high s at ≡ failed Fault.Outside at
      go (good u n y w g h) =
          let k : value u n ≡ value v (at + length (varint_bytes v)) = sym g ∙ there in
          let z : u ≡ v = same_value k in
          absurd (both u z o y w)
      go (outside u n _ g h) = h
      go (cut least _ g h) = let y = there in let z : ◌≡◌ {A = ℕ} 0 1 = cc in absurd (omega arith)
      go (cut_outside least _ g h) = let y = there in let z : ◌≡◌ {A = ℕ} 0 1 = cc in absurd (omega arith)
      go (malformed g h) = let y = there in let z : ◌≡◌ {A = ℕ} 0 1 = cc in absurd (omega arith)
  breaks_read Fault.Spare m x = absurd x

-- ---- of a whole format

pub fault_fails : {A : Type 0} (f : Format A) → Sensible f → (s : List ℕ) (at : ℕ) (fault : Fault) (place : ℕ) → AllBytes s → at ≤ length s → read_at f s at ≡ failed fault place
    → Fails f s at fault place
fault_fails (says x) k s at fault place b l e = let z : ◌≡◌ {A = ℕ} 0 1 = cc in absurd (omega arith)
fault_fails (field low high rest) (k0, k1, k2, k) s at fault place b l e =
    go (failing low high rest s at fault place e) (λ v n p q. fault_fails (rest v) (k v p q) s n fault place b)
  where
    go : Failing low high rest s at fault place
        → ((v n : ℕ) → low ≤ v → v ≤ high → n ≤ length s → read_at (rest v) s n ≡ failed fault place → Fails (rest v) s n fault place)
        → Fails (field low high rest) s at fault place
    go (here h z) rec = record {
      low = low;
      high = high;
      before = [];
      leads = inl (refl, refl, refl);
      stands = (omega arith, omega arith, ap (λ (m : ℕ). take (m - at) (drop at s)) (sym z) ∙ part_none s at);
      breaks = subst (λ (m : ℕ). Breaks low high (drop m s) fault) z (field_breaks low high s at fault k0 k1 b l h);
    }
    go (later v n p q g h) rec =
        let w = varint_was_written s at v n b g in
        let r = rec v n p q w.2 h in
        record {
          low = r.low;
          high = r.high;
          before = varint_bytes v ++ r.before;
          leads = inr (v, p, q, r.before, refl, r.leads);
          stands = (
            omega (arith, w.1, r.stands.0),
            r.stands.1,
            part_join s at n place (omega (arith, w.1)) r.stands.0 w.3 r.stands.2,
          );
          breaks = r.breaks;
        }

-- what is cut is a beginning of something written
pub cut_beginning : {A : Type 0} (f : Format A) → Sensible f → (s : List ℕ) (at place : ℕ) → AllBytes s → at ≤ length s → read_at f s at ≡ failed Fault.Cut place
    → (bs : List ℕ) × (a : A) × Spells f bs a × Beginning bs (drop at s)
cut_beginning (says x) k s at place b l e = let z : ◌≡◌ {A = ℕ} 0 1 = cc in absurd (omega arith)
cut_beginning {A} (field low high rest) (k0, k1, k2, k) s at place b l e =
    go (failing low high rest s at Fault.Cut place e) (λ v n p q. cut_beginning (rest v) (k v p q) s n place b)
  where
    go : Failing low high rest s at Fault.Cut place
        → ((v n : ℕ) → low ≤ v → v ≤ high → n ≤ length s → read_at (rest v) s n ≡ failed Fault.Cut place → (bs : List ℕ) × (a : A) × Spells (rest v) bs a × Beginning bs (drop n s))
        → (bs : List ℕ) × (a : A) × Spells (field low high rest) bs a × Beginning bs (drop at s)
    go (here h z) rec =
        let w = field_breaks low high s at Fault.Cut k0 k1 b l h in
        let v : ℕ = w.0 in
        let r = some (rest v) (k v w.1 w.2) in
        let t : List ℕ = w.3.0 in (
          varint_bytes v ++ r.0,
          r.1,
          (v, w.1, w.2, r.0, refl, r.2),
          (
            t ++ r.0,
            omega (arith, w.3.1, length-append t r.0),
            sym (append_assoc (drop at s) t r.0) ∙ ap (λ (x : List ℕ). x ++ r.0) w.3.2,
          ),
        )
    go (later v n p q g h) rec =
        let w = varint_was_written s at v n b g in
        let r = rec v n p q w.2 h in
        let t : List ℕ = r.3.0 in (
          varint_bytes v ++ r.0,
          r.1,
          (v, p, q, r.0, refl, r.2),
          (
            t,
            r.3.1,
            ap (λ (x : List ℕ). x ++ t) (from_to s at n (omega (arith, w.1)) w.3)
                ∙ append_assoc (varint_bytes v) (drop n s) t
                ∙ ap (λ (x : List ℕ). varint_bytes v ++ x) r.3.2,
          ),
        )

-- no bytes stand between a place and itself alone
nothing_between : (s : List ℕ) (at place : ℕ) (before : List ℕ) → before ≡ [] → BytesAt s at place before → at ≡ place
nothing_between s at place before e o =
    let n : length (take (place - at) (drop at s)) ≡ 0 = ap length (o.2 ∙ e) in
    omega (arith, n, length-take (place - at) (drop at s), length-drop at s, o.0, o.1)

-- bytes that begin with a varint: it is read, and the others stand behind it
first_of : (s : List ℕ) (at place v : ℕ) (more : List ℕ) {before : List ℕ} → v ≤ max_number → BytesAt s at place before → before ≡ varint_bytes v ++ more
    → (varint_at s at ≡ value v (at + length (varint_bytes v))) × BytesAt s (at + length (varint_bytes v)) place more
first_of s at place v more h o e =
    let bs : List ℕ = varint_bytes v in
    let n : ℕ = at + length bs in
    let all : drop at s ≡ (bs ++ more) ++ drop place s = from_to s at place o.0 (o.2 ∙ e) in
    let behind : drop n s ≡ more ++ drop place s
    = sym (drop-drop (length bs) at s) ∙ ap (drop (length bs)) (all ∙ append_assoc bs more (drop place s)) ∙ drop-append_seam bs (more ++ drop place s) in
    let size : place - at ≡ length bs + length more = sym (omega (arith, length-take (place - at) (drop at s), length-drop at s, o.0, o.1)) ∙ ap length (o.2 ∙ e) ∙ length-append bs more in
    let m : place - n ≡ length more = omega (arith, size) in (
      read_there s at (omega (arith, o.0, o.1)) v h (more ++ drop place s) (all ∙ append_assoc bs more (drop place s)),
      (omega (arith, size, o.0), o.1, ap₂ take m behind ∙ take-append_seam more (drop place s)),
    )

-- and what fails as a fault says is read so: with the fields before it taken apart
leads_read : {A : Type 0} (f : Format A) → Sensible f → (s : List ℕ) (at : ℕ) (fault : Fault) (place : ℕ) → AllBytes s → (low high : ℕ) (before : List ℕ)
    → Leads f before low high → BytesAt s at place before → Breaks low high (drop place s) fault → read_at f s at ≡ failed fault place
leads_read (says x) k s at fault place b low high before g o r = absurd g
leads_read (field x y rest) (k0, k1, k2, k) s at fault place b low high before (inl (e, ex, ey)) o r =
    let z : at ≡ place = nothing_between s at place before e o in
    let h : Breaks x y (drop at s) fault
    = subst (λ (n : ℕ). Breaks x y (drop n s) fault) (sym z) (subst₂ (λ (i j : ℕ). Breaks i j (drop place s) fault) (sym ex) (sym ey) r) in
    read_fails x y rest s at (breaks_read x y s at b (omega (arith, o.0, o.1)) fault k2 h) ∙ ap (failed fault) z
leads_read (field x y rest) (k0, k1, k2, k) s at fault place b low high before (inr (v, p, q, more, e, g)) o r =
    let w = first_of s at place v more (omega arith) o e in
    let n : ℕ = at + length (varint_bytes v) in
    read_on x y rest s at (sym (read_as x y s at w.0 (of_value x y at v n p q)))
    ∙ leads_read (rest v) (k v p q) s n fault place b low high more g w.1 r

pub fails_read : {A : Type 0} (f : Format A) → Sensible f → (s : List ℕ) (at : ℕ) (fault : Fault) (place : ℕ) → AllBytes s → Fails f s at fault place → read_at f s at ≡ failed fault place
fails_read f k s at fault place b x = leads_read f k s at fault place b x.low x.high x.before x.leads x.stands x.breaks
