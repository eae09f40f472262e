-- Whole journals: their records are read back, also after a cut.
use mathlib.Core.Path.{◌≡◌, refl, sym, ap, ap₂, ◌∙◌, subst}
use mathlib.Core.Logic.{◌⊎◌, inl, inr}
use mathlib.Core.List.{List, [], ◌∷◌, ◌++◌, append_assoc, append-nil}
use Prim.Native.Nat.{ℕ, zero, suc, ◌+◌, ◌-◌, ◌<◌, ◌≤◌}
use native.Mathlib.Omega.{arith}
use native.Mathlib.Decide.{dec_lt}
use lib.ListN.{length, take, drop, length-append, length-take, length-drop, take-append-drop}
use lib.Seq.{take_all, take-append-le, take-append-add, take-nil, take_at, take-add}
use Rattle.base.specs.Put.{put_at}
use Rattle.varint.specs.Varint.{AllBytes}
use Rattle.journal.specs.declared.Record.{Record}
use Rattle.journal.specs.declared.Record.TheVariants.{Start, Taken}
use Rattle.std.specs.Prelude.{Ok, Err}
use Rattle.journal.specs.declared.RecordError.TheVariants.{Torn, Bad}
use Rattle.journal.specs.Journal.{record_bytes}
use Rattle.journal.specs.Reading.{RecordRead, whole_record, record_at, with_record, records_from}
use Rattle.journal.specs.Records.{InLimits, AllInLimits, ProperBeginning, journal_bytes}
use Rattle.journal.specs.Statement.{Begins}
use Rattle.journal.proofs.Laws.{start_length, taken_length}
use Rattle.journal.proofs.RoundTrip.{record_read, record_was_written}
use Rattle.journal.proofs.Torn.{record_at_end, torn_beginning}

-- ---- the definitions case by case

pub journal_none : journal_bytes [] ≡ []
unfolding journal_bytes
journal_none = refl

pub journal_more : (r : Record) (rs : List Record) → journal_bytes (r ∷ rs) ≡ journal_bytes rs ++ record_bytes r
unfolding journal_bytes
journal_more r rs = refl

pub journal_before : (r : Record) (rs : List Record) (q : List ℕ) → journal_bytes (r ∷ rs) ++ q ≡ journal_bytes rs ++ (record_bytes r ++ q)
journal_before r rs q = ap (λ (x : List ℕ). x ++ q) (journal_more r rs) ∙ append_assoc (journal_bytes rs) (record_bytes r) q

-- a record is read
pub records_read : (f : ℕ) (j : List ℕ) (at : ℕ) (acc : List Record) {r : Record} {next : ℕ} → record_at j at ≡ whole_record r next
    → records_from (suc f) j at acc ≡ records_from f j next (r ∷ acc)
unfolding records_from
records_read f j at acc e = ap (λ (x : RecordRead). with_record x acc (λ r next. records_from f j next (r ∷ acc))) e

-- nothing more is read from a torn record on
pub records_torn : (f : ℕ) (j : List ℕ) (at : ℕ) (acc : List Record) → record_at j at ≡ Err Torn → records_from f j at acc ≡ acc
unfolding records_from
records_torn zero j at acc e = refl
records_torn (suc f) j at acc e = ap (λ (x : RecordRead). with_record x acc (λ r next. records_from f j next (r ∷ acc))) e

-- ---- lengths

pub record_pos : (r : Record) → 0 < length (record_bytes r)
record_pos (Start agreement x) = omega (arith, start_length agreement x)
record_pos (Taken sender m) = omega (arith, taken_length sender m)

pub journal_length : (r : Record) (rs : List Record) → length (journal_bytes (r ∷ rs)) ≡ length (journal_bytes rs) + length (record_bytes r)
journal_length r rs = ap length (journal_more r rs) ∙ length-append (journal_bytes rs) (record_bytes r)

-- no more records than bytes
pub records_fewer : (rs : List Record) → length rs ≤ length (journal_bytes rs)
records_fewer [] = omega arith
records_fewer (r ∷ rs) = omega (arith, records_fewer rs, journal_length r rs, record_pos r)

-- an older part of the journal is no longer
pub journal_drop : (d : ℕ) (rs : List Record) → length (journal_bytes (drop d rs)) ≤ length (journal_bytes rs)
journal_drop zero rs = omega arith
journal_drop (suc d) [] = omega arith
journal_drop (suc d) (r ∷ rs) = omega (arith, journal_drop d rs, journal_length r rs)

pub limits_drop : (d : ℕ) (rs : List Record) → AllInLimits rs → AllInLimits (drop d rs)
limits_drop zero rs h = h
limits_drop (suc d) [] h = tt
limits_drop (suc d) (r ∷ rs) (h, hs) = limits_drop d rs hs

-- ---- reading a journal

-- the latest record, before q
pub journal_record : (r : Record) (rs : List Record) (q : List ℕ) → InLimits r
    → record_at (journal_bytes (r ∷ rs) ++ q) (length (journal_bytes rs)) ≡ whole_record r (length (journal_bytes (r ∷ rs)))
journal_record r rs q h =
    ap (λ (x : List ℕ). record_at x (length (journal_bytes rs))) (journal_before r rs q)
    ∙ record_read r (journal_bytes rs) q h
    ∙ ap (whole_record r) (sym (journal_length r rs))

-- the records rs, before q, are read one after the other
read_through : (rs : List Record) (q : List ℕ) (f : ℕ) → AllInLimits rs
    → records_from (length rs + f) (journal_bytes rs ++ q) 0 [] ≡ records_from f (journal_bytes rs ++ q) (length (journal_bytes rs)) rs
read_through [] q f h = ap₂ (λ (n : ℕ) (l : List ℕ). records_from n (journal_bytes [] ++ q) (length l) []) (omega arith) (sym journal_none)
read_through (r ∷ rs) q f (h, hs) =
    let b : List ℕ = journal_bytes rs in
    let e = journal_before r rs q in
    let n : suc (length rs) + f ≡ length rs + suc f = omega arith in
    ap₂ (λ (m : ℕ) (x : List ℕ). records_from m x 0 []) n e
    ∙ read_through rs (record_bytes r ++ q) (suc f) hs
    ∙ ap (λ (x : List ℕ). records_from (suc f) x (length b) rs) (sym e)
    ∙ records_read f (journal_bytes (r ∷ rs) ++ q) (length b) rs (journal_record r rs q h)

-- a journal that ends in a torn record
pub journal_read_before : (rs : List Record) (tail : List ℕ) (j : List ℕ) → AllInLimits rs → j ≡ journal_bytes rs ++ tail
    → record_at (journal_bytes rs ++ tail) (length (journal_bytes rs)) ≡ Err Torn → records_from (length j) j 0 [] ≡ rs
journal_read_before rs tail j h e torn =
    let b : List ℕ = journal_bytes rs ++ tail in
    let f : ℕ = length b - length rs in
    let n : length b ≡ length rs + f = omega (arith, records_fewer rs, length-append (journal_bytes rs) tail) in
    ap (λ (x : List ℕ). records_from (length x) x 0 []) e
    ∙ ap (λ (m : ℕ). records_from m b 0 []) n
    ∙ read_through rs tail f h
    ∙ records_torn f b (length (journal_bytes rs)) rs torn

-- the records of a whole journal
pub journal_read : (rs : List Record) (j : List ℕ) → AllInLimits rs → j ≡ journal_bytes rs → records_from (length j) j 0 [] ≡ rs
journal_read rs j h e =
    let b : List ℕ = journal_bytes rs in
    journal_read_before rs [] j h (e ∙ sym (append-nil b)) (ap (λ (x : List ℕ). record_at x (length b)) (append-nil b) ∙ record_at_end b)

-- and of one that ends in a proper beginning of a record
pub journal_torn_read : (rs : List Record) (r : Record) (tail : List ℕ) (j : List ℕ) → AllInLimits rs → InLimits r → ProperBeginning r tail → j ≡ journal_bytes rs ++ tail
    → records_from (length j) j 0 [] ≡ rs
journal_torn_read rs r tail j h hr b e = journal_read_before rs tail j h e (torn_beginning r (journal_bytes rs) tail hr b)

-- journals with the same bytes have the same records
pub journal_injective : (rs ts : List Record) → AllInLimits rs → AllInLimits ts → journal_bytes rs ≡ journal_bytes ts → rs ≡ ts
journal_injective rs ts h k e = sym (journal_read rs (journal_bytes rs) h refl) ∙ journal_read ts (journal_bytes rs) k e

-- ---- cuts

-- What the first k bytes of a journal are: all but the latest `lost` records, and of the next one a tail.
pub record Cut (rs : List Record) (k : ℕ) : Type 0 where
  pub lost : ℕ
  pub tail : List ℕ
  pub bytes : take k (journal_bytes rs) ≡ journal_bytes (drop lost rs) ++ tail
  -- nothing is lost, or the tail lacks bytes of the oldest lost record
  pub torn : ((lost ≡ 0) × (tail ≡ [])) ⊎ ((n : ℕ) × (r : Record) × (lost ≡ suc n) × (drop n rs ≡ r ∷ drop lost rs) × ProperBeginning r tail)
  -- a record is kept if all its bytes are
  pub keeps : (e : ℕ) → length (journal_bytes (drop e rs)) ≤ k → lost ≤ e

-- one beginning of some bytes and the rest
beginning : (r : Record) (m : ℕ) → m < length (record_bytes r) → ProperBeginning r (take m (record_bytes r))
beginning r m l = (drop m (record_bytes r), omega (arith, length-drop m (record_bytes r)), take-append-drop m (record_bytes r))

-- fewer bytes than the journal has lose something
short_loses : (rs : List Record) (k : ℕ) (c : Cut rs k) → k < length (journal_bytes rs) → c.lost ≡ 0 → c.tail ≡ [] → ⊥
short_loses rs k c l z t =
    let b : List ℕ = journal_bytes rs in
    let e : take k b ≡ b = c.bytes ∙ ap₂ (λ (d : ℕ) (x : List ℕ). journal_bytes (drop d rs) ++ x) z t ∙ append-nil b in
    omega (arith, ap length e, length-take k b)

pub cut : (rs : List Record) (k : ℕ) → Cut rs k
cut [] k = record {
  lost = 0;
  tail = [];
  bytes = ap (take k) journal_none ∙ take-nil k ∙ sym (append-nil (journal_bytes []) ∙ journal_none);
  torn = inl (refl, refl);
  keeps = λ e l. omega arith;
}
cut (r ∷ rs) k = go (dec_lt k (length (journal_bytes rs))) (dec_lt k (length (journal_bytes (r ∷ rs)))) (cut rs k)
  where
    go : Dec (k < length (journal_bytes rs)) → Dec (k < length (journal_bytes (r ∷ rs))) → Cut rs k → Cut (r ∷ rs) k
    go (yes p) d c = record {
      lost = suc c.lost;
      tail = c.tail;
      bytes = ap (take k) (journal_more r rs) ∙ take-append-le k (journal_bytes rs) (record_bytes r) (omega arith) ∙ c.bytes;
      torn = inr (older c.torn);
      keeps = kept;
    }
      where
        older : ((c.lost ≡ 0) × (c.tail ≡ [])) ⊎ ((n : ℕ) × (x : Record) × (c.lost ≡ suc n) × (drop n rs ≡ x ∷ drop c.lost rs) × ProperBeginning x c.tail)
            → (n : ℕ) × (x : Record) × (suc c.lost ≡ suc n) × (drop n (r ∷ rs) ≡ x ∷ drop (suc c.lost) (r ∷ rs)) × ProperBeginning x c.tail
        older (inl (z, e)) = absurd (short_loses rs k c p z e)
        older (inr (n, x, z, e, t)) = (suc n, x, ap suc z, e, t)

        kept : (e : ℕ) → length (journal_bytes (drop e (r ∷ rs))) ≤ k → suc c.lost ≤ e
        kept zero l = absurd (omega (arith, journal_length r rs))
        kept (suc e) l = omega (arith, c.keeps e l)
    go (no p) (yes q) c = record {
      lost = 1;
      tail = take (k - length (journal_bytes rs)) (record_bytes r);
      bytes = ap₂ take (seam (omega arith)) (journal_more r rs) ∙ take-append-add (journal_bytes rs) (record_bytes r) (k - length (journal_bytes rs));
      torn = inr (0, r, refl, refl, beginning r (k - length (journal_bytes rs)) (omega (arith, journal_length r rs)));
      keeps = kept;
    }
      where
        seam : length (journal_bytes rs) ≤ k → k ≡ length (journal_bytes rs) + (k - length (journal_bytes rs))
        seam l = omega arith

        kept : (e : ℕ) → length (journal_bytes (drop e (r ∷ rs))) ≤ k → 1 ≤ e
        kept zero l = absurd (omega arith)
        kept (suc e) l = omega arith
    go (no p) (no q) c = record {
      lost = 0;
      tail = [];
      bytes = take_all k (journal_bytes (r ∷ rs)) (omega arith) ∙ sym (append-nil (journal_bytes (r ∷ rs)));
      torn = inl (refl, refl);
      keeps = λ e l. omega arith;
    }

-- the records of what a cut leaves
pub cut_read : (rs : List Record) (k : ℕ) (c : Cut rs k) → AllInLimits rs → records_from (length (take k (journal_bytes rs))) (take k (journal_bytes rs)) 0 [] ≡ drop c.lost rs
cut_read rs k c h = go c.torn
  where
    first : (x : Record) (xs ys : List Record) → ys ≡ x ∷ xs → AllInLimits ys → InLimits x
    first x xs ys e a = (subst AllInLimits e a).0

    go : ((c.lost ≡ 0) × (c.tail ≡ [])) ⊎ ((n : ℕ) × (r : Record) × (c.lost ≡ suc n) × (drop n rs ≡ r ∷ drop c.lost rs) × ProperBeginning r c.tail)
        → records_from (length (take k (journal_bytes rs))) (take k (journal_bytes rs)) 0 [] ≡ drop c.lost rs
    go (inl (z, e)) = journal_read (drop c.lost rs) (take k (journal_bytes rs)) (limits_drop c.lost rs h)
        (c.bytes ∙ ap (λ (x : List ℕ). journal_bytes (drop c.lost rs) ++ x) e ∙ append-nil (journal_bytes (drop c.lost rs)))
    go (inr (n, r, z, e, b)) = journal_torn_read (drop c.lost rs) r c.tail (take k (journal_bytes rs)) (limits_drop c.lost rs h)
        (first r (drop c.lost rs) (drop n rs) e (limits_drop n rs h)) b c.bytes

-- ---- a journal that cuts may have torn

-- The bytes j hold the whole records rs, in their limits, and then a proper beginning of a record, perhaps empty.
pub record Holds (j : List ℕ) (rs : List Record) : Type 0 where
  pub limits : AllInLimits rs
  pub tail : List ℕ
  pub bytes : j ≡ journal_bytes rs ++ tail
  pub next : Record
  pub next_limits : InLimits next
  pub torn : ProperBeginning next tail

-- nothing is a proper beginning of every record
nothing : (r : Record) → ProperBeginning r []
nothing r = (record_bytes r, record_pos r, refl)

-- a journal without a torn record
pub holds_whole : (rs : List Record) (j : List ℕ) → AllInLimits rs → j ≡ journal_bytes rs → Holds j rs
holds_whole rs j h e = record {
  limits = h;
  tail = [];
  bytes = e ∙ sym (append-nil (journal_bytes rs));
  next = Start 0 0;
  next_limits = (omega arith, omega arith);
  torn = nothing (Start 0 0);
}

module _ {j : List ℕ} {rs : List Record} (h : Holds j rs) where
  pub holds_records : records_from (length j) j 0 [] ≡ rs
  holds_records = journal_torn_read rs h.next h.tail j h.limits h.next_limits h.torn h.bytes

  -- the whole records' bytes, without the torn one's
  pub holds_used : take (length (journal_bytes rs)) j ≡ journal_bytes rs
  holds_used = ap (take (length (journal_bytes rs))) h.bytes ∙ take_at (journal_bytes rs) h.tail (length (journal_bytes rs)) refl

  pub holds_end : record_at j (length (journal_bytes rs)) ≡ Err Torn
  holds_end = ap (λ (x : List ℕ). record_at x (length (journal_bytes rs))) h.bytes ∙ torn_beginning h.next (journal_bytes rs) h.tail h.next_limits h.torn

-- the same records
pub holds_same : {j : List ℕ} {rs ts : List Record} → Holds j rs → Holds j ts → rs ≡ ts
holds_same h k = sym (holds_records h) ∙ holds_records k

-- a beginning of a proper beginning is one
shorter : (r : Record) (tail : List ℕ) (m : ℕ) → ProperBeginning r tail → ProperBeginning r (take m tail)
shorter r tail m (rest, pos, e) = (
  drop m tail ++ rest,
  omega (arith, length-append (drop m tail) rest),
  sym (append_assoc (take m tail) (drop m tail) rest) ∙ ap (λ (x : List ℕ). x ++ rest) (take-append-drop m tail) ∙ e,
)

-- a cut leaves all but the latest d records, with none lost whose bytes are all left
pub holds_cut : (j : List ℕ) (rs : List Record) (k : ℕ) → Holds j rs
    → (d : ℕ) × Holds (take k j) (drop d rs) × ((e : ℕ) → length (journal_bytes (drop e rs)) ≤ k → d ≤ e)
holds_cut j rs k h = go (dec_lt k (length (journal_bytes rs)))
  where
    inside : k < length (journal_bytes rs) → (c : Cut rs k)
        → ((c.lost ≡ 0) × (c.tail ≡ [])) ⊎ ((n : ℕ) × (r : Record) × (c.lost ≡ suc n) × (drop n rs ≡ r ∷ drop c.lost rs) × ProperBeginning r c.tail)
        → Holds (take k j) (drop c.lost rs)
    inside l c (inl (z, e)) = absurd (short_loses rs k c l z e)
    inside l c (inr (n, r, z, e, b)) = record {
      limits = limits_drop c.lost rs h.limits;
      tail = c.tail;
      bytes = ap (take k) h.bytes ∙ take-append-le k (journal_bytes rs) h.tail (omega arith) ∙ c.bytes;
      next = r;
      next_limits = (subst AllInLimits e (limits_drop n rs h.limits)).0;
      torn = b;
    }

    go : Dec (k < length (journal_bytes rs)) → (d : ℕ) × Holds (take k j) (drop d rs) × ((e : ℕ) → length (journal_bytes (drop e rs)) ≤ k → d ≤ e)
    go (yes l) = let c = cut rs k in (c.lost, inside l c c.torn, c.keeps)
    go (no l) = (
      0,
      record {
        limits = h.limits;
        tail = take (k - length (journal_bytes rs)) h.tail;
        bytes = ap₂ take (seam (omega arith)) h.bytes ∙ take-append-add (journal_bytes rs) h.tail (k - length (journal_bytes rs));
        next = h.next;
        next_limits = h.next_limits;
        torn = shorter h.next h.tail (k - length (journal_bytes rs)) h.torn;
      },
      λ e p. omega arith,
    )
      where
        seam : length (journal_bytes rs) ≤ k → k ≡ length (journal_bytes rs) + (k - length (journal_bytes rs))
        seam p = omega arith

-- ---- writing

-- a record written into the journal's unused part is the latest
pub journal_append : (l : List ℕ) (used : ℕ) (r : Record) (rs : List Record) → used + length (record_bytes r) ≤ length l → take used l ≡ journal_bytes rs
    → take (used + length (record_bytes r)) (put_at l used (record_bytes r)) ≡ journal_bytes (r ∷ rs)
unfolding put_at
journal_append l used r rs h e =
    let b : List ℕ = record_bytes r in
    let n : length (take used l ++ b) ≡ used + length b = omega (arith, length-append (take used l) b, length-take used l) in
    ap (take (used + length b)) (sym (append_assoc (take used l) b (drop (used + length b) l)))
    ∙ take_at (take used l ++ b) (drop (used + length b) l) (used + length b) n
    ∙ ap (λ (x : List ℕ). x ++ b) e
    ∙ sym (journal_more r rs)

-- ---- any bytes

-- the records that are read of any bytes are those of a beginning of them
pub bytes_begin : (j : List ℕ) → AllBytes j → Begins j (records_from (length j) j 0 [])
unfolding records_from
bytes_begin j h = from (length j) 0 [] tt (omega arith) (sym journal_none) (omega arith)
  where
    here : (at : ℕ) (acc : List Record) → AllInLimits acc → at ≤ length j → take at j ≡ journal_bytes acc
        → (record_at j at ≡ Err Torn) ⊎ (record_at j at ≡ Err Bad) → Begins j acc
    here at acc a l e o =
        let n : at ≡ length (journal_bytes acc) = omega (arith, ap length e, length-take at j) in
        record {
          limits = a;
          inside = omega arith;
          bytes = ap (λ (x : ℕ). take x j) (sym n) ∙ e;
          end = subst (λ (x : ℕ). (record_at j x ≡ Err Torn) ⊎ (record_at j x ≡ Err Bad)) n o;
        }

    from : (f at : ℕ) (acc : List Record) → AllInLimits acc → at ≤ length j → take at j ≡ journal_bytes acc → length j ≤ at + f → Begins j (records_from f j at acc)
    from zero at acc a l e g = here at acc a l e (inl (ap (record_at j) (omega arith) ∙ record_at_end j))
    from (suc f) at acc a l e g = go (record_at j at) refl (λ next r. from f next (r ∷ acc))
      where
        go : (x : RecordRead) → record_at j at ≡ x
            → ((next : ℕ) (r : Record) → AllInLimits (r ∷ acc) → next ≤ length j → take next j ≡ journal_bytes (r ∷ acc) → length j ≤ next + f → Begins j (records_from f j next (r ∷ acc)))
            → Begins j (with_record x acc (λ r next. records_from f j next (r ∷ acc)))
        go (Ok x) i rec =
            let r : Record = x.value in
            let next : ℕ = x.next in
            let w = record_was_written j at r next h i in
            let n : next ≡ at + (next - at) = omega (arith, w.longer) in
            rec next r (w.limits, a) w.inside
            (ap (λ (x : ℕ). take x j) n ∙ take-add at (next - at) j ∙ ap₂ (λ (x y : List ℕ). x ++ y) e w.bytes ∙ sym (journal_more r acc))
            (omega (arith, w.longer))
        go (Err Torn) i rec = here at acc a l e (inl i)
        go (Err Bad) i rec = here at acc a l e (inr i)
