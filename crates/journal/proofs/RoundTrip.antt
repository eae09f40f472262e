-- Writing a record and reading it are inverse: its format is spelled by its bytes alone.
use mathlib.Core.Path.{◌≡◌, refl, sym, ap, ap₂, ◌∙◌, subst}
use mathlib.Core.List.{List, [], ◌++◌, append_assoc, append-nil}
use Prim.Native.Nat.{ℕ, ◌+◌, ◌-◌, ◌<◌, ◌≤◌}
use native.Mathlib.Omega.{arith}
use native.Mathlib.Decide.{ℕ_discrete}
use lib.ListN.{length, take, drop}
use Rattle.varint.specs.Varint.{AllBytes, varint_bytes}
use Rattle.varint.proofs.RoundTrip.{value_place}
use Rattle.format.specs.Format.{Spells}
use Rattle.format.specs.Reading.{Read, whole, read_at}
use Rattle.format.specs.Statement.{Sensible, Reads}
use Rattle.format.proofs.Reading.{whole_first, whole_place}
use Rattle.format.proofs.Saying.{saying_spells, saying_spelled, saying_sensible}
use Rattle.format.proofs.Theorem as formats
use Rattle.message.specs.Message.{message_bytes}
use Rattle.message.specs.Format.{message_format}
use Rattle.message.proofs.RoundTrip as messages
use Rattle.journal.specs.declared.Record.{Record}
use Rattle.journal.specs.declared.Record.TheVariants.{Start, Taken}
use Rattle.std.specs.Prelude.{Ok, Err}
use Rattle.journal.specs.Journal.{record_bytes}
use Rattle.journal.specs.Format.{start_format, taken_format, record_format}
use Rattle.journal.specs.Reading.{whole_record, as_read, record_at}
use Rattle.journal.specs.Records.{InLimits}
use Rattle.journal.proofs.Laws.{after_tag, tag_start, tag_taken}

-- ---- the format and the bytes

-- a record in its limits is spelled by its bytes
pub spells : (r : Record) → InLimits r → Spells record_format (record_bytes r) r
unfolding record_bytes
spells (Start a x) (ha, hx) =
    let b : List ℕ = varint_bytes x in (
      1,
      omega arith,
      omega arith,
      varint_bytes a ++ b,
      append_assoc (varint_bytes 1) (varint_bytes a) b,
      (a, omega arith, ha, b, refl, (x, omega arith, hx, [], sym (append-nil b), (refl, refl))),
    )
spells (Taken s m) (hs, (ht, hn)) =
    let b = message_bytes m in (
      2,
      omega arith,
      omega arith,
      varint_bytes s ++ b,
      append_assoc (varint_bytes 2) (varint_bytes s) b,
      (s, omega arith, hs, b, refl, saying_spells (Taken s) message_format b m (messages.spells m ht hn)),
    )

-- what is spelled is a record in its limits, by its bytes
pub spelled : (bs : List ℕ) (r : Record) → Spells record_format bs r → InLimits r × (bs ≡ record_bytes r)
unfolding record_bytes
spelled bs r (k, p, q, bs1, e, g) = go (ℕ_discrete k 1)
  where
    Is : Record → Type 0
    Is x = InLimits x × (bs ≡ record_bytes x)

    start : k ≡ 1 → Spells start_format bs1 r → Is r
    start z (a, _, ha, bs2, e2, (x, _, hx, bs3, e3, (e4, o))) =
        subst Is o (
          (ha, hx),
          e
              ∙ ap₂ (λ (y w : List ℕ). y ++ w) (ap varint_bytes z) (e2 ∙ ap (λ (y : List ℕ). varint_bytes a ++ y) (e3 ∙ ap (λ (y : List ℕ). varint_bytes x ++ y) e4 ∙ append-nil (varint_bytes x)))
              ∙ sym (append_assoc (varint_bytes 1) (varint_bytes a) (varint_bytes x)),
        )

    taken : k ≡ 2 → Spells taken_format bs1 r → Is r
    taken z (s, _, hs, bs2, e2, g2) =
        let w = saying_spelled (Taken s) message_format bs2 r g2 in
        let u = messages.spelled bs2 w.0 w.2 in
        subst Is w.1 (
          (hs, (u.0, u.1)),
          e ∙ ap₂ (λ (y w : List ℕ). y ++ w) (ap varint_bytes z) (e2 ∙ ap (λ (y : List ℕ). varint_bytes s ++ y) u.2) ∙ sym (append_assoc (varint_bytes 2) (varint_bytes s) (message_bytes w.0)),
        )

    go : Dec (k ≡ 1) → Is r
    go (yes z) = start z (subst (λ f. Spells f bs1 r) (tag_start k z) g)
    go (no d) = taken (omega arith) (subst (λ f. Spells f bs1 r) (tag_taken k d) g)

-- the limits of every field admit a value of one byte
pub sensible : Sensible record_format
sensible = (omega arith, omega arith, omega arith, λ k _ _. go k (ℕ_discrete k 1))
  where
    start : Sensible start_format
    start = (omega arith, omega arith, omega arith, λ a _ _. (omega arith, omega arith, omega arith, λ x _ _. tt))

    taken : Sensible taken_format
    taken = (omega arith, omega arith, omega arith, λ s _ _. saying_sensible (Taken s) message_format messages.sensible)

    go : (k : ℕ) → Dec (k ≡ 1) → Sensible (after_tag k)
    go k (yes z) = subst (λ f. Sensible f) (sym (tag_start k z)) start
    go k (no d) = subst (λ f. Sensible f) (sym (tag_taken k d)) taken

pub by_format : Reads record_format
by_format = formats.reads record_format sensible

-- ---- what is written is read back

pub record_read : (r : Record) (p q : List ℕ) → InLimits r → record_at (p ++ (record_bytes r ++ q)) (length p) ≡ whole_record r (length p + length (record_bytes r))
unfolding record_at
record_read r p q h = ap as_read (by_format.written (record_bytes r) r p q (spells r h))

-- ---- what is read was written

-- what the format finds where a record is read
read_whole : (x : Read Record) (r : Record) (next : ℕ) → as_read x ≡ whole_record r next → x ≡ whole r next
read_whole (Ok y) r next e = cc
read_whole (Err x) r next e = let z : ◌≡◌ {A = ℕ} 0 1 = cc in absurd (omega arith)

-- r, in its limits, stands from `at` to `next`
pub record Written (s : List ℕ) (at : ℕ) (r : Record) (next : ℕ) : Type 0 where
  pub limits : InLimits r
  pub longer : at < next
  pub inside : next ≤ length s
  pub bytes : take (next - at) (drop at s) ≡ record_bytes r

module _ (s : List ℕ) (at : ℕ) (r : Record) (next : ℕ) where
  by_reading : record_at s at ≡ whole_record r next → read_at record_format s at ≡ whole r next
  unfolding record_at
  by_reading e = read_whole (read_at record_format s at) r next e

  -- a record that is read ends past its first byte and within the bytes
  pub record_place : record_at s at ≡ whole_record r next → (at < next) × (next ≤ length s)
  record_place e =
      let w = whole_first 1 2 after_tag s at r next (by_reading e) in
      let p = value_place 5 s at w.0 w.1 w.4 in
      let q = whole_place (after_tag w.0) s w.1 r next p.1 w.5 in
      (omega (arith, p.0, q.0), q.1)

  -- what is read as r is the record r, in its limits
  pub record_was_written : AllBytes s → record_at s at ≡ whole_record r next → Written s at r next
  record_was_written h e =
      let p = record_place e in
      let w = by_format.only s at r next h (omega (arith, p.0, p.1)) (by_reading e) in
      let b = spelled w.0 r w.1 in
      record { limits = b.0; longer = p.0; inside = p.1; bytes = w.2.2 ∙ b.1 }
