-- The definitions of journal records, case by case.
use mathlib.Core.Path.{◌≡◌, sym, ap, ◌∙◌}
use mathlib.Core.List.{List, ◌++◌}
use Prim.Native.Nat.{ℕ, ◌+◌, ◌≤◌, ◌<◌}
use native.Mathlib.Omega.{arith}
use lib.Dec.{eqb}
use lib.ListN.{length, length-append}
use borrow.Author.Tests.{eq-eqb, ne_eqb}
use Rattle.base.specs.Pick.{pick}
use Rattle.base.specs.Put.{put_at}
use Rattle.base.proofs.Puts.{then_put}
use Rattle.varint.specs.Varint.{varint_bytes}
use Rattle.varint.proofs.Laws.{same_parsed, length_last, pieces_most}
use Rattle.varint.specs.declared.Parsed.{Parsed}
use Rattle.format.specs.declared.Failure.{Failure}
use Rattle.format.specs.Format.{Format}
use Rattle.format.specs.Reading.{whole, read_at}
use Rattle.format.proofs.Saying.{say_read, saying_read}
use Rattle.message.specs.declared.Message.{Message}
use Rattle.message.specs.Message.{kind_of, message_bytes}
use Rattle.message.specs.Format.{message_format}
use Rattle.message.specs.Reading.{message_at}
use Rattle.message.proofs.Laws.{message_length, value_most}
use Rattle.journal.specs.declared.Record.{Record}
use Rattle.journal.specs.declared.Record.TheVariants.{Start, Taken}
use Rattle.std.specs.Prelude.{Ok, Err}
use Rattle.journal.specs.Reading.{whole_record}
use Rattle.journal.specs.Journal.{record_bytes}
use Rattle.journal.specs.Format.{start_format, from_sender, taken_format}

-- ---- reading

-- a taken message that is read, or fails
taken_as : (b : ℕ) (s : List ℕ) (at : ℕ) → read_at (from_sender b) s at ≡ say_read (Taken b) (message_at s at)
unfolding message_at
taken_as b s at = saying_read (Taken b) message_format s at

pub taken_read : (b : ℕ) (s : List ℕ) (at : ℕ) {r : Parsed Message} → message_at s at ≡ Ok r → whole (Taken b r.value) r.next ≡ read_at (from_sender b) s at
taken_read b s at e = ap (say_read (Taken b)) (sym e) ∙ sym (taken_as b s at)

pub taken_fails : (b : ℕ) (s : List ℕ) (at : ℕ) {x : Failure} → message_at s at ≡ Err x → Err x ≡ read_at (from_sender b) s at
taken_fails b s at e = ap (say_read (Taken b)) (sym e) ∙ sym (taken_as b s at)

-- tag 1 is a start, the other a taken message
abbrev pub after_tag : ℕ → Format Record
after_tag tag = pick (eqb tag 1) start_format taken_format

pub tag_start : (k : ℕ) → k ≡ 1 → after_tag k ≡ start_format
tag_start k e = rw (eq-eqb k 1 e)

pub tag_taken : (k : ℕ) → (k ≡ 1 → ⊥) → after_tag k ≡ taken_format
tag_taken k d = rw (ne_eqb k 1 d)

-- records that are read alike are the same and end at the same place
pub same_record : {x y : Record} {m n : ℕ} → whole_record x m ≡ whole_record y n → (x ≡ y) × (m ≡ n)
same_record e = same_parsed e

-- ---- lengths

-- how many bytes a record has
pub start_length : (agreement x : ℕ) → length (record_bytes (Start agreement x)) ≡ 1 + length (varint_bytes agreement) + length (varint_bytes x)
unfolding record_bytes
start_length agreement x = simp (length-append, length_last 1 (omega arith))

pub taken_length : (sender : ℕ) (m : Message) → length (record_bytes (Taken sender m)) ≡ 1 + length (varint_bytes sender) + length (message_bytes m)
unfolding record_bytes
taken_length sender m = simp (length-append, length_last 2 (omega arith))

-- its tag has one, and the number after it the rest of its head
pub head_length : (tag number : ℕ) → tag < 128 → length (varint_bytes tag ++ varint_bytes number) ≡ 1 + length (varint_bytes number)
head_length tag number h = simp (length-append, length_last tag h)

-- written head first: from the first byte of l on, so that l1 and then l2 come of it
abbrev pub Written : List ℕ → ℕ → List ℕ → ℕ → List ℕ → Type 0
Written l at bs r l1 = (r ≡ at + length bs) × (l1 ≡ put_at l at bs)

module _ (l l1 l2 : List ℕ) where
  pub start_put : (a x i k : ℕ) → length (record_bytes (Start a x)) ≤ length l → (i ≡ length (varint_bytes 1 ++ varint_bytes a)) × (l1 ≡ put_at l 0 (varint_bytes 1 ++ varint_bytes a))
      → Written l1 i (varint_bytes x) k l2 → (k ≡ length (record_bytes (Start a x))) × (l2 ≡ put_at l 0 (record_bytes (Start a x)))
  unfolding record_bytes
  start_put a x i k f h w =
      let n = start_length a x in
      let m = head_length 1 a (omega arith) in
      (omega (arith, h.0, w.0), then_put l l1 l2 0 i (varint_bytes 1 ++ varint_bytes a) (varint_bytes x) (omega arith) h.1 (omega (arith, h.0)) w.1)

  pub taken_put : (s n : ℕ) (m : Message) (i k : ℕ) → n ≡ s → length (record_bytes (Taken s m)) ≤ length l
      → (i ≡ length (varint_bytes 2 ++ varint_bytes n)) × (l1 ≡ put_at l 0 (varint_bytes 2 ++ varint_bytes n))
      → Written l1 i (message_bytes m) k l2 → (k ≡ length (record_bytes (Taken s m))) × (l2 ≡ put_at l 0 (record_bytes (Taken s m)))
  unfolding record_bytes
  taken_put s n m i k e f h w =
      let d : varint_bytes 2 ++ varint_bytes n ≡ varint_bytes 2 ++ varint_bytes s = ap (λ (x : ℕ). varint_bytes 2 ++ varint_bytes x) e in
      let c = taken_length s m in
      let b = head_length 2 s (omega arith) in
      let g : i ≡ length (varint_bytes 2 ++ varint_bytes s) = h.0 ∙ ap length d in
      (omega (arith, g, w.0), then_put l l1 l2 0 i (varint_bytes 2 ++ varint_bytes s) (message_bytes m) (omega arith) (h.1 ∙ ap (put_at l 0) d) (omega (arith, g)) w.1)

-- a message has at most four varints, in the table or not
pub message_most : (m : Message) → length (message_bytes m) ≤ 20
message_most m = omega (arith, message_length m, pieces_most 4 m.number, pieces_most 4 m.level, pieces_most 4 (kind_of m.body), value_most m.body)
