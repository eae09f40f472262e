-- Writing a message and reading it are inverse: its format is spelled by its bytes alone.
use mathlib.Core.Path.{◌≡◌, refl, sym, ap, ap₂, ◌∙◌, subst}
use mathlib.Core.Bool.{Bool, true, false, ◌&&◌}
use mathlib.Core.List.{List, [], ◌++◌, append_assoc, append-nil}
use Prim.Native.Nat.{ℕ, zero, suc, ◌+◌, ◌-◌, ◌<◌, ◌≤◌, ◌^◌}
use native.Mathlib.Omega.{arith}
use native.Mathlib.Decide.{ℕ_discrete}
use lib.Dec.{T, leb, eqb, leb→le}
use lib.ListN.{length, take, drop}
use borrow.Author.Tests.{eqb-true, le-leb}
use Rattle.base.specs.Pick.{pick}
use Rattle.base.specs.Limits.{max_number}
use Rattle.base.proofs.Bools.{T-left, T-right, T→true, true→T}
use Rattle.base.proofs.Parts.{part_all}
use Rattle.varint.specs.Varint.{AllBytes, varint_bytes}
use Rattle.varint.proofs.Laws.{length_last, pieces_most}
use Rattle.varint.proofs.RoundTrip.{value_place}
use Rattle.format.specs.declared.Fault.{Fault}
use Rattle.format.specs.Format.{Spells}
use Rattle.format.specs.Reading.{Read, whole, read_at}
use Rattle.format.specs.Statement.{Sensible, Reads}
use Rattle.format.proofs.Reading.{whole_spelled, whole_place, whole_first}
use Rattle.format.proofs.Theorem as formats
use Rattle.message_values.specs.Values.{value_low, value_high}
use Rattle.message.specs.declared.Body.{Body}
use Rattle.message.specs.declared.Body.TheVariants.{FirstEcho, FirstProposal, SecondEcho, SecondProposal, Side, Centre}
use Rattle.message.specs.declared.Message.{Message}
use Rattle.std.specs.Prelude.{Ok, Err}
use Rattle.message.specs.Message.{last_level, kind_of, value_bytes, body_in_table, in_table, message_bytes}
use Rattle.message.specs.Format.{value_of, body_of, from_kind, from_number, message_format}
use Rattle.message.specs.Reading.{Exactly, broken, message_at, exactly, exact_message}
use Rattle.message.proofs.Laws.{bytes_with, bytes_without, table_with, kind_without, kind_with, high_most, low_high, read_exactly, exactly_one, message_length}

-- ---- the table

-- a body is its kind and its value
pub body_same : (b : Body) → body_of (kind_of b) (value_of b) ≡ b
body_same (FirstEcho v) = refl
body_same (FirstProposal v) = refl
body_same (SecondEcho v) = refl
body_same (SecondProposal v) = refl
body_same (Side v) = refl
body_same Centre = refl

pub kind_limits : (b : Body) → (1 ≤ kind_of b) × (kind_of b ≤ 6)
kind_limits (FirstEcho v) = (omega arith, omega arith)
kind_limits (FirstProposal v) = (omega arith, omega arith)
kind_limits (SecondEcho v) = (omega arith, omega arith)
kind_limits (SecondProposal v) = (omega arith, omega arith)
kind_limits (Side v) = (omega arith, omega arith)
kind_limits Centre = (omega arith, omega arith)

pub centre_only : (b : Body) → kind_of b ≡ 6 → b ≡ Centre
centre_only (FirstEcho v) e = absurd (omega arith)
centre_only (FirstProposal v) e = absurd (omega arith)
centre_only (SecondEcho v) e = absurd (omega arith)
centre_only (SecondProposal v) e = absurd (omega arith)
centre_only (Side v) e = absurd (omega arith)
centre_only Centre e = refl

-- the kind and the value of a body that is made of them
pub made_of : (k v : ℕ) → 1 ≤ k → k < 6 → (kind_of (body_of k v) ≡ k) × (value_of (body_of k v) ≡ v)
made_of zero v p q = absurd (omega arith)
made_of (suc zero) v p q = (refl, refl)
made_of (suc (suc zero)) v p q = (refl, refl)
made_of (suc (suc (suc zero))) v p q = (refl, refl)
made_of (suc (suc (suc (suc zero)))) v p q = (refl, refl)
made_of (suc (suc (suc (suc (suc zero))))) v p q = (refl, refl)
made_of (suc (suc (suc (suc (suc (suc k)))))) v p q = absurd (omega arith)

pub value_limits : (b : Body) → (kind_of b ≡ 6 → ⊥) → body_in_table b ≡ true → (value_low (kind_of b) ≤ value_of b) × (value_of b ≤ value_high (kind_of b))
value_limits b d e =
    let low : Bool = leb (value_low (kind_of b)) (value_of b) in
    let high : Bool = leb (value_of b) (value_high (kind_of b)) in
    let t : T (low && high) = true→T (sym (table_with b d) ∙ e) in
    (leb→le (value_low (kind_of b)) (value_of b) (T-left low high t), leb→le (value_of b) (value_high (kind_of b)) (T-right low high t))

pub in_limits : (b : Body) → (kind_of b ≡ 6 → ⊥) → value_low (kind_of b) ≤ value_of b → value_of b ≤ value_high (kind_of b) → body_in_table b ≡ true
in_limits b d l h = table_with b d ∙ ap₂ (λ (x y : Bool). x && y) (le-leb (value_low (kind_of b)) (value_of b) l) (le-leb (value_of b) (value_high (kind_of b)) h)

pub table_parts : (m : Message) → in_table m ≡ true → (m.level ≤ last_level) × (body_in_table m.body ≡ true)
table_parts m e =
    let level : Bool = leb m.level last_level in
    let body : Bool = body_in_table m.body in
    (leb→le m.level last_level (T-left level body (true→T e)), T→true body (T-right level body (true→T e)))

pub parts_table : (m : Message) → m.level ≤ last_level → body_in_table m.body ≡ true → in_table m ≡ true
parts_table m l e = ap₂ (λ (x y : Bool). x && y) (le-leb m.level last_level l) e

-- ---- the format and the bytes

joined : (n l k v : List ℕ) → ((n ++ l) ++ k) ++ v ≡ n ++ (l ++ (k ++ v))
joined n l k v = simp append_assoc

-- a value that is spelled, after number n, level l and kind k
record Said (n l k : ℕ) (bs : List ℕ) (m : Message) : Type 0 where
  number : n ≡ m.number
  level : l ≡ m.level
  kind : k ≡ kind_of m.body
  table : body_in_table m.body ≡ true
  bytes : bs ≡ value_bytes m.body

value_said : (n l k : ℕ) → 1 ≤ k → k ≤ 6 → (bs : List ℕ) (m : Message) → Spells (from_kind n l k) bs m → Said n l k bs m
value_said n l k p q bs m g = go (ℕ_discrete k 6)
  where
    go : Dec (k ≡ 6) → Said n l k bs m
    go (yes z) =
        let s = subst (λ f. Spells f bs m) (kind_without n l k z) g in
        let e = s.1 in
        let b : Centre ≡ m.body = ap (λ (x : Message). x.body) e in
        record {
          number = ap (λ (x : Message). x.number) e;
          level = ap (λ (x : Message). x.level) e;
          kind = z ∙ ap kind_of b;
          table = ap body_in_table (sym b);
          bytes = s.0 ∙ ap value_bytes b;
        }
    go (no d) =
        let s = subst (λ f. Spells f bs m) (kind_with n l k d) g in
        let v : ℕ = s.0 in
        let e = s.5.1 in
        let b : body_of k v ≡ m.body = ap (λ (x : Message). x.body) e in
        let i = made_of k v p (omega arith) in
        let ek : kind_of m.body ≡ k = ap kind_of (sym b) ∙ i.0 in
        let ev : value_of m.body ≡ v = ap value_of (sym b) ∙ i.1 in
        let c : kind_of m.body ≡ 6 → ⊥ = λ z. d (sym ek ∙ z) in
        record {
          number = ap (λ (x : Message). x.number) e;
          level = ap (λ (x : Message). x.level) e;
          kind = sym ek;
          table = in_limits m.body c (omega (arith, ap value_low ek, s.1, ev)) (omega (arith, ap value_high ek, s.2, ev));
          bytes = s.4 ∙ ap (λ (x : List ℕ). varint_bytes v ++ x) s.5.0 ∙ append-nil (varint_bytes v) ∙ ap varint_bytes (sym ev) ∙ sym (bytes_with m.body c);
        }

-- what is spelled is a message of the table, by its bytes
pub spelled : (bs : List ℕ) (m : Message) → Spells message_format bs m → (in_table m ≡ true) × (m.number ≤ max_number) × (bs ≡ message_bytes m)
unfolding message_bytes
spelled bs m (n, p0, p1, bs1, e1, (l, q0, q1, bs2, e2, (k, r0, r1, bs3, e3, g))) =
    let s = value_said n l k r0 r1 bs3 m g in (
      parts_table m (omega (arith, s.level)) s.table,
      omega (arith, s.number),
      e1
          ∙ ap₂ (λ (x y : List ℕ). x ++ y) (ap varint_bytes s.number)
          (e2 ∙ ap₂ (λ (x y : List ℕ). x ++ y) (ap varint_bytes s.level) (e3 ∙ ap₂ (λ (x y : List ℕ). x ++ y) (ap varint_bytes s.kind) s.bytes))
          ∙ sym (joined (varint_bytes m.number) (varint_bytes m.level) (varint_bytes (kind_of m.body)) (value_bytes m.body)),
    )

-- a message of the table is spelled by its bytes
pub spells : (m : Message) → in_table m ≡ true → m.number ≤ max_number → Spells message_format (message_bytes m) m
unfolding message_bytes
spells m t h =
    let w = table_parts m t in
    let c = kind_limits m.body in
    let n : List ℕ = varint_bytes m.number in
    let l : List ℕ = varint_bytes m.level in
    let k : List ℕ = varint_bytes (kind_of m.body) in
    let v : List ℕ = value_bytes m.body in
    (m.number, omega arith, h, l ++ (k ++ v), joined n l k v, (m.level, omega arith, w.0, k ++ v, refl, (kind_of m.body, c.0, c.1, v, refl, value m.body w.1 refl)))
  where
    value : (b : Body) → body_in_table b ≡ true → b ≡ m.body → Spells (from_kind m.number m.level (kind_of b)) (value_bytes b) m
    value b u e = go (ℕ_discrete (kind_of b) 6)
      where
        go : Dec (kind_of b ≡ 6) → Spells (from_kind m.number m.level (kind_of b)) (value_bytes b) m
        go (yes z) =
            let o : Centre ≡ m.body = sym (centre_only b z) ∙ e in
            subst (λ f. Spells f (value_bytes b) m) (sym (kind_without m.number m.level (kind_of b) z))
            (bytes_without b z, ap (λ (x : Body). record { number = m.number; level = m.level; body = x }) o)
        go (no d) =
            let i = value_limits b d u in
            let o : body_of (kind_of b) (value_of b) ≡ m.body = body_same b ∙ e in
            subst (λ f. Spells f (value_bytes b) m) (sym (kind_with m.number m.level (kind_of b) d))
            (value_of b, i.0, i.1, [], bytes_with b d ∙ sym (append-nil (varint_bytes (value_of b))), (refl, ap (λ (x : Body). record { number = m.number; level = m.level; body = x }) o))

-- the limits of every field admit a value of one byte
pub sensible : Sensible message_format
sensible = (
  omega arith,
  omega arith,
  omega arith,
  λ n _ _. (omega arith, omega arith, omega arith, λ l _ _. (omega arith, omega arith, omega arith, λ k _ _. value n l k (ℕ_discrete k 6))),
)
  where
    value : (n l k : ℕ) → Dec (k ≡ 6) → Sensible (from_kind n l k)
    value n l k (yes z) = subst (λ f. Sensible f) (sym (kind_without n l k z)) tt
    value n l k (no d) = subst (λ f. Sensible f) (sym (kind_with n l k d)) ((low_high k).1, (low_high k).0, omega (arith, high_most k), λ v _ _. tt)

pub by_format : Reads message_format
by_format = formats.reads message_format sensible

-- ---- what is written is read back

pub message_read : (m : Message) (p q : List ℕ) → in_table m ≡ true → m.number < 2 ^ 32
    → message_at (p ++ (message_bytes m ++ q)) (length p) ≡ whole m (length p + length (message_bytes m))
unfolding message_at
message_read m p q t h = (by_format.written (message_bytes m) m p q (spells m t (omega arith)))

-- ---- what is read was written

module _ (s : List ℕ) (at : ℕ) (m : Message) (next : ℕ) (e : message_at s at ≡ whole m next) where
  by_reading : read_at message_format s at ≡ whole m next
  unfolding message_at
  by_reading = e

  -- it ends past its first byte and within the bytes
  pub message_place : (at < next) × (next ≤ length s)
  message_place =
      let w = whole_first 0 max_number from_number s at m next by_reading in
      let p = value_place 5 s at w.0 w.1 w.4 in
      let q = whole_place (from_number w.0) s w.1 m next p.1 w.5 in
      (omega (arith, p.0, q.0), q.1)

  -- it is in the table
  pub message_table : in_table m ≡ true
  message_table = let w = whole_spelled message_format s at m next by_reading in (spelled w.0 m w.1).0

  -- what is read as m is the message m, which is in the table
  pub message_was_written : AllBytes s → (in_table m ≡ true) × (m.number < 2 ^ 32) × (at < next) × (next ≤ length s) × (take (next - at) (drop at s) ≡ message_bytes m)
  message_was_written h =
      let p = message_place in
      let w = by_format.only s at m next h (omega (arith, p.0, p.1)) by_reading in
      let b = spelled w.0 m w.1 in
      (b.0, omega (arith, b.1), p.0, p.1, w.2.2 ∙ b.2)

-- ---- bytes that are exactly one message

exactly_inverse : (s : List ℕ) (r : Read Message) (m : Message) → exactly s r ≡ Ok m → r ≡ whole m (length s)
exactly_inverse s (Ok r) m e = go (eqb r.next (length s)) refl e
  where
    go : (b : Bool) → eqb r.next (length s) ≡ b → ◌≡◌ {A = Exactly} (pick b (Ok r.value) (broken Fault.Spare r.next)) (Ok m) → ◌≡◌ {A = Read Message} (Ok r) (whole m (length s))
    go true p e = let f : r.value ≡ m = cc in ap₂ whole f (eqb-true r.next (length s) p)
    go false p e = let z : ◌≡◌ {A = ℕ} 0 1 = cc in absurd (omega arith)
exactly_inverse s (Err x) m e = let z : ◌≡◌ {A = ℕ} 0 1 = cc in absurd (omega arith)

-- it is read from the first byte on
pub exact_message_at : (s : List ℕ) (m : Message) → exact_message s ≡ Ok m → message_at s 0 ≡ whole m (length s)
unfolding exact_message
exact_message_at s m e = exactly_inverse s (message_at s 0) m e

pub exact_message_written : (s : List ℕ) (m : Message) → AllBytes s → exact_message s ≡ Ok m → (in_table m ≡ true) × (m.number < 2 ^ 32) × (s ≡ message_bytes m)
exact_message_written s m h e =
    let r = message_was_written s 0 m (length s) (exact_message_at s m e) h in
    (r.0, r.1, sym (part_all s) ∙ r.4)

pub exact_message_read : (m : Message) → in_table m ≡ true → m.number < 2 ^ 32 → exact_message (message_bytes m) ≡ Ok m
exact_message_read m t h =
    let s : List ℕ = message_bytes m in
    let e : message_at s 0 ≡ whole m (0 + length s) = ap (λ (x : List ℕ). message_at x 0) (sym (append-nil s)) ∙ message_read m [] [] t h in
    sym (read_exactly s e) ∙ exactly_one s m (0 + length s) (omega arith)

-- messages with the same bytes are the same
pub message_bytes_injective : (m o : Message) → in_table m ≡ true → m.number < 2 ^ 32 → in_table o ≡ true → o.number < 2 ^ 32 → message_bytes m ≡ message_bytes o → m ≡ o
message_bytes_injective m o t h u k e =
    let f : ◌≡◌ {A = Exactly} (Ok m) (Ok o) = sym (exact_message_read m t h) ∙ ap exact_message e ∙ exact_message_read o u k in
    cc

-- ---- a message of the table has at most 8 bytes: 5 for the number, 1 each for level, kind and value

pub message_length_most : (m : Message) → in_table m ≡ true → length (message_bytes m) ≤ 8
message_length_most m t =
    let w = table_parts m t in
    let c = kind_limits m.body in
    omega (arith, message_length m, pieces_most 4 m.number, length_last m.level (omega (arith, w.0)), length_last (kind_of m.body) (omega (arith, c.1)), value (ℕ_discrete (kind_of m.body) 6) w.1)
  where
    value : Dec (kind_of m.body ≡ 6) → body_in_table m.body ≡ true → length (value_bytes m.body) ≤ 1
    value (yes e) u = omega (arith, ap length (bytes_without m.body e))
    value (no d) u =
        let l = value_limits m.body d u in
        omega (arith, ap length (bytes_with m.body d), length_last (value_of m.body) (omega (arith, l.1, high_most (kind_of m.body))))
