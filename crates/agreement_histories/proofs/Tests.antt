-- What the tests of actions tell.
use mathlib.Core.Path.{◌≡◌, refl, sym, ap, ap₂, ◌∙◌, subst}
use mathlib.Core.Logic.{◌⊎◌, inl, inr}
use mathlib.Core.Bool.{Bool, not, ◌&&◌}
use mathlib.Core.List.{List, [], ◌∷◌, Memᴰ}
use Prim.Native.Nat.{ℕ}
use lib.Dec.{T, ltb, eqb, ltb→lt, lt→ltb, eqb→eq}
use lib.ListN.{length, take}
use Rattle.std.specs.Prelude.{Err, Ok}
use Rattle.base.specs.Sets.{Set}
use Rattle.base.proofs.Bools.{T_and, T-left, T-right, or_split}
use Rattle.base.specs.Verdict.{Verdict}
use Rattle.base.specs.Found.{Found, found, refused}
use Rattle.message.specs.declared.Body.{Body}
use Rattle.message.specs.declared.Message.{Message}
use Rattle.message.specs.Message.{kind_of}
use Rattle.message.specs.Format.{value_of, body_of}
use Rattle.message.proofs.RoundTrip.{body_same}
use Rattle.journal.specs.declared.RecordError.TheVariants.{Torn, Bad}
use Rattle.journal.specs.Reading.{RecordRead, whole_record, record_at, records_in}
use Rattle.journal.specs.Records.{journal_bytes}
use Rattle.board_calls.specs.Calls.{set_up_of, answered_of}
use Rattle.agreement.specs.History.{Instance, Call, set_up, start, take_message_lem, read_answer, read_count, restore, start_finds, take_finds, restore_finds, read_as_count, Stage, waiting, running, down}
use Rattle.agreement.specs.Allowed.{Sound, RefusedBy, TornAfter}
use Rattle.agreement_histories.specs.Scripts.{saying}
use Rattle.agreement_histories.proofs.Worlds.{Handing, same, among, sent_by, sound, is_waiting, is_running, refusal, not_found, is_refused, same_bytes, is_torn, torn_behind}

message_same : {a x l y : ℕ} {b c : Body} → a ≡ x → l ≡ y → b ≡ c → saying a l b ≡ saying x y c
message_same {a} {x} {l} {y} {b} {c} e f g = ap (λ (i : ℕ). saying i l b) e ∙ ap (λ (i : ℕ). saying x i b) f ∙ ap (saying x y) g

-- a body is its kind and its value
bodies_same : (b c : Body) → kind_of b ≡ kind_of c → value_of b ≡ value_of c → b ≡ c
bodies_same b c e f = sym (body_same b) ∙ ap₂ body_of e f ∙ body_same c

pub same→ : (m x : Message) → T (same m x) → m ≡ x
same→ m x h = message_same (eqb→eq m.number x.number (T-left one two a)) (eqb→eq m.level x.level (T-right one two a))
    (bodies_same m.body x.body (eqb→eq (kind_of m.body) (kind_of x.body) (T-left three four b)) (eqb→eq (value_of m.body) (value_of x.body) (T-right three four b)))
  where
    one : Bool
    one = eqb m.number x.number

    two : Bool
    two = eqb m.level x.level

    three : Bool
    three = eqb (kind_of m.body) (kind_of x.body)

    four : Bool
    four = eqb (value_of m.body) (value_of x.body)

    a : T (one && two)
    a = T-left (one && two) (three && four) h

    b : T (three && four)
    b = T-right (one && two) (three && four) h

pub among→ : (m : Message) (l : List Message) → T (among m l) → Memᴰ m l
unfolding among
among→ m [] h = absurd h
among→ m (x ∷ l) h = go (among→ m l) (or_split (same m x) (among m l) h)
  where
    go : (T (among m l) → Memᴰ m l) → T (same m x) ⊎ T (among m l) → Memᴰ m (x ∷ l)
    go below (inl e) = Memᴰ.head (same→ m x e)
    go below (inr r) = Memᴰ.tail (below r)

pub sent_by→ : (i : ℕ) (m : Message) (l : List Handing) → T (sent_by i m l) → Memᴰ (record { by = i; message = m }) l
unfolding sent_by
sent_by→ i m [] h = absurd h
sent_by→ i m (x ∷ l) h = go (sent_by→ i m l) (or_split (eqb i x.by && same m x.message) (sent_by i m l) h)
  where
    go : (T (sent_by i m l) → Memᴰ (record { by = i; message = m }) l) → T (eqb i x.by && same m x.message) ⊎ T (sent_by i m l)
        → Memᴰ (record { by = i; message = m }) (x ∷ l)
    go below (inl e) = Memᴰ.head (ap₂ (λ (j : ℕ) (y : Message). record { by = j; message = y }) (eqb→eq i x.by (T-left (eqb i x.by) (same m x.message) e)) (same→ m x.message (T-right (eqb i x.by) (same m x.message) e)))
    go below (inr r) = Memᴰ.tail (below r)

pub sound→ : (v : Instance) (bad : Set) (i : ℕ) → T (sound v bad i) → Sound v bad i
sound→ v bad i h = (ltb→lt i v.n (T-left (ltb i v.n) (not (bad i)) h), T-right (ltb i v.n) (not (bad i)) h)

pub →sound : (v : Instance) (bad : Set) (i : ℕ) → Sound v bad i → T (sound v bad i)
→sound v bad i s = T_and (ltb i v.n) (not (bad i)) (lt→ltb i v.n s.0) s.1

pub waiting→ : (s : Stage) → T (is_waiting s) → s ≡ waiting
waiting→ waiting h = refl
waiting→ running h = absurd h
waiting→ down h = absurd h

pub running→ : (s : Stage) → T (is_running s) → s ≡ running
running→ waiting h = absurd h
running→ running h = refl
running→ down h = absurd h

pub not_waiting→ : (s : Stage) → T (not (is_waiting s)) → s ≡ waiting → ⊥
not_waiting→ s h e = subst (λ (x : Stage). T (not (is_waiting x))) e h

same_bytes→ : (l r : List ℕ) → T (same_bytes l r) → l ≡ r
unfolding same_bytes
same_bytes→ [] [] h = refl
same_bytes→ [] (y ∷ r) h = absurd h
same_bytes→ (x ∷ l) [] h = absurd h
same_bytes→ (x ∷ l) (y ∷ r) h = ap₂ (λ (z : ℕ) (s : List ℕ). z ∷ s) (eqb→eq x y (T-left (eqb x y) (same_bytes l r) h)) (same_bytes→ l r (T-right (eqb x y) (same_bytes l r) h))

torn→ : (r : RecordRead) → T (is_torn r) → r ≡ Err Torn
torn→ (Ok r) h = absurd h
torn→ (Err Torn) h = refl
torn→ (Err Bad) h = absurd h

pub torn_behind→ : (used journal : List ℕ) → T (torn_behind (journal_bytes (records_in used)) journal) → TornAfter used journal
torn_behind→ used journal h = record {
  kept = same_bytes→ (take (length whole) journal) whole (T-left (same_bytes (take (length whole) journal) whole) (is_torn (record_at journal (length whole))) h);
  torn = torn→ (record_at journal (length whole)) (T-right (same_bytes (take (length whole) journal) whole) (is_torn (record_at journal (length whole))) h);
}
  where
    whole : List ℕ
    whole = journal_bytes (records_in used)

refusal→ : (k : ℕ) (x : Verdict) → T (refusal k x) → (at : ℕ) × (x ≡ Verdict.Refused k at)
refusal→ k Verdict.Accepted h = absurd h
refusal→ k (Verdict.Refused number at) h = (at, ap (λ (y : ℕ). Verdict.Refused y at) (eqb→eq number k h))

not_found→ : {A : Type 0} (k : ℕ) (x : Found A) → T (not_found k x) → (at : ℕ) × (x ≡ refused k at)
not_found→ k (found x) h = absurd h
not_found→ k (refused number at) h = (at, ap (λ (y : ℕ). refused y at) (eqb→eq number k h))

pub is_refused→ : (k : ℕ) (c : Call) → T (is_refused k c) → RefusedBy k c
is_refused→ k (set_up n t own agreement plan) h = refusal→ k (set_up_of n t own agreement plan).verdict h
is_refused→ k (start p input lent used) h = not_found→ k (start_finds p input lent used) h
is_refused→ k (take_message_lem p sender bytes lent used) h = not_found→ k (take_finds p sender bytes lent used) h
is_refused→ k (read_answer p) h = refusal→ k (answered_of p).verdict h
is_refused→ k (read_count p g c) h = refusal→ k (read_as_count p g c).verdict h
is_refused→ k (restore n t own agreement plan lent) h = not_found→ k (restore_finds n t own agreement plan lent) h
