-- The outgoing bytes of an accepted call are read back as the messages that it made, one after the other, and nothing more.
use mathlib.Core.Path.{◌≡◌, refl, sym, ap, ap₂, ◌∙◌, subst}
use mathlib.Core.Logic.{◌⊎◌, inl, inr}
use mathlib.Core.List.Memᴰ
use mathlib.Core.List.{List, [], ◌∷◌, ◌++◌, append_assoc, append-nil, Memᴰ}
use mathlib.Core.Option.{some}
use Prim.Native.Nat.{ℕ, zero, suc, ◌+◌, ◌≤◌, ◌<◌}
use native.Mathlib.Omega.{arith}
use lib.Dec.{T, leb}
use lib.IntN.{ℤ}
use lib.ListN.{length, take, drop, length-append}
use lib.Seq.{take_at}
use borrow.Author.Tests.{eq-eqb, ne_eqb}
use Rattle.base.specs.Limits.{max_number, last_level, outgoing_size}
use Rattle.base.specs.Put.{put_at}
use Rattle.base.specs.Found.{Found, found, refused}
use Rattle.base.proofs.Bools.{T→true}
use Rattle.base.proofs.Puts.{put_zero}
use Rattle.varint.specs.Varint.{AllBytes}
use Rattle.varint.proofs.Laws.{pieces_pos}
use Rattle.plan.specs.Plan.{Plan}
use Rattle.plan.specs.Reading.{settled_plan}
use Rattle.plan.proofs.Listed.{asked}
use Rattle.message.specs.declared.Message.{Message}
use Rattle.format.specs.Reading.{whole}
use Rattle.message.specs.Message.{in_table, message_bytes}
use Rattle.message.specs.Reading.{message_at}
use Rattle.message.proofs.Laws.{message_length}
use Rattle.message.proofs.RoundTrip.{message_read}
use Rattle.journal.specs.declared.Record.{Record}
use Rattle.party.specs.Party.{Party, new_party}
use Rattle.party.specs.Run.{Ran, resting, bytes_of}
use Rattle.party_life.specs.Life.{replayed, following, Fits}
use Rattle.party_bounds.proofs.Laws.{Sized, Within, replayed_within, sized_replayed, typed_sized}
use Rattle.board_calls.specs.Calls.{Called, Entry, fresh, start_questions, take_questions, called_of, outgoing_after}
use Rattle.board_calls.specs.Counts.{start_count_questions}
use Rattle.board_calls.specs.Restore.{Replay, on_plan_read, restore_questions, restored_of, restore_outgoing}
use Rattle.board_calls.specs.Results.{CallGives, RestoreGives}
use Rattle.board_promises.specs.Outgoing.{with_rest, messages_from, messages_of, AllWritable}
use Rattle.party.specs.Typed.{Typed}
use Rattle.board_laws.proofs.Replays.{new_sized}
use Rattle.board_laws.proofs.Kept.{replay_keeps}
use Rattle.board_promises.proofs.Counts.{count_recorded}
use Rattle.board_laws.proofs.Recorded.{Recorded, start_recorded, take_recorded}
use Rattle.board_laws.proofs.Restored.{settled_new}

-- ---- messages in bytes

-- nothing more stands at the end
messages_end : (f : ℕ) (s : List ℕ) (at : ℕ) → at ≡ length s → messages_from f s at ≡ some []
unfolding messages_from
messages_end zero s at e = rw (eq-eqb at (length s) e)
messages_end (suc f) s at e = rw (eq-eqb at (length s) e)

-- a message is read, and then the rest
messages_next : (f : ℕ) (s : List ℕ) (at : ℕ) (m : Message) (next : ℕ) → at < length s → message_at s at ≡ whole m next
    → messages_from (suc f) s at ≡ with_rest m (messages_from f s next)
unfolding messages_from
messages_next f s at m next l e = rw (ne_eqb at (length s) (λ i. omega arith), e)

-- the bytes of messages, message by message
bytes_none : bytes_of [] ≡ []
unfolding bytes_of
bytes_none = refl

bytes_more : (m : Message) (ms : List Message) → bytes_of (m ∷ ms) ≡ message_bytes m ++ bytes_of ms
unfolding bytes_of
bytes_more m ms = refl

bytes_length : (m : Message) (ms : List Message) → length (bytes_of (m ∷ ms)) ≡ length (message_bytes m) + length (bytes_of ms)
bytes_length m ms = ap length (bytes_more m ms) ∙ length-append (message_bytes m) (bytes_of ms)

-- a message has a byte
message_pos : (m : Message) → 0 < length (message_bytes m)
message_pos m = omega (arith, message_length m, pieces_pos 4 m.number)

-- no more messages than bytes
messages_fewer : (ms : List Message) → length ms ≤ length (bytes_of ms)
messages_fewer [] = omega arith
messages_fewer (m ∷ ms) = omega (arith, messages_fewer ms, bytes_length m ms, message_pos m)

-- messages that stand after some bytes, to the end
read_after : (ms : List Message) (f : ℕ) (s p : List ℕ) → length ms ≤ f → s ≡ p ++ bytes_of ms → AllWritable ms → messages_from f s (length p) ≡ some ms
read_after [] f s p l e w = messages_end f s (length p) (ap length (sym (append-nil p) ∙ ap (λ (x : List ℕ). p ++ x) (sym bytes_none) ∙ sym e))
read_after (m ∷ ms) zero s p l e w = absurd (omega arith)
read_after (m ∷ ms) (suc f) s p l e w =
    let b : List ℕ = message_bytes m in
    let h = w m (Memᴰ.head refl) in
    let e1 : s ≡ p ++ (b ++ bytes_of ms) = e ∙ ap (λ (x : List ℕ). p ++ x) (bytes_more m ms) in
    let e2 : s ≡ (p ++ b) ++ bytes_of ms = e1 ∙ sym (append_assoc p b (bytes_of ms)) in
    let n : length (p ++ b) ≡ length p + length b = length-append p b in
    let k : length s ≡ length (p ++ b) + length (bytes_of ms) = ap length e2 ∙ length-append (p ++ b) (bytes_of ms) in
    let r : message_at s (length p) ≡ whole m (length p + length b) = ap (λ (x : List ℕ). message_at x (length p)) e1 ∙ message_read m p (bytes_of ms) h.0 (omega (arith, h.1)) in
    messages_next f s (length p) m (length p + length b) (omega (arith, message_pos m)) r
    ∙ ap (λ (x : ℕ). with_rest m (messages_from f s x)) (sym n)
    ∙ ap (with_rest m) (read_after ms f s (p ++ b) (omega arith) e2 (λ x i. w x (Memᴰ.tail i)))

-- The bytes of messages are read back as these messages, to the last byte.
pub messages_read : (ms : List Message) → AllWritable ms → messages_of (bytes_of ms) ≡ some ms
messages_read ms w = read_after ms (length (bytes_of ms)) (bytes_of ms) [] (messages_fewer ms) refl w

-- what stands first in a buffer after it was written there
sent_bytes : (out bs : List ℕ) → take (length bs) (put_at out 0 bs) ≡ bs
sent_bytes out bs = ap (take (length bs)) (put_zero out bs) ∙ take_at bs (drop (length bs) out) (length bs) refl

-- the messages of bytes written into a buffer
pub written_read : (out : List ℕ) (ms : List Message) → AllWritable ms → messages_of (take (length (bytes_of ms)) (put_at out 0 (bytes_of ms))) ≡ some ms
written_read out ms w = ap messages_of (sent_bytes out (bytes_of ms)) ∙ messages_read ms w

-- ---- start, start by count and take

-- the messages of a vote can be written
proper_writable : (a : ℕ) → a ≤ max_number → (ms : List Message) → ((m : Message) → Memᴰ m ms → T (in_table m) × (m.number ≡ a)) → AllWritable ms
proper_writable a h ms w m i = (T→true (in_table m) (w m i).0, subst (λ (n : ℕ). n ≤ max_number) (sym (w m i).1) h)

-- so can those of a call that makes a record
recorded_writable : (p : Party) → Typed p → (r : Record) (ran : Ran) → Recorded p r ran → AllWritable ran.made
recorded_writable p t r ran h =
    let w = replayed_within (last_level + 1) (omega arith) p (typed_sized p t h.0) r h.1 in
    let w : Within (last_level + 1) p ran = subst (Within (last_level + 1) p) (sym h.2) w in
    proper_writable p.agreement t.agreement ran.made w.proper

module _ {p : Party} {used : ℕ} {j out : List ℕ} {c : Called} {jThen out_then : List ℕ} where
  -- what a call that makes a record sends
  call_read : {q : Found Entry} (r : Record) (ran : Ran) → CallGives q p used j out c jThen out_then → q ≡ found (fresh r ran) → AllWritable ran.made
      → messages_of (take c.sent out_then) ≡ some ran.made
  call_read r ran g e w =
      let n : c.sent ≡ length (bytes_of ran.made) = ap (λ (x : Called). x.sent) (g.result ∙ ap (called_of p used) e) in
      let b : out_then ≡ put_at out 0 (bytes_of ran.made) = g.outgoing ∙ ap (outgoing_after out) e in
      ap₂ (λ (x : ℕ) (l : List ℕ). messages_of (take x l)) n b ∙ written_read out ran.made w

  -- The bytes that an accepted start sends are the messages that it made: all of them, in order, and nothing else.
  pub start_outgoing : Typed p → (z : ℤ) (r : Record) (ran : Ran) → CallGives (start_questions p z (length j) used (length out)) p used j out c jThen out_then
      → start_questions p z (length j) used (length out) ≡ found (fresh r ran) → messages_of (take c.sent out_then) ≡ some ran.made
  start_outgoing t z r ran g e = call_read r ran g e (recorded_writable p t r ran (start_recorded p (length j) used (length out) r ran z e))

  -- So are those of an accepted start by count.
  pub start_count_outgoing : Typed p → (size : ℕ) (count : ℤ) (r : Record) (ran : Ran)
      → CallGives (start_count_questions p size count (length j) used (length out)) p used j out c jThen out_then
      → start_count_questions p size count (length j) used (length out) ≡ found (fresh r ran) → messages_of (take c.sent out_then) ≡ some ran.made
  start_count_outgoing t size count r ran g e =
      call_read r ran g e (recorded_writable p t r ran (count_recorded p size count (length j) used (length out) r ran e))

  -- So are those of an accepted take that makes a record.
  pub take_outgoing : Typed p → (s : ℕ) (bytes : List ℕ) → AllBytes bytes → (r : Record) (ran : Ran)
      → CallGives (take_questions p s bytes (length j) used (length out)) p used j out c jThen out_then
      → take_questions p s bytes (length j) used (length out) ≡ found (fresh r ran) → messages_of (take c.sent out_then) ≡ some ran.made
  take_outgoing t s bytes all r ran g e = call_read r ran g e (recorded_writable p t r ran (take_recorded p (length j) used (length out) r ran s bytes all e))

-- ---- restore

-- a party of vote a, and messages of it
pub record Voting (a : ℕ) (r : Ran) : Type 0 where
  pub sized : Sized r.party
  pub agreement : r.party.agreement ≡ a
  pub proper : (m : Message) → Memᴰ m r.made → T (in_table m) × (m.number ≡ a)

-- a record that fits keeps it
voting_keeps : (a : ℕ) (r : Ran) (x : Record) → Voting a r → Fits r.party x → Voting a (following r (replayed r.party x))
voting_keeps a r x v f =
    let w = replayed_within (last_level + 1) (omega arith) r.party v.sized x f in
    record {
      sized = sized_replayed r.party v.sized x f;
      agreement = w.agreement ∙ v.agreement;
      proper = λ m i. of w m (Memᴰ.append_cases r.made i);
    }
  where
    of : Within (last_level + 1) r.party (replayed r.party x) → (m : Message) → Memᴰ m r.made ⊎ Memᴰ m (replayed r.party x).made
        → T (in_table m) × (m.number ≡ a)
    of w m (inl i) = v.proper m i
    of w m (inr i) = let y = w.proper m i in (y.0, y.1 ∙ v.agreement)

module _ (n t own a : ℕ) (bytes j : List ℕ) where
  -- so the messages of a restore are of its vote
  restore_voting : (out : ℕ) (x : Replay) → AllBytes j → restore_questions n t own a bytes j out ≡ found x → Voting a x.ran
  unfolding restore_questions
  restore_voting out x all e =
      let b = asked (leb outgoing_size out) 18 0 (on_plan_read n t own a j (settled_plan n t own bytes)) x e in
      go (settled_plan n t own bytes) refl b.1
    where
      go : (f : Found Plan) → settled_plan n t own bytes ≡ f → on_plan_read n t own a j f ≡ found x → Voting a x.ran
      go (found plan) i e =
          replay_keeps (Voting a) j all (voting_keeps a) (length j) 0 (resting (new_party n t own a plan)) x
          (record {
            sized = new_sized (new_party n t own a plan) (settled_new n t own bytes a i);
            agreement = refl;
            proper = λ m h. absurd (Memᴰ.not-nil h);
          })
          e
      go (refused number place) i e = let z : ◌≡◌ {A = ℕ} 0 1 = cc in absurd (omega arith)

  -- The bytes that an accepted restore sends are the messages of all its records.
  pub restore_outgoing_lem : a ≤ max_number → AllBytes j → {out : List ℕ} {c : Called} {out_then : List ℕ} (x : Replay)
      → RestoreGives (restore_questions n t own a bytes j (length out)) out c out_then → restore_questions n t own a bytes j (length out) ≡ found x
      → messages_of (take c.sent out_then) ≡ some x.ran.made
  restore_outgoing_lem h all {out} {c} {out_then} x g e =
      let ms : List Message = x.ran.made in
      let k : c.sent ≡ length (bytes_of ms) = ap (λ (y : Called). y.sent) (g.result ∙ ap restored_of e) in
      let b : out_then ≡ put_at out 0 (bytes_of ms) = g.outgoing ∙ ap (restore_outgoing out) e in
      ap₂ (λ (y : ℕ) (l : List ℕ). messages_of (take y l)) k b
      ∙ written_read out ms (proper_writable a h ms (restore_voting (length out) x all e).proper)
