-- An accepted restore gives the life of the journal's whole records and writes that life's messages, each once; the outgoing buffer suffices for every life.
use mathlib.Core.Path.{◌≡◌, refl, sym, ap, ap₂, ◌∙◌, subst}
use mathlib.Core.List.{List, [], ◌∷◌}
use Prim.Native.Nat.{ℕ, zero, suc, ◌+◌, ◌-◌, ◌≤◌, ◌<◌}
use native.Mathlib.Decide.{dec_lt}
use native.Mathlib.Omega.{arith}
use lib.Dec.{leb, eqb, eqb→eq}
use lib.ListN.{length, drop, length-take, length-drop}
use lib.Seq.{drop_at}
use Rattle.std.specs.Prelude.{Err, Ok}
use Rattle.base.specs.Distinct.{Distinct}
use Rattle.base.specs.Limits.{max_number, last_level, outgoing_size}
use Rattle.base.specs.Put.{put_at}
use Rattle.base.specs.Found.{Found, found, refused}
use Rattle.base.proofs.Puts.{put_zero}
use Rattle.varint.specs.Varint.{AllBytes}
use Rattle.plan.specs.Plan.{Plan}
use Rattle.plan.specs.Reading.{settled_plan}
use Rattle.plan.proofs.Listed.{asked}
use Rattle.journal.specs.declared.Record.{Record}
use Rattle.journal.specs.declared.RecordError.TheVariants.{Torn, Bad}
use Rattle.journal.specs.Reading.{RecordRead, whole_record, record_at, records_from, records_in}
use Rattle.journal.specs.Records.{journal_bytes}
use Rattle.journal.proofs.RoundTrip.{record_was_written}
use Rattle.journal.proofs.Records.{journal_none, journal_length, records_read, records_torn}
use Rattle.journal.proofs.Torn.{record_at_end}
use Rattle.party.specs.Party.{Party, new_party}
use Rattle.party.specs.Run.{Ran, bytes_of}
use Rattle.party.specs.Typed.{Typed}
use Rattle.party_life.specs.Life.{lived, fault, Life}
use Rattle.party_life.proofs.Fits.{fault_fits}
use Rattle.party_bounds.proofs.Laws.{Sized, lived_within, typed_sized}
use Rattle.party_once.proofs.Once.{once}
use Rattle.board_calls.specs.Calls.{Called}
use Rattle.board_calls.specs.Restore.{Replay, replay_from, on_plan_read, restore_questions, restored_of, restore_outgoing}
use Rattle.board_calls.specs.Results.{RestoreGives}
use Rattle.board_laws.proofs.Replays.{new_sized, replay_end, replay_torn, replay_bad, replay_read, outgoing_most}
use Rattle.board_laws.proofs.Restored.{settled_new}
use Rattle.board_promises.specs.Restored.{LivedAgain, WritesAll, RestoresAll, BufferSuffices}
use Rattle.board_promises.proofs.Outgoing.{restore_outgoing_lem}

-- ---- the buffer

-- "The buffer suffices": the bound on messages is one for a whole life.
pub buffer_suffices : BufferSuffices
buffer_suffices p t v rs l =
    outgoing_most p (lived p rs) (lived_within (last_level + 1) (omega arith) p (typed_sized p t v) rs l)

-- ---- the records

module _ (p : Party) (j : List ℕ) (all : AllBytes j) where
  -- what is replayed is the life of some records, and their bytes are used
  abbrev Gave : List Record → Replay → Type 0
  Gave rs x = Life p rs × (x.ran ≡ lived p rs) × (x.used ≡ length (journal_bytes rs))

  -- where both end, the records before are all
  stops : (rs ts : List Record) (at : ℕ) (x : Replay) → Life p rs → at ≡ length (journal_bytes rs) → ts ≡ rs
      → found (record { ran = lived p rs; used = at }) ≡ found x → Gave ts x
  stops rs ts at x l u i e =
      let k : record { ran = lived p rs; used = at } ≡ x = cc in
      subst (λ (us : List Record). Gave us x) (sym i) (l, ap (λ (y : Replay). y.ran) (sym k), ap (λ (y : Replay). y.used) (sym k) ∙ u)

  -- what is used up to a record is its bytes more after it
  next_used : (at : ℕ) (z : Record) (next : ℕ) (rs : List Record) → record_at j at ≡ whole_record z next → at ≡ length (journal_bytes rs)
      → next ≡ length (journal_bytes (z ∷ rs))
  next_used at z next rs i u =
      let w = record_was_written j at z next all i in
      omega (arith, w.longer, w.inside, ap length w.bytes, length-take (next - at) (drop at j), length-drop at j, journal_length z rs)

  -- reading the records from some place on goes along with replaying them
  along : (f at : ℕ) (rs : List Record) (x : Replay) → at ≤ length j → at ≡ length (journal_bytes rs) → Life p rs → replay_from f j at (lived p rs) ≡ found x
      → Gave (records_from f j at rs) x
  unfolding replay_from records_from lived
  along zero at rs x h u l e = stops rs rs at x l u refl e
  along (suc f) at rs x h u l e = go (dec_lt at (length j)) (along f)
    where
      Rest : Type 0
      Rest = (at : ℕ) (rs : List Record) (x : Replay) → at ≤ length j → at ≡ length (journal_bytes rs) → Life p rs → replay_from f j at (lived p rs) ≡ found x
          → Gave (records_from f j at rs) x

      read : at < length j → (y : RecordRead) → record_at j at ≡ y → Rest → Gave (records_from (suc f) j at rs) x
      read b (Ok y) i rest =
          let z : Record = y.value in
          let next : ℕ = y.next in
          let r : Ran = lived p rs in
          let k : ℕ = fault r.party z in
          let a = asked (eqb k 0) k at (replay_from f j next (lived p (z ∷ rs))) x (sym (replay_read f j at r b z next i) ∙ e) in
          let w = record_was_written j at z next all i in
          let s = fault_fits r.party z w.limits (eqb→eq k 0 a.0) in
          subst (λ (ts : List Record). Gave ts x) (sym (records_read f j at rs i))
          (rest next (z ∷ rs) x w.inside (next_used at z next rs i u) (s, l) a.1)
      read b (Err Torn) i rest = stops rs (records_from (suc f) j at rs) at x l u (records_torn (suc f) j at rs i) (sym (replay_torn f j at (lived p rs) b i) ∙ e)
      read b (Err Bad) i rest =
          let y : refused 21 at ≡ found x = sym (replay_bad f j at (lived p rs) b i) ∙ e in
          let z : ◌≡◌ {A = ℕ} 0 1 = cc in absurd (omega arith)

      go : Dec (at < length j) → Rest → Gave (records_from (suc f) j at rs) x
      go (yes b) rest = read b (record_at j at) refl rest
      go (no b) rest =
          let i : record_at j at ≡ Err Torn = ap (record_at j) (omega (arith, b)) ∙ record_at_end j in
          stops rs (records_from (suc f) j at rs) at x l u (records_torn (suc f) j at rs i) (sym (replay_end (suc f) j at (lived p rs) (omega (arith, b))) ∙ e)

-- "every message of the whole records' history .. in the first order"
pub restore_lived : (n t own a : ℕ) (bytes j : List ℕ) (out : ℕ) (x : Replay) → AllBytes j → restore_questions n t own a bytes j out ≡ found x
    → LivedAgain n t own a bytes j x
unfolding restore_questions lived
restore_lived n t own a bytes j out x all e =
    go (settled_plan n t own bytes) refl (asked (leb outgoing_size out) 18 0 (on_plan_read n t own a j (settled_plan n t own bytes)) x e).1
  where
    go : (f : Found Plan) → settled_plan n t own bytes ≡ f → on_plan_read n t own a j f ≡ found x → LivedAgain n t own a bytes j x
    go (found plan) i e =
        let w = along (new_party n t own a plan) j all (length j) 0 [] x (omega arith) (ap length (sym journal_none)) tt e in
        record { plan = plan; reads = i; life = w.0; ran = w.1; used = w.2 }
    go (refused number place) i e = let z : ◌≡◌ {A = ℕ} 0 1 = cc in absurd (omega arith)

-- ---- the outgoing buffer

-- what was written at the start of a buffer leaves the rest of it
rest_left : (out bs : List ℕ) → drop (length bs) (put_at out 0 bs) ≡ drop (length bs) out
rest_left out bs = ap (drop (length bs)) (put_zero out bs) ∙ drop_at bs (drop (length bs) out) (length bs) refl

module _ (n t own a : ℕ) (bytes j out : List ℕ) (c : Called) (out_then : List ℕ) (x : Replay) (h : a ≤ max_number) where
  -- what a life of a board as set up makes is different, and has room
  fits : LivedAgain n t own a bytes j x → Distinct x.ran.made × (length (bytes_of x.ran.made) ≤ outgoing_size)
  fits w =
      let p : Party = new_party n t own a w.plan in
      let z : Sized p = new_sized p (settled_new n t own bytes a w.reads) in
      let y : Typed p = record { levels = z.formed.full; echoes = z.echoes; agreement = h } in
      let rs : List Record = records_in j in
      subst (λ (r : Ran). Distinct r.made × (length (bytes_of r.made) ≤ outgoing_size)) (sym w.ran)
      (once p y z.formed.valid rs w.life, buffer_suffices p y z.formed.valid rs w.life)

  writes : LivedAgain n t own a bytes j x → AllBytes j → RestoreGives (restore_questions n t own a bytes j (length out)) out c out_then
      → restore_questions n t own a bytes j (length out) ≡ found x → WritesAll x c out out_then
  writes w all g e =
      let bs : List ℕ = bytes_of x.ran.made in
      let k : c.sent ≡ length bs = ap (λ (d : Called). d.sent) (g.result ∙ ap restored_of e) in
      let b : out_then ≡ put_at out 0 bs = g.outgoing ∙ ap (restore_outgoing out) e in
      record {
        messages = restore_outgoing_lem n t own a bytes j h all x g e;
        once = (fits w).0;
        room = omega (arith, k, (fits w).1);
        rest = ap₂ drop k b ∙ rest_left out bs ∙ ap (λ (i : ℕ). drop i out) (sym k);
      }

pub restores_all : RestoresAll
restores_all n t own a bytes j out c out_then x h all g e =
    let w = restore_lived n t own a bytes j (length out) x all e in (w, writes n t own a bytes j out c out_then x h w all g e)
