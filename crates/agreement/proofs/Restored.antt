-- Restoring what a life wrote gives that life's party.
use mathlib.Core.Path.{◌≡◌, refl, sym, ap, ap₂, ◌∙◌, subst}
use mathlib.Core.Logic.{inl, inr}
use mathlib.Core.Bool.{Bool, true, false}
use mathlib.Core.List.{List, [], ◌∷◌, ◌++◌}
use Prim.Native.Nat.{ℕ, zero, suc, ◌+◌, ◌-◌, ◌*◌, ◌≤◌, ◌<◌}
use native.Mathlib.Omega.{arith}
use lib.Dec.{leb, eqb, le→leb}
use lib.ListN.{length, take, drop, length-append, take-append-drop}
use lib.Seq.{take_at}
use borrow.Author.Tests.{lt-leb}
use Rattle.std.specs.Prelude.{Err}
use Rattle.base.specs.Pick.{pick}
use Rattle.base.specs.Limits.{max_boards, outgoing_size}
use Rattle.base.proofs.Bools.{T-left}
use Rattle.base.specs.Found.{Found, found}
use Rattle.plan.specs.Plan.{Plan}
use Rattle.plan.specs.Reading.{plan_of, settled_plan}
use Rattle.plan.proofs.Listed.{ask_yes, asked}
use Rattle.plan.proofs.Answers.{settle_plan}
use Rattle.journal.specs.declared.Record.{Record}
use Rattle.journal.specs.declared.RecordError.TheVariants.{Torn}
use Rattle.journal.specs.Reading.{whole_record, record_at, records_in}
use Rattle.journal.specs.Journal.{record_bytes}
use Rattle.journal.specs.Records.{AllInLimits, journal_bytes}
use Rattle.journal.proofs.Records.{Holds, holds_whole, holds_records, holds_end, journal_none, journal_before, journal_record, journal_length, record_pos, records_fewer}
use Rattle.party.specs.Party.{Party, new_party}
use Rattle.party.specs.Run.{Ran, resting}
use Rattle.party_life.specs.Life.{replayed, following, lived, fault, tabled, Fits, Life}
use Rattle.board_calls.specs.Restore.{record_fits, Replay, replay_from, on_plan_read, restore_questions}
use Rattle.agreement.specs.Allowed.{Lendable}

-- ---- one record

-- a record that an accepted call may have written passes questions 12 to 14 and 16
pub fits_pass : {A : Type 0} (p : Party) (at : ℕ) (r : Record) (go : Found A) → Fits p r → record_fits p at r go ≡ go
fits_pass p at r go f = ask_yes (eqb (fault p r) 0) (fault p r) at go (T-left (eqb (fault p r) 0) (tabled r) f)

module _ (f : ℕ) (j : List ℕ) (at : ℕ) (r : Ran) where
  -- a whole record
  replay_read : (rec : Record) (next : ℕ) → at < length j → record_at j at ≡ whole_record rec next
      → replay_from (suc f) j at r ≡ record_fits r.party at rec (replay_from f j next (following r (replayed r.party rec)))
  unfolding replay_from
  replay_read rec next l e = rw (lt-leb (length j) at l, e)

  -- a torn one, at which the records end
  replay_torn : record_at j at ≡ Err Torn → replay_from f j at r ≡ found (record { ran = r; used = at })
  unfolding replay_from
  replay_torn e = go f
    where
      same : (b : Bool) (x : Found Replay) → pick b x x ≡ x
      same true x = refl
      same false x = refl

      go : (f : ℕ) → replay_from f j at r ≡ found (record { ran = r; used = at })
      go zero = refl
      go (suc f) = rw e (same (leb (length j) at) (found (record { ran = r; used = at })))

-- ---- whole journals

-- the records rs, before q, one after the other
replay_through : (p : Party) (rs : List Record) (q : List ℕ) (f : ℕ) → AllInLimits rs → Life p rs
    → replay_from (length rs + f) (journal_bytes rs ++ q) 0 (resting p) ≡ replay_from f (journal_bytes rs ++ q) (length (journal_bytes rs)) (lived p rs)
unfolding lived
replay_through p [] q f h l = ap₂ (λ (n : ℕ) (x : List ℕ). replay_from n (journal_bytes [] ++ q) (length x) (resting p)) (omega arith) (sym journal_none)
replay_through p (r ∷ rs) q f (h, hs) (l, ls) =
    let b : List ℕ = journal_bytes rs in
    let j : List ℕ = journal_bytes (r ∷ rs) ++ q in
    let e = journal_before r rs q in
    let n : suc (length rs) + f ≡ length rs + suc f = omega arith in
    let k : length b < length j = omega (arith, length-append (journal_bytes (r ∷ rs)) q, journal_length r rs, record_pos r) in
    ap₂ (λ (m : ℕ) (x : List ℕ). replay_from m x 0 (resting p)) n e
    ∙ replay_through p rs (record_bytes r ++ q) (suc f) hs ls
    ∙ ap (λ (x : List ℕ). replay_from (suc f) x (length b) (lived p rs)) (sym e)
    ∙ replay_read f j (length b) (lived p rs) r (length (journal_bytes (r ∷ rs))) k (journal_record r rs q h)
    ∙ fits_pass (lived p rs).party (length b) r _ l

-- the bytes j begin with the records rs, in their limits, and after them comes a torn one or nothing
pub record Begins (j : List ℕ) (rs : List Record) : Type 0 where
  pub limits : AllInLimits rs
  pub tail : List ℕ
  pub bytes : j ≡ journal_bytes rs ++ tail
  pub torn : record_at j (length (journal_bytes rs)) ≡ Err Torn

pub holds_begins : {j : List ℕ} {rs : List Record} → Holds j rs → Begins j rs
holds_begins h = record { limits = h.limits; tail = h.tail; bytes = h.bytes; torn = holds_end h }

-- their bytes
pub begins_used : {j : List ℕ} {rs : List Record} → Begins j rs → take (length (journal_bytes rs)) j ≡ journal_bytes rs
begins_used {rs = rs} h = ap (take (length (journal_bytes rs))) h.bytes ∙ take_at (journal_bytes rs) h.tail (length (journal_bytes rs)) refl

-- what a restore may be lent begins with the same records as the used bytes
pub lendable_begins : (used journal : List ℕ) (rs : List Record) → Holds used rs → Lendable used journal → Begins journal rs
lendable_begins used journal rs h (inl e) = holds_begins (subst (λ (j : List ℕ). Holds j rs) (sym e) h)
lendable_begins used journal rs h (inr t) = go (records_in used) (holds_records h) t.kept t.torn
  where
    go : (ts : List Record) → ts ≡ rs → take (length (journal_bytes ts)) journal ≡ journal_bytes ts → record_at journal (length (journal_bytes ts)) ≡ Err Torn
        → Begins journal rs
    go ts e k d =
        subst (Begins journal) e (record {
          limits = subst AllInLimits (sym e) h.limits;
          tail = drop (length (journal_bytes ts)) journal;
          bytes = sym (take-append-drop (length (journal_bytes ts)) journal) ∙ ap (λ (x : List ℕ). x ++ drop (length (journal_bytes ts)) journal) k;
          torn = d;
        })

-- what the records of a life give: their party, rules and messages, and where they end
abbrev pub lived_replay : Party → List Record → Replay
lived_replay p rs = record { ran = lived p rs; used = length (journal_bytes rs) }

-- a journal that holds a life's records, and perhaps a torn one
pub replay_life : (p : Party) (rs : List Record) (j : List ℕ) → Begins j rs → Life p rs → replay_from (length j) j 0 (resting p) ≡ found (lived_replay p rs)
replay_life p rs j h l =
    let b : List ℕ = journal_bytes rs ++ h.tail in
    let f : ℕ = length b - length rs in
    let n : length b ≡ length rs + f = omega (arith, records_fewer rs, length-append (journal_bytes rs) h.tail) in
    ap (λ (x : List ℕ). replay_from (length x) x 0 (resting p)) h.bytes
    ∙ ap (λ (m : ℕ). replay_from m b 0 (resting p)) n
    ∙ replay_through p rs h.tail f h.limits l
    ∙ replay_torn f b (length (journal_bytes rs)) (lived p rs) (ap (λ (x : List ℕ). record_at x (length (journal_bytes rs))) (sym h.bytes) ∙ h.torn)

-- ---- the call

module _ (n t own agreement : ℕ) (bytes : List ℕ) (plan : Plan) (most : n ≤ max_boards) (faults : 3 * t < n) (seat : own < n) (reads : plan_of bytes ≡ found plan) where
  -- questions 1 to 11 are passed
  pub settled : settled_plan n t own bytes ≡ found plan
  settled = settle_plan n t own bytes (omega arith) most faults seat ∙ reads

  module _ (rs : List Record) (life : Life (new_party n t own agreement plan) rs) where
    -- "Restore gives the party of the whole records, in order, their length in bytes" and "every message of the whole records' history", also after a cut
    pub restored_cut : (j : List ℕ) → Begins j rs → (out : ℕ) → outgoing_size ≤ out
        → restore_questions n t own agreement bytes j out ≡ found (lived_replay (new_party n t own agreement plan) rs)
    unfolding restore_questions
    restored_cut j h out room =
        ask_yes (leb outgoing_size out) 18 0 _ (le→leb outgoing_size out room)
        ∙ ap (on_plan_read n t own agreement j) settled
        ∙ replay_life (new_party n t own agreement plan) rs j h life

    -- Restoring what a life wrote gives that life's party.
    pub restored : AllInLimits rs → (out : ℕ) → outgoing_size ≤ out
        → restore_questions n t own agreement bytes (journal_bytes rs) out ≡ found (lived_replay (new_party n t own agreement plan) rs)
    restored h = restored_cut (journal_bytes rs) (holds_begins (holds_whole rs (journal_bytes rs) h refl))

    -- whatever an accepted restore gives is that
    pub restored_found : (j : List ℕ) → Begins j rs → (out : ℕ) (r : Replay) → restore_questions n t own agreement bytes j out ≡ found r
        → r ≡ lived_replay (new_party n t own agreement plan) rs
    unfolding restore_questions
    restored_found j h out r e =
        let x = asked (leb outgoing_size out) 18 0 (on_plan_read n t own agreement j (settled_plan n t own bytes)) r e in
        let y : found r ≡ found (lived_replay (new_party n t own agreement plan) rs)
        = sym x.1 ∙ ap (on_plan_read n t own agreement j) settled ∙ replay_life (new_party n t own agreement plan) rs j h life in
        cc
