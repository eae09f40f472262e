-- Restoring what a life wrote gives that life's party.
use mathlib.Core.Path.{◌≡◌, refl, sym, ap, ◌∙◌, subst}
use mathlib.Core.List.{List, [], ◌∷◌, ◌++◌}
use Prim.Native.Nat.{ℕ, ◌+◌, ◌≤◌, ◌<◌}
use native.Mathlib.Omega.{arith}
use lib.ListN.{length}
use Rattle.base.specs.Put.{put_at}
use Rattle.base.specs.Sets.{Set}
use Rattle.base.specs.Limits.{max_width, outgoing_size}
use Rattle.base.specs.Verdict.{Verdict}
use Rattle.base.specs.Found.{Found, found}
use Rattle.plan.specs.Plan.{Plan}
use Rattle.plan_laws.proofs.Shape.{shape}
use Rattle.journal.specs.declared.Record.{Record}
use Rattle.journal.specs.Records.{AllInLimits, journal_bytes}
use Rattle.party.specs.Party.{Party}
use Rattle.party.specs.Run.{Ran, bytes_of}
use Rattle.party_life.specs.Life.{replayed, lived, Life}
use Rattle.board_calls.specs.Calls.{Called}
use Rattle.board_calls.specs.Restore.{Replay, restore_questions, restored_of, restore_outgoing}
use Rattle.vote_machine.specs.Inner.{Le}
use Rattle.vote_machine.proofs.Laws.{le_lived}
use Rattle.agreement.specs.History.{Instance, Lent, restore_finds, History, running, Board, after_restore, board_after}
use Rattle.agreement.specs.Allowed.{Continues, Lendable, Allowed}
use Rattle.agreement.specs.Demand.{Shared}
use Rattle.agreement.proofs.Restored.{Begins, holds_begins, begins_used, lendable_begins, restored, restored_cut, restored_found}
use Rattle.agreement.proofs.Entries.{fits_limits}
use Rattle.agreement.proofs.Tied.{new_board, Running, AtStage, plan_valid_lem, board_regular}
use Rattle.agreement.proofs.Histories.{TiedAfter, tied}

-- what a restore answers that gives what ran, and a used length
abbrev pub called_with : Ran → ℕ → Called
called_with ran used = record {
  verdict = Verdict.Accepted;
  party = ran.party;
  used = used;
  sent = length (bytes_of ran.made);
  rules = ran.rules;
}

-- of what ran, the rules are the sum over the records, and the messages are those of all of them, in order
pub lived_more : (p : Party) (r : Record) (rs : List Record) →
    let q = replayed (lived p rs).party r in
    lived p (r ∷ rs) ≡ record { party = q.party; rules = (lived p rs).rules + q.rules; made = (lived p rs).made ++ q.made }
unfolding lived
lived_more p r rs = refl

module _ (v : Instance) (plan : Plan) (f : Shared v plan) (i : ℕ) (seat : i < v.n) where
  life_limits : (rs : List Record) → Life (new_board v plan i) rs → AllInLimits rs
  life_limits [] k = tt
  life_limits (r ∷ rs) (fits, k) =
      let s : Le (new_board v plan i) (lived (new_board v plan i) rs).party = le_lived (new_board v plan i) (board_regular v plan f i seat) rs k in (
        fits_limits (lived (new_board v plan i) rs).party (omega (arith, f.number, s.board.agreement)) (omega (arith, f.boards, s.board.n))
            (subst (λ (y : Plan). y.count ≤ max_width + 1) (sym s.board.plan) (shape plan (plan_valid_lem v plan f i seat)).most) r fits,
        life_limits rs k,
      )

  -- Restoring what a life wrote gives that life's party, the whole length, the sum of its rules, and all its messages.
  pub life_restored : (rs : List Record) → Life (new_board v plan i) rs → (out : List ℕ) → outgoing_size ≤ length out →
      let q = restore_questions v.n v.t i v.agreement v.plan (journal_bytes rs) (length out) in
      (restored_of q ≡ called_with (lived (new_board v plan i) rs) (length (journal_bytes rs)))
      × (restore_outgoing out q ≡ put_at out 0 (bytes_of (lived (new_board v plan i) rs).made))
  life_restored rs k out room =
      let e = restored v.n v.t i v.agreement v.plan plan f.boards f.faults seat f.reads rs k (life_limits rs k) (length out) room in
      (ap restored_of e, ap (restore_outgoing out) e)

  module _ (bad : Set) (h : History) (a : Allowed v bad h) where
    abbrev w : TiedAfter v plan bad f h i
    w = tied v plan bad f h a i seat

    abbrev b : Board
    b = board_after h i

    -- so a running board's own journal gives its own party and used length
    pub running_restored : (board_after h i).stage ≡ running → (out : ℕ) → outgoing_size ≤ out →
        let r = restored_of (restore_questions v.n v.t i v.agreement v.plan (board_after h i).journal out) in
        (r.verdict ≡ Verdict.Accepted) × (r.party ≡ (board_after h i).party) × (r.used ≡ length (board_after h i).journal)
    running_restored up out room =
        let e = restored_cut v.n v.t i v.agreement v.plan plan f.boards f.faults seat f.reads w.records w.life b.journal (holds_begins w.holds) out room in
        let u : Running v plan i (board_after h i) w.records = subst (AtStage v plan i b w.records) up w.stage in
        (ap (λ (q : Found Replay). (restored_of q).verdict) e, ap (λ (q : Found Replay). (restored_of q).party) e ∙ sym u.party, ap (λ (q : Found Replay). (restored_of q).used) e ∙ ap length (sym u.journal))

    -- "each later call gets the record, journal and used length as the call before left them", after an accepted restore
    pub restore_continues : (lent : Lent) → Lendable (board_after h i).journal lent.journal → (r : Replay)
        → restore_finds v.n v.t i v.agreement v.plan lent ≡ found r
        → Continues (after_restore (board_after h i) lent (found r)) (restored_of (found r)).party lent (restored_of (found r)).used
    restore_continues lent given r e =
        let l : Begins lent.journal w.records = lendable_begins b.journal lent.journal w.records w.holds given in
        let x = restored_found v.n v.t i v.agreement v.plan plan f.boards f.faults seat f.reads w.records w.life lent.journal l lent.out r e in
        subst (λ (y : Replay). Continues (after_restore b lent (found y)) (restored_of (found y)).party lent (restored_of (found y)).used) (sym x)
        (record { up = refl; same = refl; at = ap length (sym (begins_used l)); kept = refl })
