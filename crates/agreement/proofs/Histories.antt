-- Every history that document 01 allows is a valid one over logs, and ties each sound board to its log.
use mathlib.Core.Path.{◌≡◌, refl, sym, ap, ◌∙◌, subst, subst₂}
use mathlib.Core.Logic.{◌⊎◌, inl, inr}
use mathlib.Core.Bool.{Bool, true, false}
use mathlib.Core.List.{List, [], ◌∷◌}
use Prim.Native.Nat.{ℕ, ◌≤◌, ◌<◌}
use native.Mathlib.Omega.{arith}
use lib.Dec.{eqb, eqb→eq}
use lib.ListN.{length, take}
use Rattle.std.specs.Prelude.{Ok, Some, None}
use Rattle.base.specs.Pick.{pick}
use Rattle.base.specs.Sets.{Set}
use Rattle.base.specs.Verdict.{Verdict}
use Rattle.base.proofs.Bools.{true→T}
use Rattle.base.specs.Found.{Found, found, refused}
use Rattle.plan.specs.Plan.{Plan}
use Rattle.message.specs.declared.Message.{Message}
use Rattle.message.specs.Reading.{Exactly, exact_message}
use Rattle.message.specs.Message.{message_bytes}
use Rattle.journal.specs.declared.Record.{Record}
use Rattle.party.specs.Party.{Party, output_of}
use Rattle.party.specs.Run.{Ran}
use Rattle.party.specs.Valid.{party_valid}
use Rattle.party_life.specs.Life.{lived}
use Rattle.board_calls.specs.Answers.{position_of, answer_of, Answer}
use Rattle.board_calls.specs.Calls.{SetUp, Entry, again, fresh, set_up_of, answered_of, Answered}
use Rattle.board_calls.specs.Restore.{Replay}
use Rattle.board_laws.proofs.Counts.{count_refused}
use Rattle.execution.specs.Machine.{Event, Machine}
use Rattle.execution.specs.History as logs
use Rattle.execution.specs.History.{HStep, log, held, FairH}
use Rattle.execution.specs.Inner.{ValidH}
use Rattle.vote_machine.specs.Machine.{Sent, vote_machine, event_of}
use Rattle.vote_machine.proofs.Laws.{after_lived}
use Rattle.agreement.specs.History.{Instance, Lent, voted_input, Call, set_up, start, take_message_lem, read_answer, read_count, restore, start_finds, take_finds, restore_finds, read_as_count, Step, calls, hands, cut, whose, History, Stage, waiting, running, down, Act, a_start, a_take, Board, after_set_up, after_entry, after_answer, after_restore, after_call, after_cut, after_own, board_after}
use Rattle.agreement.specs.Allowed.{Refuses, Accepts, May, Allowed}
use Rattle.agreement.specs.Demand.{Shared}
use Rattle.agreement.proofs.Restored.{Begins, lendable_begins, lived_replay, restored_found}
use Rattle.agreement.proofs.Entries.{Recorded, start_recorded, take_recorded}
use Rattle.agreement.proofs.Lent.{entered, start_entered, take_entered}
use Rattle.agreement.proofs.Told.{machine_of, Tale, nothing, entry_tale, answer_tale, restore_tale, call_tale, hand_tale, cut_tale, whole_records, tale_of, log_after, held_after, told, log_added, held_added, handed_told, MayTell, valid_added}
use Rattle.agreement.proofs.Tied.{new_board, AtStage, Tied, tied_unborn, set_up_found}
use Rattle.agreement.proofs.Keeps.{tied_set_up, tied_read, tied_fresh, tied_counting, tied_guarding, tied_restored, cut_may, tied_cut}

-- a reading that is refused gives no answer
pub refused_answer : (p : Party) (k at : ℕ) → (answered_of p).verdict ≡ Verdict.Refused k at → (answered_of p).answer ≡ None
unfolding answered_of
refused_answer p k at e = go (party_valid p) e
  where
    yes_answer : Answered
    yes_answer = record { verdict = Verdict.Accepted; answer = answer_of p.plan (output_of p) }

    no_answer : Answered
    no_answer = record { verdict = Verdict.Refused 19 0; answer = None }

    go : (b : Bool) → (pick b yes_answer no_answer).verdict ≡ Verdict.Refused k at → (pick b yes_answer no_answer).answer ≡ None
    go true e = let z : ◌≡◌ {A = ℕ} 0 1 = cc in absurd (omega arith)
    go false e = refl

module _ (v : Instance) (plan : Plan) (bad : Set) (f : Shared v plan) where
  abbrev M : Machine
  M = vote_machine v.n v.t v.agreement plan

  abbrev Log : Type 0
  Log = List (HStep (machine_of v plan))

  -- board i is b after a step with this tale, which the history over logs allows
  record Goes (i : ℕ) (b : Board) (t : Tale) (H : List (HStep (machine_of v plan))) : Type 0 where
    tied : Tied v plan i b (log_after t (log (machine_of v plan) i H)) (held_after t (log (machine_of v plan) i H) (held (machine_of v plan) i H))
    may : MayTell v plan bad i t H

  -- the state by the log is the party of the records
  pub state_lived : (i : ℕ) → i < v.n → (b : Board) (l : List (Event Message ℕ)) (x : ℕ) (w : Tied v plan i b l x)
      → logs.after (machine_of v plan) i l ≡ (lived (new_board v plan i) w.records).party
  state_lived i k b l x w = ap (logs.after M i) w.events ∙ after_lived v.n v.t v.agreement plan i k w.records w.life

  module _ (i : ℕ) (seat : i < v.n) (b : Board) (H : List (HStep (machine_of v plan)))
      (w : Tied v plan i b (log (machine_of v plan) i H) (held (machine_of v plan) i H)) where
    stays : Goes i b nothing H
    stays = record { tied = w; may = tt }

    by_set_up : (s : SetUp) → b.stage ≡ waiting → s ≡ record { verdict = Verdict.Accepted; party = new_board v plan i } → Goes i (after_set_up b s.verdict s.party) nothing H
    by_set_up s e g =
        subst (λ (y : SetUp). Goes i (after_set_up b y.verdict y.party) nothing H) (sym g)
        (record { tied = tied_set_up v plan f i seat b (log M i H) (held M i H) w e; may = tt })

    by_entry : (a : Act) (q : Found Entry) (room used : ℕ) → b.stage ≡ running
        → ((r : Record) (ran : Ran) → q ≡ found (fresh r ran) → Recorded b.party room used r ran × FairH M v.n bad (event_of r) H)
        → Goes i (entered b a q) (entry_tale q) H
    by_entry a (found again) room used e g = record { tied = tied_counting v plan f i seat b (log M i H) (held M i H) w (entered b a (found again)).counted; may = tt }
    by_entry a (found (fresh r ran)) room used e g =
        let x = g r ran refl in
        record { tied = tied_fresh v plan f i seat b (log M i H) (held M i H) w e a room used r ran x.0; may = x.1 }
    by_entry a (refused number place) room used e g = stays

    by_answer : (a : Answer) → b.stage ≡ running → Goes i (after_answer b a) (answer_tale a) H
    by_answer None e = stays
    by_answer (Some z) e =
        record { tied = tied_guarding v plan f i seat b (log M i H) (held M i H) w e (after_answer b (Some z)).guarded (omega arith); may = tt }

    by_restore : (lent : Lent) → Begins lent.journal w.records → (q : Found Replay) → ((r : Replay) → q ≡ found r → r ≡ lived_replay (new_board v plan i) w.records)
        → Goes i (after_restore b lent q) (restore_tale q) H
    by_restore lent l (found r) g =
        subst (λ (y : Replay). Goes i (after_restore b lent (found y)) (restore_tale (found y)) H) (sym (g r refl))
        (record { tied = tied_restored v plan f i seat b (log M i H) (held M i H) w lent l; may = tt })
    by_restore lent l (refused number place) g = stays

    by_cut : (s : Stage) (k : ℕ) → b.guarded ≤ k → Goes i (after_cut b s k) (cut_tale s (whole_records (take k b.journal))) H
    by_cut waiting k g = stays
    by_cut running k g =
        record { tied = tied_cut v plan f i seat b (log M i H) (held M i H) w k g; may = cut_may v plan f i seat b (log M i H) (held M i H) w k g }
    by_cut down k g =
        record { tied = tied_cut v plan f i seat b (log M i H) (held M i H) w k g; may = cut_may v plan f i seat b (log M i H) (held M i H) w k g }

    by_hand : (bytes : List ℕ) → b.stage ≡ running → (m : Message) → bytes ≡ message_bytes m → Sent (lived (new_board v plan i) w.records).party m
        → Goes i (after_own b (hands i bytes)) (hand_tale (exact_message bytes)) H
    by_hand bytes e m g o =
        let x : exact_message bytes ≡ Ok m = ap exact_message g ∙ tied_read v plan f i seat b (log M i H) (held M i H) w m o in
        subst (λ (y : Exactly). Goes i (after_own b (hands i bytes)) (hand_tale y) H) (sym x)
        (record {
          tied = tied_guarding v plan f i seat b (log M i H) (held M i H) w e (after_own b (hands i bytes)).guarded (omega arith);
          may = subst (λ (y : Party). Sent y m) (sym (state_lived i seat b (log M i H) (held M i H) w)) o;
        })

  -- ---- calls

  module _ (i : ℕ) (seat : i < v.n) (h : History)
      (w : Tied v plan i (board_after h i) (log (machine_of v plan) i (told v plan h)) (held (machine_of v plan) i (told v plan h))) where
    abbrev b : Board
    b = board_after h i

    abbrev H : List (HStep (machine_of v plan))
    H = told v plan h

    by_call : (c : Call) → Accepts v bad i h (board_after h i) c → Goes i (after_call (board_after h i) c) (call_tale c) (told v plan h)
    by_call (set_up n t a g bytes) (e, o) =
        by_set_up i seat b H w (set_up_of n t a g bytes) e
        ((λ z. set_up_of (o.boards z) (o.faults z) (o.seat z) (o.number z) (o.bytes z)) ∙ set_up_found v plan f i seat)
    by_call (start p input lent used) c =
        subst (λ (y : Board). Goes i y (call_tale (start p input lent used)) H) (sym (start_entered b p lent used c input))
        (by_entry i seat b H w (a_start (position_of p.plan (voted_input input)) input) (start_finds p input lent used) (length lent.journal) used c.up (λ r ran e.
        let x = start_recorded p input lent used r ran e in
        (subst (λ (q : Party). Recorded q (length lent.journal) used r ran) c.same x.2, subst (λ (y : Record). FairH M v.n bad (event_of y) H) x.0 tt)))
    by_call (take_message_lem p sender bytes lent used) (c, from) =
        subst (λ (y : Board). Goes i y (call_tale (take_message_lem p sender bytes lent used)) H) (sym (take_entered b p lent used c sender bytes))
        (by_entry i seat b H w (a_take sender (exact_message bytes)) (take_finds p sender bytes lent used) (length lent.journal) used c.up (λ r ran e.
        let x = take_recorded p sender bytes (length lent.journal) used lent.out r ran e in (
          subst (λ (q : Party). Recorded q (length lent.journal) used r ran) c.same x.3,
          subst (λ (y : Record). FairH M v.n bad (event_of y) H) x.2 (λ g. handed_told v plan h sender bytes x.0 (from g) x.1),
        )))
    by_call (read_answer p) e = by_answer i seat b H w (answered_of p).answer e.0
    by_call (read_count p g c) e = by_answer i seat b H w (read_as_count p g c).answer e.0
    by_call (restore n t a g bytes lent) (e, o, given) =
        let l : Begins lent.journal w.records = lendable_begins b.journal lent.journal w.records w.holds given in
        by_restore i seat b H w lent l (restore_finds n t a g bytes lent) (λ r x.
        restored_found v.n v.t i v.agreement v.plan plan f.boards f.faults seat f.reads w.records w.life lent.journal l lent.out r
        (sym (λ z. restore_finds (o.boards z) (o.faults z) (o.seat z) (o.number z) (o.bytes z) lent) ∙ x))

    -- a refused call changes nothing
    by_refusal : (c : Call) → Refuses c → Goes i (after_call (board_after h i) c) (call_tale c) (told v plan h)
    by_refusal (set_up n t a g bytes) e =
        subst (λ (y : Verdict). Goes i (after_set_up b y (set_up_of n t a g bytes).party) nothing H) (sym e.1.1) (stays i seat b H w)
    by_refusal (start p input lent used) e =
        subst (λ (y : Found Entry). Goes i (after_entry b (a_start (position_of p.plan (voted_input input)) input) p lent used y) (entry_tale y) H) (sym e.1.1) (stays i seat b H w)
    by_refusal (take_message_lem p sender bytes lent used) e =
        subst (λ (y : Found Entry). Goes i (after_entry b (a_take sender (exact_message bytes)) p lent used y) (entry_tale y) H) (sym e.1.1) (stays i seat b H w)
    by_refusal (read_answer p) e =
        subst (λ (y : Answer). Goes i (after_answer b y) (answer_tale y) H) (sym (refused_answer p e.0 e.1.0 e.1.1)) (stays i seat b H w)
    by_refusal (read_count p g c) e =
        subst (λ (y : Answer). Goes i (after_answer b y) (answer_tale y) H) (sym (count_refused p g c e.1.1)) (stays i seat b H w)
    by_refusal (restore n t a g bytes lent) e = subst (λ (y : Found Replay). Goes i (after_restore b lent y) (restore_tale y) H) (sym e.1.1) (stays i seat b H w)

  -- ---- steps

  goes : (s : Step) (h : History) → May v bad s h → whose s < v.n
      → Tied v plan (whose s) (board_after h (whose s)) (log (machine_of v plan) (whose s) (told v plan h)) (held (machine_of v plan) (whose s) (told v plan h))
      → Goes (whose s) (after_own (board_after h (whose s)) s) (tale_of (board_after h (whose s)) s) (told v plan h)
  goes (calls i c) h (g, m) seat w = go m
    where
      go : Refuses c ⊎ Accepts v bad i h (board_after h i) c → Goes i (after_call (board_after h i) c) (call_tale c) (told v plan h)
      go (inl e) = by_refusal i seat h w c e
      go (inr e) = by_call i seat h w c e
  goes (hands i m) h (g, e, (x, q, o)) seat w =
      by_hand i seat (board_after h i) (told v plan h) w m e x q ((subst (AtStage v plan i (board_after h i) w.records) e w.stage).outbox x o)
  goes (cut i k) h (g, m) seat w = by_cut i seat (board_after h i) (told v plan h) w (board_after h i).stage k m

  seated : (s : Step) (h : History) → May v bad s h → whose s < v.n
  seated (calls i c) h m = m.0.0
  seated (hands i x) h m = m.0.0
  seated (cut i k) h m = m.0.0

  -- ---- whole histories

  abbrev pub TiedAfter : History → ℕ → Type 0
  TiedAfter h i = Tied v plan i (board_after h i) (log (machine_of v plan) i (told v plan h)) (held (machine_of v plan) i (told v plan h))

  -- a step of board j, for board i
  pick_tied : (s : Step) (h : History) → Goes (whose s) (after_own (board_after h (whose s)) s) (tale_of (board_after h (whose s)) s) (told v plan h)
      → (i : ℕ) → TiedAfter h i → (c : Bool) → eqb (whose s) i ≡ c
      → Tied v plan i (pick c (after_own (board_after h i) s) (board_after h i))
      (pick c (log_after (tale_of (board_after h (whose s)) s) (log (machine_of v plan) i (told v plan h))) (log (machine_of v plan) i (told v plan h)))
      (pick c (held_after (tale_of (board_after h (whose s)) s) (log (machine_of v plan) i (told v plan h)) (held (machine_of v plan) i (told v plan h))) (held (machine_of v plan) i (told v plan h)))
  pick_tied s h g i w true e =
      subst (λ (j : ℕ). Tied v plan j (after_own (board_after h j) s) (log_after (tale_of (board_after h (whose s)) s) (log M j (told v plan h)))
      (held_after (tale_of (board_after h (whose s)) s) (log M j (told v plan h)) (held M j (told v plan h)))) (eqb→eq (whose s) i (true→T e)) g.tied
  pick_tied s h g i w false e = w

  after_step : (s : Step) (h : History) → Goes (whose s) (after_own (board_after h (whose s)) s) (tale_of (board_after h (whose s)) s) (told v plan h)
      → (i : ℕ) → TiedAfter h i → TiedAfter (s ∷ h) i
  unfolding told board_after
  after_step s h g i w =
      let t : Tale = tale_of (board_after h (whose s)) s in
      subst₂ (λ (l : List (Event Message ℕ)) (x : ℕ). Tied v plan i (pick (eqb (whose s) i) (after_own (board_after h i) s) (board_after h i)) l x)
      (sym (log_added v plan (whose s) t (told v plan h) i)) (sym (held_added v plan (whose s) t (told v plan h) i))
      (pick_tied s h g i w (eqb (whose s) i) refl)

  -- every board of the vote is tied to its log
  pub tied : (h : History) → Allowed v bad h → (i : ℕ) → i < v.n → TiedAfter h i
  unfolding told board_after log held
  tied [] a i k = tied_unborn v plan f i k
  tied (s ∷ h) (m, a) i k =
      after_step s h (goes s h m (seated s h m) (tied h a (whose s) (seated s h m))) i (tied h a i k)

  -- and the history over logs is valid
  pub told_valid : (h : History) → Allowed v bad h → ValidH (machine_of v plan) v.n bad (told v plan h)
  unfolding told
  told_valid [] a = tt
  told_valid (s ∷ h) (m, a) =
      valid_added v plan bad (whose s) (tale_of (board_after h (whose s)) s) (told v plan h) (told_valid h a)
      (goes s h m (seated s h m) (tied h a (whose s) (seated s h m))).may
