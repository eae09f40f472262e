-- What a sound board answers, has started with, has taken and has made, by the state that its log gives.
use mathlib.Core.Path.{◌≡◌, refl, sym, ap, ◌∙◌, subst, subst₂}
use mathlib.Core.Logic.{◌↔◌}
use mathlib.Core.List.{List, [], Memᴰ}
use Prim.Native.Nat.{ℕ, ◌<◌}
use native.Mathlib.Omega.{arith}
use lib.Dec.{T}
use lib.IntN.{ℤ}
use borrow.Author.Tests.{ne_eqb}
use Rattle.std.specs.Prelude.{Ok, Some, None}
use Rattle.base.specs.Sets.{Set}
use Rattle.base.specs.Limits.{outgoing_size}
use Rattle.base.proofs.Bools.{T→true}
use Rattle.base.specs.Found.{Found}
use Rattle.plan.specs.Plan.{Plan}
use Rattle.plan.specs.Positions.{reading_of}
use Rattle.message.specs.declared.Message.{Message}
use Rattle.message.specs.Message.{message_bytes}
use Rattle.message.specs.Reading.{exact_message}
use Rattle.level.specs.Level.{Level, no_output}
use Rattle.journal.specs.declared.Record.{Record}
use Rattle.journal.specs.declared.Record.TheVariants.{Start, Taken}
use Rattle.journal.proofs.Records.{holds_records}
use Rattle.party.specs.Party.{Party, new_party, level_at, started, output_of}
use Rattle.party.specs.Valid.{party_valid}
use Rattle.party_laws.proofs.Laws.{SameBoard, Formed}
use Rattle.party_laws.proofs.Calls.{new_level}
use Rattle.party_life.specs.Life.{lived, made_along}
use Rattle.board_calls.specs.Answers.{answer_of}
use Rattle.board_calls.specs.Calls.{answered_of, no_party}
use Rattle.board_calls.specs.Restore.{Replay, restored_of}
use Rattle.board_laws.proofs.Counts.{answered_valid}
use Rattle.execution.specs.Machine.{Machine}
use Rattle.execution.specs.History as logs
use Rattle.execution.specs.History.{log, held}
use Rattle.vote_machine.specs.Machine.{Heard, Sent, vote_machine}
use Rattle.vote_machine.specs.Inner.{Inv}
use Rattle.vote_machine.proofs.Laws.{inv_new, inv_lived, le_lived, made_sent, taken_heard, start_entered, start_lived}
use Rattle.agreement.specs.History.{Instance, History, Stage, waiting, running, down, board_after}
use Rattle.agreement.specs.Allowed.{Allowed}
use Rattle.agreement.specs.Demand.{party_by, answer_now, Shared}
use Rattle.agreement.specs.Inner.{records_of, StartRecorded, TakeRecorded, RecordsMade}
use Rattle.agreement.proofs.Restored.{holds_begins, restored_cut}
use Rattle.agreement.proofs.Told.{machine_of, told}
use Rattle.agreement.proofs.Tied.{new_board, Running, AtStage, Tied, plan_valid_lem, settings_pass_lem, board_regular}
use Rattle.agreement.proofs.Keeps.{tied_read}
use Rattle.agreement.proofs.Histories.{state_lived, tied}

-- ---- answers

pub answered_none : (answered_of no_party).answer ≡ None
unfolding answered_of party_valid
answered_none = refl

pub answer_none : (plan : Plan) (x : ℕ) → x ≡ no_output → answer_of plan x ≡ None
unfolding answer_of
answer_none plan x e = rw e

pub answer_at : (plan : Plan) (x : ℕ) → (x ≡ no_output → ⊥) → answer_of plan x ≡ Some (reading_of plan x)
unfolding answer_of
answer_at plan x d = rw (ne_eqb x no_output d)

-- an answer is an output's reading
pub answer_reading : (plan : Plan) (x : ℕ) (z : ℤ) → answer_of plan x ≡ Some z → (x ≡ no_output → ⊥) × (reading_of plan x ≡ z)
answer_reading plan x z e = (there, same)
  where
    there : x ≡ no_output → ⊥
    there n = let f : None ≡ Some z = sym (answer_none plan x n) ∙ e in let o : ◌≡◌ {A = ℕ} 0 1 = cc in omega arith

    same : reading_of plan x ≡ z
    same = let f : Some (reading_of plan x) ≡ Some z = sym (answer_at plan x there) ∙ e in cc

-- a party that has not started has none
new_output : (n t own a : ℕ) (plan : Plan) → output_of (lived (new_party n t own a plan) []).party ≡ no_output
unfolding lived
new_output n t own a plan = ap (λ (l : Level). l.output) (new_level n t own a plan 0 (omega arith))

-- ---- the state that a board's log gives

abbrev pub state_of : Instance → Plan → History → ℕ → Party
state_of v plan h i = logs.after (machine_of v plan) i (log (machine_of v plan) i (told v plan h))

module _ (v : Instance) (plan : Plan) (bad : Set) (f : Shared v plan) where
  abbrev M : Machine
  M = vote_machine v.n v.t v.agreement plan

  module _ (h : History) (a : Allowed v bad h) (i : ℕ) (k : i < v.n) where
    abbrev w : Tied v plan i (board_after h i) (log (machine_of v plan) i (told v plan h)) (held (machine_of v plan) i (told v plan h))
    w = tied v plan bad f h a i k

    abbrev p : Party
    p = new_board v plan i

    -- it is the party of the board's records
    pub state_records : state_of v plan h i ≡ (lived (new_board v plan i) (tied v plan bad f h a i k).records).party
    state_records = state_lived v plan bad f i k (board_after h i) (log M i (told v plan h)) (held M i (told v plan h)) w

    -- a running board's party is it
    pub running_state : (board_after h i).stage ≡ running → (board_after h i).party ≡ state_of v plan h i
    running_state up =
        let u : Running v plan i (board_after h i) w.records = subst (AtStage v plan i (board_after h i) w.records) up w.stage in
        u.party ∙ sym state_records

    pub state_inv : Inv (state_of v plan h i)
    state_inv =
        subst Inv (sym state_records)
        (inv_lived p (inv_new v.n v.t i v.agreement plan (settings_pass_lem v plan f i k) (plan_valid_lem v plan f i k)) w.records w.life)

    pub state_formed : Formed (state_of v plan h i)
    state_formed = state_inv.regular.formed

    -- its settings and plan are those of the vote
    pub state_board : SameBoard (new_board v plan i) (state_of v plan h i)
    state_board = subst (SameBoard p) (sym state_records) (le_lived p (board_regular v plan f i k) w.records w.life).board

    pub state_plan : (state_of v plan h i).plan ≡ plan
    state_plan = state_board.plan

    -- a party that it is
    pub state_answer : (q : Party) → q ≡ state_of v plan h i → (answered_of q).answer ≡ answer_of plan (output_of (state_of v plan h i))
    state_answer q e =
        ap (λ (y : Party). (answered_of y).answer) e
        ∙ answered_valid (state_of v plan h i) state_formed.valid
        ∙ ap (λ (y : Plan). answer_of y (output_of (state_of v plan h i))) state_plan

    -- a cut board's party, once restored, is it
    pub down_state : party_by v i (board_after h i) down ≡ state_of v plan h i
    down_state =
        ap (λ (q : Found Replay). (restored_of q).party) (restored_cut v.n v.t i v.agreement v.plan plan f.boards f.faults k f.reads w.records w.life (board_after h i).journal (holds_begins w.holds) outgoing_size (omega arith))
        ∙ sym state_records

    -- the party that reading is asked of is that of the board's log; a board not set up has no answer, as its log has none
    pub answer_now_lem : answer_now v h i ≡ answer_of plan (output_of (state_of v plan h i))
    answer_now_lem = go (board_after h i).stage w.stage
      where
        go : (s : Stage) → AtStage v plan i (board_after h i) w.records s → (answered_of (party_by v i (board_after h i) s)).answer ≡ answer_of plan (output_of (state_of v plan h i))
        go waiting e =
            answered_none
            ∙ sym (answer_none plan (output_of (state_of v plan h i))
            (ap output_of (state_records ∙ ap (λ (rs : List Record). (lived p rs).party) e) ∙ new_output v.n v.t i v.agreement plan))
        go running r = state_answer (board_after h i).party (r.party ∙ sym state_records)
        go down _ = state_answer (party_by v i (board_after h i) down) down_state

    -- ---- what its records tell

    pub records_of_lem : records_of h i ≡ (tied v plan bad f h a i k).records
    records_of_lem = holds_records w.holds

    -- it started at x: it has entered level 0 there
    pub started_state : (x : ℕ) → StartRecorded h i x ↔ (T (started (state_of v plan h i)) × ((level_at (state_of v plan h i) 0).position ≡ x))
    started_state x =
        subst₂ (λ (q : Party) (rs : List Record). ((b : ℕ) × Memᴰ (Start b x) rs) ↔ (T (started q) × ((level_at q 0).position ≡ x))) (sym state_records) (sym records_of_lem)
        (start_entered v.n v.t i v.agreement plan (settings_pass_lem v plan f i k) (plan_valid_lem v plan f i k) w.records w.life x)

    -- which is a position of the plan
    pub started_position : (x : ℕ) → StartRecorded h i x → x < plan.count
    started_position x (b, m) =
        (start_lived p (board_regular v plan f i k) w.records w.life b x (subst (λ (rs : List Record). Memᴰ (Start b x) rs) records_of_lem m)).1

    -- it took m from board j: it has heard it
    pub took_state : (j : ℕ) (m : Message) → TakeRecorded h i j m ↔ Heard (state_of v plan h i) j m
    took_state j m =
        subst₂ (λ (q : Party) (rs : List Record). Memᴰ (Taken j m) rs ↔ Heard q j m) (sym state_records) (sym records_of_lem)
        (taken_heard v.n v.t i v.agreement plan (settings_pass_lem v plan f i k) (plan_valid_lem v plan f i k) w.records w.life j m)

    -- its calls made m
    pub makes_state : (m : Message) → RecordsMade v plan h i m ↔ Sent (state_of v plan h i) m
    makes_state m =
        subst₂ (λ (q : Party) (rs : List Record). Memᴰ m (made_along (new_board v plan i) rs) ↔ Sent q m) (sym state_records) (sym records_of_lem)
        (made_sent v.n v.t i v.agreement plan (settings_pass_lem v plan f i k) (plan_valid_lem v plan f i k) w.records w.life m)

    -- reading a made message's bytes gives it
    pub sent_read : (m : Message) → Sent (state_of v plan h i) m → exact_message (message_bytes m) ≡ Ok m
    sent_read m s =
        tied_read v plan f i k (board_after h i) (log M i (told v plan h)) (held M i (told v plan h)) w m (subst (λ (q : Party). Sent q m) state_records s)
