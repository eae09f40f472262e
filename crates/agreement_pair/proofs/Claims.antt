-- What the must-fail edits claim is false: a reading that guards one journal only, answers that are equal, one vote that is complete, inputs of boards sound in
-- both votes.
use mathlib.Core.Path.{◌≡◌, refl, sym, ap, ◌∙◌, subst}
use mathlib.Core.Logic.{inl}
use mathlib.Core.Bool.{true}
use mathlib.Core.List.Memᴰ
use mathlib.Core.List.{List, [], ◌∷◌, ◌++◌}
use Prim.Native.Nat.{ℕ, ◌≤◌}
use native.Mathlib.Omega.{arith}
use lib.IntN.{ℤ, pos}
use lib.Signed.{◌≤ℤ◌}
use Rattle.std.specs.Prelude.{Some, None}
use Rattle.base.specs.Found.{found}
use Rattle.plan.specs.Positions.{reading_of}
use Rattle.board_pair.specs.Pair.{pair_questions}
use Rattle.agreement.specs.History.{History, running, board_after}
use Rattle.agreement.specs.Demand.{Started, answer_now, Complete, Premises}
use Rattle.agreement.specs.Ranges.{Input}
use Rattle.agreement.proofs.Boards.{answered_none}
use Rattle.agreement_histories.specs.Scripts.{Action, starts, reads, cuts, restores, history_of}
use Rattle.agreement_histories.proofs.Worlds.{board_of}
use Rattle.agreement_histories.proofs.Passing.{passes, ending, premises_of}
use Rattle.agreement_histories.proofs.Delivery.{starts_in, full}
use Rattle.agreement_histories.proofs.Delivered.{complete, only_there}
use Rattle.agreement_histories.proofs.Computing.{computing}
use Rattle.agreement_pair.specs.History.{Coordinate, first, second, history_in, in_both}
use Rattle.agreement_pair.specs.Demand.{SoundInBoth}
use Rattle.agreement_pair.specs.Example.{both}
use Rattle.agreement_pair.specs.Example as example
use Rattle.agreement_pair.specs.Claims.{without_pair_readings, guarding_one, OwnRecords, OneJournal, vote, plan, bad, begins, begun, record_of, power_goes, starts_anew, lost, SameReading, OneComplete, half}
use Rattle.agreement_pair.proofs.Theorem.{now_each}
use Rattle.agreement_pair.proofs.Example.{off_the_line}

-- ---- a board alone

ranges : (c : Coordinate) → (plan c).kind ≡ 2
ranges c = refl

numbers : (vote first).agreement ≡ (vote second).agreement → ⊥
numbers e = omega arith

sound : SoundInBoth vote bad (both 0)
sound first = (omega arith, tt)
sound second = (omega arith, tt)

-- scripts of both votes
premises : (script : Coordinate → List Action) → ((c : Coordinate) → passes (vote c) (bad c) (script c) ≡ true)
    → (c : Coordinate) → Premises (vote c) (plan c) (bad c) (history_of (vote c) (script c))
unfolding computing
premises script f first = premises_of (vote first) (bad first) (script first) (f first) (plan first) refl refl
premises script f second = premises_of (vote second) (bad second) (script second) (f second) (plan second) refl refl

-- ---- one journal

abbrev script : Coordinate → List Action
script first = begins ++ (reads 0 ∷ cuts 0 3 ∷ restores 0 ∷ [])
script second = begins ++ (cuts 0 0 ∷ restores 0 ∷ starts 0 (pos 1) ∷ [])

passing : (c : Coordinate) → passes (vote c) (bad c) (script c) ≡ true
unfolding computing
passing first = refl
passing second = refl

reading : pair_questions (record_of first) (record_of second) ≡ found (Some (pos 0, pos 0))
unfolding computing pair_questions
reading = refl

lost_in : (c : Coordinate) → guarding_one c lost ≡ history_of (vote c) (script c)
unfolding computing pair_questions history_in without_pair_readings
lost_in first = refl
lost_in second = refl

own_records : OwnRecords lost
unfolding computing history_in without_pair_readings
own_records = (each, tt)
  where
    each : (c : Coordinate) → ((board_after (guarding_one c (in_both begun)) 0).stage ≡ running) × (record_of c ≡ (board_after (guarding_one c (in_both begun)) 0).party)
    each first = (refl, refl)
    each second = (refl, refl)

starts_at_1 : starts_in (board_of (ending (vote second) (script second)) 0).counted ≡ 1 ∷ []
unfolding computing
starts_at_1 = refl

reads_1 : reading_of (plan second) 1 ≡ pos 1
unfolding computing
reads_1 = refl

-- the second vote has no input but 1
only_1 : (a : ℤ) → Input (vote second) (plan second) (bad second) (guarding_one second lost) a → pos 1 ≡ a
only_1 a (j, x, o, s) =
    let e : j ≡ 0 = omega (arith, o.0) in
    let at = only_there (vote second) (bad second) (script second) (passing second) 0 1 starts_at_1 x a
    (subst (λ (h : History). Started h 0 x a) (lost_in second) (subst (λ (k : ℕ). Started (guarding_one second lost) k x a) e s.started)) in
    sym reads_1 ∙ ap (reading_of (plan second)) (sym at) ∙ s.stands.1

pub one_journal : OneJournal → ⊥
one_journal claim =
    let r = claim vote plan bad lost (λ c. subst (Premises (vote c) (plan c) (bad c)) (sym (lost_in c)) (premises script passing c)) own_records ranges numbers
    (both 0) (λ c. pos 0) sound record_of (Memᴰ.append_right (in_both starts_anew) (Memᴰ.append_right (in_both power_goes) (Memᴰ.head refl))) reading second in
    (subst (λ (a : ℤ). a ≤ℤ pos 0) (sym (only_1 r.0 r.2)) r.4).le

-- ---- the same reading

pub same_reading : SameReading → ⊥
same_reading claim =
    let a = off_the_line 0 (omega arith) in
    let b = off_the_line 1 (omega arith) in
    let d : 1 ≤ 0 = claim example.vote example.plan example.bad example.history a.premises (both 0) (both 1) (example.answer 0) (example.answer 1) a.sound b.sound
    (inl a.held) (inl b.held) first in
    omega arith

-- ---- one vote complete

abbrev started : Coordinate → List Action
started first = begins
started second = []

started_passes : (c : Coordinate) → passes (vote c) (bad c) (started c) ≡ true
unfolding computing
started_passes first = refl
started_passes second = refl

all_taken_lem : full (vote first) (bad first) (ending (vote first) begins) ≡ true
unfolding computing
all_taken_lem = refl

half_in : (c : Coordinate) → history_in c half ≡ history_of (vote c) (started c)
unfolding computing history_in
half_in first = refl
half_in second = refl

pub one_complete : OneComplete → ⊥
unfolding computing
one_complete claim =
    let r = claim vote plan bad half
    (record { votes = λ c. subst (Premises (vote c) (plan c) (bad c)) (sym (half_in c)) (premises started started_passes c); ranges = ranges; numbers = numbers })
    (subst (Complete (vote first) (bad first)) (sym (half_in first)) (complete (vote first) (bad first) begins (started_passes first) all_taken_lem)) (both 0) sound in
    let y = r.0 in
    let n : None ≡ Some (y second) =
    sym answered_none ∙ subst (λ (h : History). answer_now (vote second) h 0 ≡ Some (y second)) (half_in second) (now_each vote half (both 0) y r.1 second) in
    let o : ◌≡◌ {A = ℕ} 0 1 = cc in
    omega arith
