-- Answers that are not equal, that are nobody's input, and that stand for one position.
use mathlib.Core.Path.{◌≡◌, refl, sym, ap, ◌∙◌}
use mathlib.Core.Logic.{inl}
use mathlib.Core.Bool.{true, not}
use Prim.Native.Nat.{ℕ, zero, suc, ◌<◌}
use native.Mathlib.Omega.{arith}
use lib.Dec.{T, eqb}
use lib.IntN.{pos, nat_abs}
use Rattle.base.proofs.Bools.{true→T}
use Rattle.plan.specs.Positions.{reading_of}
use Rattle.agreement_histories.specs.Scripts.{history_of}
use Rattle.agreement_histories.specs.Neighbours as neighbours
use Rattle.agreement_histories.specs.Grades as grades
use Rattle.agreement_histories.proofs.Neighbours as neighbours-run
use Rattle.agreement_histories.proofs.Grades as grades-run
use Rattle.agreement_histories.proofs.Passing.{passes, ending, shown, premises_of}
use Rattle.agreement_histories.proofs.Computing.{computing}
use Rattle.agreement_premises.specs.Examples.{two, two_plan, alone, nobody}
use Rattle.agreement_premises.specs.Claims.{NearIsEqual, AnswerIsAnInput, ReadingsOffByOne, begins}
use Rattle.agreement_premises.proofs.Starts.{all_in, starts_at, started_in, apart→}
use Rattle.agreement_premises.proofs.Failing.{sound_alone, script_answers}
use Rattle.agreement_premises.proofs.Premises.{begins_passes, begins_answers}

-- the boards of `Neighbours` answer 3 and 2
pub near_is_equal : NearIsEqual → ⊥
near_is_equal claim =
    let c = neighbours-run.conclusion in
    let r = claim neighbours.vote neighbours.plan neighbours.bad (history_of neighbours.vote neighbours.script) c.premises 0 1 (pos 3) (pos 2)
    (omega arith, tt) (omega arith, tt) (inl (c.answer 0 (omega arith))) (inl (c.answer 1 (omega arith))) in
    let e : ◌≡◌ {A = ℕ} 3 2 = ap nat_abs (sym r.2.1 ∙ ap (reading_of neighbours.plan) r.4 ∙ r.3.1) in
    omega arith

-- board 0 of `Grades` answers 1, and the boards start at 2 and 0
grades_pass : passes grades.vote grades.bad grades.script ≡ true
unfolding computing grades.script
grades_pass = refl

grades_start : starts_at grades.vote (ending grades.vote grades.script) (λ x. not (eqb x 1)) ≡ true
unfolding computing grades.script all_in
grades_start = refl

reads_1 : (x : ℕ) → x < 3 → reading_of grades.plan x ≡ pos 1 → T (not (eqb x 1)) → ⊥
unfolding computing
reads_1 zero l e d = apart→ grades.plan 0 (pos 1) tt e
reads_1 (suc zero) l e d = d
reads_1 (suc (suc zero)) l e d = apart→ grades.plan 2 (pos 1) tt e
reads_1 (suc (suc (suc x))) l e d = absurd (omega arith)

pub answer_is_an_input : AnswerIsAnInput → ⊥
answer_is_an_input claim =
    let c = grades-run.conclusion in
    let r = claim grades.vote grades.plan grades.bad (history_of grades.vote grades.script) c.premises 0 (pos 1) (omega arith, tt) (inl (c.answer 0 (omega arith))) in
    reads_1 r.0 r.1.0 r.1.1
    (started_in grades.vote (ending grades.vote grades.script) (history_of grades.vote grades.script) (shown grades.vote grades.bad grades.script grades_pass)
    (λ x. not (eqb x 1)) (true→T grades_start) r.2.0 r.0 r.2.1 r.2.2.0 r.2.3.started)

-- a board alone answers 0, which is the reading of position 0 and of no next one
not_next : (x : ℕ) → x < 2 → reading_of two_plan (suc x) ≡ pos 0 → ⊥
unfolding computing
not_next zero l e = apart→ two_plan 1 (pos 0) tt e
not_next (suc zero) l e = apart→ two_plan 2 (pos 0) tt e
not_next (suc (suc x)) l e = absurd (omega arith)

pub readings_off_by_one : ReadingsOffByOne → ⊥
unfolding computing
readings_off_by_one claim =
    let r = claim (alone two) two_plan nobody (history_of (alone two) begins) (premises_of (alone two) nobody begins begins_passes two_plan refl refl) 0 (pos 0)
    (sound_alone two) (script_answers (alone two) nobody begins begins_passes (pos 0) begins_answers) in
    not_next r.0 r.1 r.2
