-- Too many faulty boards, an agreement number that no record can have, and a plan that is not the vote's.
use mathlib.Core.Path.{◌≡◌, refl}
use mathlib.Core.Bool.{true}
use native.Mathlib.Omega.{arith}
use lib.IntN.{pos}
use Rattle.std.specs.Prelude.{Some, None}
use Rattle.agreement_histories.specs.Scripts.{history_of}
use Rattle.agreement_histories.proofs.Passing.{passes, ending, answer_in, allowed, shown, sharing}
use Rattle.agreement_histories.proofs.Delivery.{full}
use Rattle.agreement_histories.proofs.Delivered.{complete}
use Rattle.agreement_histories.proofs.Computing.{computing}
use Rattle.agreement_premises.specs.Examples.{two, three, two_plan, three_plan, elsewhere_plan, alone, four, nobody}
use Rattle.agreement_premises.specs.Claims.{TwiceTheFaults, half, deceived, NumberTooLarge, unreadable, cut_after, PlanNotRead, begins}
use Rattle.agreement_premises.proofs.Starts.{all_in, misplaced}
use Rattle.agreement_premises.proofs.Failing.{sound_alone, now, unanswered, script_fails}

-- ---- twice the faults

deceived_passes : passes (four three) half deceived ≡ true
unfolding computing deceived
deceived_passes = refl

deceived_answers : answer_in (four three) (ending (four three) deceived) 0 ≡ Some (pos 1)
unfolding computing deceived
deceived_answers = refl

deceived_misplaced : misplaced (four three) three_plan (ending (four three) deceived) 0 (pos 1) ≡ true
unfolding computing deceived all_in
deceived_misplaced = refl

pub twice_the_faults : TwiceTheFaults → ⊥
unfolding computing
twice_the_faults claim =
    script_fails (four three) half deceived deceived_passes (pos 1) deceived_answers three_plan 0 deceived_misplaced (omega arith, tt)
    (claim (four three) three_plan half (history_of (four three) deceived)
    (sharing (four three) three_plan nobody tt refl).0 (omega arith) (allowed (four three) half deceived deceived_passes))

-- ---- a number that is too large

unreadable_passes : passes unreadable nobody cut_after ≡ true
unfolding computing cut_after
unreadable_passes = refl

unreadable_full : full unreadable nobody (ending unreadable cut_after) ≡ true
unfolding computing cut_after
unreadable_full = refl

unreadable_answers : answer_in unreadable (ending unreadable cut_after) 0 ≡ None
unfolding computing cut_after
unreadable_answers = refl

pub number_too_large : NumberTooLarge → ⊥
unfolding computing
number_too_large claim =
    unanswered (now unreadable (ending unreadable cut_after) (history_of unreadable cut_after) (shown unreadable nobody cut_after unreadable_passes) 0 None unreadable_answers)
    ((claim unreadable two_plan nobody (history_of unreadable cut_after) (omega arith) (omega arith) (omega arith) refl (omega arith) (allowed unreadable nobody cut_after unreadable_passes)
    ).ending (complete unreadable nobody cut_after unreadable_passes unreadable_full) 0 (omega arith, tt))

-- ---- another plan than the bytes give

pub begins_passes : passes (alone two) nobody begins ≡ true
unfolding computing begins
begins_passes = refl

pub begins_answers : answer_in (alone two) (ending (alone two) begins) 0 ≡ Some (pos 0)
unfolding computing begins
begins_answers = refl

begins_misplaced : misplaced (alone two) elsewhere_plan (ending (alone two) begins) 0 (pos 0) ≡ true
unfolding computing begins all_in
begins_misplaced = refl

pub plan_not_read : PlanNotRead → ⊥
unfolding computing
plan_not_read claim =
    let c = sharing (alone two) two_plan nobody tt refl in
    script_fails (alone two) nobody begins begins_passes (pos 0) begins_answers elsewhere_plan 0 begins_misplaced (sound_alone two)
    (claim (alone two) elsewhere_plan two_plan nobody (history_of (alone two) begins) c.0 c.1 (allowed (alone two) nobody begins begins_passes))
