-- What `inputs_of_both` claims is false: a reading need not lie between those of boards that are sound in both votes.
use mathlib.Core.Path.{◌≡◌, refl, sym, ap, ◌∙◌, subst}
use mathlib.Core.Logic.{inl}
use mathlib.Core.Bool.{true}
use mathlib.Core.List.{[], ◌∷◌}
use Prim.Native.Nat.{ℕ, zero, suc}
use native.Mathlib.Omega.{arith}
use lib.IntN.{ℤ, pos}
use lib.Signed.{◌≤ℤ◌}
use Rattle.std.specs.Prelude.{Some}
use Rattle.plan.specs.Positions.{reading_of}
use Rattle.agreement.specs.History.{History}
use Rattle.agreement.specs.Demand.{Started, answer_now, Premises}
use Rattle.agreement.specs.Ranges.{Input}
use Rattle.agreement_histories.specs.Scripts.{history_of}
use Rattle.agreement_histories.specs.Grades as grades
use Rattle.agreement_histories.proofs.Worlds.{board_of}
use Rattle.agreement_histories.proofs.Passing.{passes, ending, answer_in, listed, premises_of, answers}
use Rattle.agreement_histories.proofs.Delivery.{starts_in}
use Rattle.agreement_histories.proofs.Delivered.{only_there}
use Rattle.agreement_histories.proofs.Grades.{conclusion}
use Rattle.agreement_histories.proofs.Computing.{computing}
use Rattle.agreement_pair.specs.History.{Coordinate, first, second, history_in}
use Rattle.agreement_pair.specs.Demand.{SoundInBoth, PairPremises}
use Rattle.agreement_pair.specs.Example.{both, answer}
use Rattle.agreement_pair.specs.Claims.{in_either, InputsOfBoth, mixed_vote, mixed_plan, mixed_bad, mixed_script, mixed}
use Rattle.agreement_pair.proofs.Steps.{alone}
use Rattle.agreement_pair.proofs.Theorem.{pair_now_lem}

passing : (c : Coordinate) → passes (mixed_vote c) (mixed_bad c) (mixed_script c) ≡ true
unfolding computing grades.script
passing first = refl
passing second = refl

mixed_in : (c : Coordinate) → history_in c mixed ≡ history_of (mixed_vote c) (mixed_script c)
mixed_in = alone (λ c. history_of (mixed_vote c) (mixed_script c))

premises : PairPremises mixed_vote mixed_plan mixed_bad mixed
unfolding computing
premises = record {
  votes = λ c. subst (Premises (mixed_vote c) (mixed_plan c) (mixed_bad c)) (sym (mixed_in c)) (of_vote c);
  ranges = ranges;
  numbers = apart;
}
  where
    of_vote : (c : Coordinate) → Premises (mixed_vote c) (mixed_plan c) (mixed_bad c) (history_of (mixed_vote c) (mixed_script c))
    of_vote first = conclusion.premises
    of_vote second = premises_of (mixed_vote second) (mixed_bad second) (mixed_script second) (passing second) (mixed_plan second) refl refl

    ranges : (c : Coordinate) → (mixed_plan c).kind ≡ 2
    ranges first = refl
    ranges second = refl

    apart : ◌≡◌ {A = ℕ} 1 2 → ⊥
    apart e = omega arith

sound : SoundInBoth mixed_vote mixed_bad (both 0)
sound first = (omega arith, tt)
sound second = (omega arith, tt)

-- board 0 answers 1 in the first vote, 0 in the second
board_0 : (c : Coordinate) → answer_now (mixed_vote c) (history_in c mixed) 0 ≡ Some (answer 0 c)
unfolding computing
board_0 c = subst (λ (h : History). answer_now (mixed_vote c) h 0 ≡ Some (answer 0 c)) (sym (mixed_in c)) (of_vote c)
  where
    second_answer : listed 0 1 (answer_in (mixed_vote second) (ending (mixed_vote second) (mixed_script second))) ≡ Some (pos 0) ∷ []
    second_answer = refl

    of_vote : (c : Coordinate) → answer_now (mixed_vote c) (history_of (mixed_vote c) (mixed_script c)) 0 ≡ Some (answer 0 c)
    of_vote first = conclusion.answer 0 (omega arith)
    of_vote second = answers (mixed_vote second) (mixed_bad second) (mixed_script second) (passing second) _ second_answer 0 (omega arith)

starts_at_2 : starts_in (board_of (ending grades.vote grades.script) 0).counted ≡ 2 ∷ []
unfolding computing grades.script
starts_at_2 = refl

reads_2 : reading_of grades.plan 2 ≡ pos 2
unfolding computing
reads_2 = refl

-- the first vote has no such input but 2
only_2 : (a : ℤ) → Input (mixed_vote first) (mixed_plan first) (in_either mixed_bad) (history_in first mixed) a → pos 2 ≡ a
only_2 a (zero, x, o, s) =
    let at = only_there grades.vote grades.bad grades.script (passing first) 0 2 starts_at_2 x a (subst (λ (h : History). Started h 0 x a) (mixed_in first) s.started) in
    sym reads_2 ∙ ap (reading_of grades.plan) (sym at) ∙ s.stands.1
only_2 a (suc zero, x, o, s) = absurd o.1
only_2 a (suc (suc i), x, o, s) = absurd (omega (arith, o.0))

pub inputs_of_both : InputsOfBoth → ⊥
inputs_of_both claim =
    let r = claim mixed_vote mixed_plan mixed_bad mixed premises 0 (answer 0) sound
    (inl (pair_now_lem mixed_vote mixed_plan mixed_bad mixed premises (both 0) sound (answer 0) board_0)) first in
    (subst (λ (a : ℤ). a ≤ℤ pos 1) (sym (only_2 r.0 r.2)) r.4).le
