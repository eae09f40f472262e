-- How a script by counts ends, by its run; count answers that no board started with, and one of a start after a lost one.
use mathlib.Core.Path.{◌≡◌, refl, ◌∙◌}
use mathlib.Core.Bool.{true}
use mathlib.Core.List.{List, [], ◌∷◌}
use Prim.Native.Nat.{ℕ, zero, suc, ◌<◌}
use native.Mathlib.Omega.{arith}
use lib.IntN.{ℤ, pos, negsuc}
use Rattle.std.specs.Prelude.{Some}
use Rattle.base.specs.Sets.{Set}
use Rattle.base.specs.Found.{found}
use Rattle.plan.specs.Plan.{Plan}
use Rattle.plan.specs.Reading.{plan_of}
use Rattle.agreement.specs.History.{Instance, by_count}
use Rattle.agreement_histories.specs.Scripts.{Action, history_of}
use Rattle.agreement_histories.specs.Grades as grades
use Rattle.agreement_histories.proofs.Worlds.{board_of}
use Rattle.agreement_histories.proofs.Passing.{ending, passes, settled}
use Rattle.agreement_histories.proofs.Delivery.{Judges}
use Rattle.agreement_histories.proofs.Delivered.{concludes, passed}
use Rattle.agreement_histories.proofs.Computing.{computing}
use Rattle.agreement_counts.specs.Example.{CountsEnd, plan, bad, with_starts, pulled_count, pulled_script, Pulled, alone, anew_script, Anew}
use Rattle.agreement_counts.proofs.Inputs.{inputs_in, count_in, started_by_lem, only_by, count_now_lem}
use Rattle.board_calls.specs.Answers.{Answer}

-- a script that ends so, by its run
module _ (v : Instance) (plan : Plan) (bad : Set) (script : List Action) (l : List Answer) (judged : Judges v bad script l) (set : settled v bad ≡ true)
    (reads : plan_of v.plan ≡ found plan) (g : ℕ) (count answer : ℕ → ℤ)
    (inputs : (i : ℕ) → i < v.n → inputs_in (board_of (ending v script) i).counted ≡ by_count g (count i) ∷ [])
    (gives : (i : ℕ) → i < v.n → count_in v (ending v script) i g (count i) ≡ Some (answer i)) where
  abbrev f : passes v bad script ≡ true
  f = passed v plan bad script l judged

  pub ends : CountsEnd v plan bad g (history_of v script) count answer
  ends =
      let c = concludes v plan bad script l judged set reads in
      record {
        premises = c.premises;
        complete = c.complete;
        only = λ i x input o s. (count i, only_by v bad script f i (by_count g (count i)) (inputs i o.0) x input s);
        started = λ i o. started_by_lem v bad script f i (by_count g (count i)) (inputs i o.0);
        answers = λ i o. count_now_lem v bad script f i g (count i) ∙ gives i o.0;
      }

-- ---- pulled to other steps

judged_pulled : Judges grades.vote grades.bad pulled_script (Some (pos 1) ∷ Some (pos 2) ∷ [])
unfolding computing grades.script with_starts
judged_pulled = refl

inputs_pulled : (i : ℕ) → i < 2 → inputs_in (board_of (ending grades.vote pulled_script) i).counted ≡ by_count 4 (pulled_count i) ∷ []
unfolding computing inputs_in grades.script with_starts
inputs_pulled zero l = refl
inputs_pulled (suc zero) l = refl
inputs_pulled (suc (suc i)) l = absurd (omega arith)

gives_pulled : (i : ℕ) → i < 2 → count_in grades.vote (ending grades.vote pulled_script) i 4 (pulled_count i) ≡ Some (pos 6)
unfolding computing grades.script with_starts
gives_pulled zero l = refl
gives_pulled (suc zero) l = refl
gives_pulled (suc (suc i)) l = absurd (omega arith)

pub pulled : Pulled
unfolding computing
pulled = ends grades.vote grades.plan grades.bad pulled_script _ judged_pulled refl refl 4 pulled_count (λ i. pos 6) inputs_pulled gives_pulled

-- ---- the count of the own start not lost

judged_anew : Judges alone bad anew_script (Some (pos 1) ∷ [])
unfolding computing
judged_anew = refl

input_anew : inputs_in (board_of (ending alone anew_script) 0).counted ≡ by_count 2 (pos 3) ∷ []
unfolding computing inputs_in
input_anew = refl

three : count_in alone (ending alone anew_script) 0 2 (pos 3) ≡ Some (pos 3)
unfolding computing
three = refl

one : count_in alone (ending alone anew_script) 0 2 (negsuc 0) ≡ Some (pos 1)
unfolding computing
one = refl

abbrev passes_anew : passes alone bad anew_script ≡ true
passes_anew = passed alone plan bad anew_script (Some (pos 1) ∷ []) judged_anew

settled_alone : settled alone bad ≡ true
unfolding computing
settled_alone = refl

pub plan_read : plan_of alone.plan ≡ found plan
unfolding computing
plan_read = refl

ends_anew : CountsEnd alone plan bad 2 (history_of alone anew_script) (λ i. pos 3) (λ i. pos 3)
ends_anew = ends alone plan bad anew_script (Some (pos 1) ∷ []) judged_anew settled_alone plan_read 2 (λ i. pos 3) (λ i. pos 3) inputs gives
  where
    inputs : (i : ℕ) → i < 1 → inputs_in (board_of (ending alone anew_script) i).counted ≡ by_count 2 (pos 3) ∷ []
    inputs zero l = input_anew
    inputs (suc i) l = absurd (omega arith)

    gives : (i : ℕ) → i < 1 → count_in alone (ending alone anew_script) i 2 (pos 3) ≡ Some (pos 3)
    gives zero l = three
    gives (suc i) l = absurd (omega arith)

pub anew : Anew
anew = record {
  ends = ends_anew;
  lost = λ s.
      let e = only_by alone bad anew_script passes_anew 0 (by_count 2 (pos 3)) input_anew s.0 (by_count 2 (negsuc 0)) s.1 in
      let o : ◌≡◌ {A = ℕ} 0 1 = cc in
      omega arith;
  given_lost = count_now_lem alone bad anew_script passes_anew 0 2 (negsuc 0) ∙ one;
}
