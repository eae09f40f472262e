-- Boards that are set up twice, or for another vote.
use mathlib.Core.Path.{refl}
use mathlib.Core.Logic.{inl, inr}
use mathlib.Core.List.Memᴰ
use native.Mathlib.Omega.{arith}
use lib.IntN.{pos}
use Rattle.agreement_histories.proofs.Computing.{computing}
use Rattle.agreement_histories.proofs.Passing.{ours}
use Rattle.agreement_premises.specs.Edits.{second_set_up, other_boards, other_faults, other_number, other_plan, again, boards, faults, number, plan}
use Rattle.agreement_premises.specs.Examples.{two, three, elsewhere, alone, nobody, last, example_of, Fails}
use Rattle.agreement_premises.proofs.Running.{Strays}
use Rattle.agreement_premises.proofs.Starts.{all_in}
use Rattle.agreement_premises.proofs.Failing.{sound_alone, sound_four, may_set_up, invalid, invalid_now, unended}

again_strays : Strays second_set_up (example_of second_set_up)
unfolding computing
again_strays = again (sound_alone two) (ours (alone two) 0)

pub again_fails : Fails second_set_up (example_of second_set_up)
unfolding computing all_in
again_fails = invalid second_set_up (example_of second_set_up) refl refl again_strays 1 (pos 0) refl (inr (_, inl (Memᴰ.tail (Memᴰ.head refl)), refl))

boards_strays : Strays other_boards (example_of other_boards)
unfolding computing
boards_strays = boards 2 (omega arith) (sound_alone three) (may_set_up (record { n = 2; t = 0; agreement = 1; plan = three }) nobody 0 (omega arith, tt))

pub boards_fails : Fails other_boards (example_of other_boards)
unfolding computing
boards_fails = unended other_boards (example_of other_boards) refl refl boards_strays refl refl

faults_strays : Strays other_faults (example_of other_faults)
unfolding computing
faults_strays = faults 0 (may_set_up (record { n = 4; t = 0; agreement = 1; plan = three }) last 0 (sound_four three))

pub faults_fails : Fails other_faults (example_of other_faults)
unfolding computing all_in
faults_fails = invalid_now other_faults (example_of other_faults) refl refl faults_strays 0 (pos 1) refl refl

number_strays : Strays other_number (example_of other_number)
unfolding computing
number_strays = number 2 (may_set_up (record { n = 1; t = 0; agreement = 2; plan = two }) nobody 0 (sound_alone two))

pub number_fails : Fails other_number (example_of other_number)
unfolding computing
number_fails = unended other_number (example_of other_number) refl refl number_strays refl refl

plan_strays : Strays other_plan (example_of other_plan)
unfolding computing
plan_strays = plan elsewhere (may_set_up (alone elsewhere) nobody 0 (sound_alone two))

pub plan_fails : Fails other_plan (example_of other_plan)
unfolding computing all_in
plan_fails = invalid_now other_plan (example_of other_plan) refl refl plan_strays 0 (pos 5) refl refl
