-- Every edit of what 01 allows makes demand 3 false: the clause that it drops is needed.
use Rattle.agreement_premises.specs.Edits.{Edit, taken_unsent, handed_unmade, hands_guard_nothing, answer_guards_nothing, count_guards_nothing, journal_overwritten, record_altered, other_record_read, other_record_counted, other_journal_restored, second_set_up, other_boards, other_faults, other_number, other_plan, Demand3With}
use Rattle.agreement_premises.specs.Examples.{history_with, example_of, Fails}
use Rattle.agreement_premises.proofs.Messages.{unsent_fails, unmade_fails}
use Rattle.agreement_premises.proofs.Guards.{hands_fails, answer_fails, count_fails}
use Rattle.agreement_premises.proofs.Lent.{overwritten_fails, altered_fails, misread_fails, miscounted_fails, restored_fails}
use Rattle.agreement_premises.proofs.Settings.{again_fails, boards_fails, faults_fails, number_fails, plan_fails}

pub fails : (e : Edit) → Fails e (example_of e)
fails taken_unsent = unsent_fails
fails handed_unmade = unmade_fails
fails hands_guard_nothing = hands_fails
fails answer_guards_nothing = answer_fails
fails count_guards_nothing = count_fails
fails journal_overwritten = overwritten_fails
fails record_altered = altered_fails
fails other_record_read = misread_fails
fails other_record_counted = miscounted_fails
fails other_journal_restored = restored_fails
fails second_set_up = again_fails
fails other_boards = boards_fails
fails other_faults = faults_fails
fails other_number = number_fails
fails other_plan = plan_fails

pub needed : (e : Edit) → Demand3With e → ⊥
needed e claim =
    let f = fails e in
    f.fails (claim (example_of e).vote (example_of e).plan (example_of e).bad (history_with (example_of e)) f.shared f.few f.steps)
