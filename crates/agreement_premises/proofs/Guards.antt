-- Cuts that take records written before a message was handed over, or before an answer was read.
use mathlib.Core.Path.{refl}
use mathlib.Core.Logic.{inl, inr}
use mathlib.Core.List.Memᴰ
use native.Mathlib.Nat.{le_refl}
use lib.IntN.{pos}
use Rattle.agreement_histories.proofs.Computing.{computing}
use Rattle.agreement_premises.specs.Edits.{hands_guard_nothing, answer_guards_nothing, count_guards_nothing, unhanded, unread, uncounted, without}
use Rattle.agreement_premises.specs.Examples.{two, three, example_of, Fails}
use Rattle.agreement_premises.proofs.Running.{Strays}
use Rattle.agreement_premises.proofs.Starts.{all_in}
use Rattle.agreement_premises.proofs.Failing.{sound_alone, invalid, invalid_now}

hands_strays : Strays hands_guard_nothing (example_of hands_guard_nothing)
unfolding computing without
hands_strays = unhanded (sound_alone three, le_refl 0)

pub hands_fails : Fails hands_guard_nothing (example_of hands_guard_nothing)
unfolding computing all_in
hands_fails = invalid_now hands_guard_nothing (example_of hands_guard_nothing) refl refl hands_strays 0 (pos 2) refl refl

answer_strays : Strays answer_guards_nothing (example_of answer_guards_nothing)
unfolding computing without
answer_strays = unread (sound_alone two, le_refl 0)

-- no start is left: the answer 0 stands nowhere else than at 0, so that it is apart from 1
pub answer_fails : Fails answer_guards_nothing (example_of answer_guards_nothing)
unfolding computing all_in
answer_fails = invalid answer_guards_nothing (example_of answer_guards_nothing) refl refl answer_strays 1 (pos 0) refl (inr (_, inl (Memᴰ.tail (Memᴰ.head refl)), refl))

count_strays : Strays count_guards_nothing (example_of count_guards_nothing)
unfolding computing without
count_strays = uncounted (sound_alone two, le_refl 0)

pub count_fails : Fails count_guards_nothing (example_of count_guards_nothing)
unfolding computing all_in
count_fails =
    invalid count_guards_nothing (example_of count_guards_nothing) refl refl count_strays 1 (pos 0) refl
    (inr (_, inr (2, pos 0, pos 0, Memᴰ.tail (Memᴰ.head refl), refl), refl))
