-- A faulty board among four: it is believed, and the sound boards answer.
use mathlib.Core.Path.{◌≡◌, refl}
use mathlib.Core.Bool.{true}
use mathlib.Core.List.{[], ◌∷◌, ◌++◌}
use Prim.Native.Nat.{ℕ, ◌<◌}
use lib.IntN.{pos}
use lib.ListN.{get_or}
use Rattle.std.specs.Prelude.{Some, None}
use Rattle.message.specs.declared.Body.TheVariants.{FirstEcho, FirstProposal}
use Rattle.message.specs.Message.{none_value}
use Rattle.agreement.specs.History.{board_after}
use Rattle.agreement.specs.Demand.{Took, answer_now}
use Rattle.agreement_histories.specs.Scripts.{says, history_of, Concludes}
use Rattle.agreement_histories.specs.Liar.{vote, plan, bad, opening, lie, early, late, fast, script}
use Rattle.agreement_histories.proofs.Worlds.{board_of}
use Rattle.agreement_histories.proofs.Passing.{passes, listed, answer_in, ending, answers}
use Rattle.agreement_histories.proofs.Delivery.{has_taken, Judges}
use Rattle.agreement_histories.proofs.Delivered.{passed, concludes, took}
use Rattle.agreement_histories.proofs.Computing.{computing}

judged : Judges vote bad script (Some (pos 2) ∷ Some (pos 3) ∷ Some (pos 2) ∷ [])
unfolding computing opening lie early late
judged = refl

pub conclusion : Concludes vote plan bad (history_of vote script) (Some (pos 2) ∷ Some (pos 3) ∷ Some (pos 2) ∷ [])
unfolding computing
conclusion = concludes vote plan bad script _ judged refl refl

passing : passes vote bad script ≡ true
passing = passed vote plan bad script (Some (pos 2) ∷ Some (pos 3) ∷ Some (pos 2) ∷ []) judged

-- ---- what board 3 says has an effect

-- before it speaks to board 1, that board has made its echo only; after it, the proposal too
pub before : (board_after (history_of vote opening) 1).outbox ≡ says (FirstEcho 2) ∷ []
unfolding computing opening
before = refl

pub after : (board_after (history_of vote (opening ++ lie)) 1).outbox ≡ says (FirstEcho 2) ∷ says (FirstProposal 2) ∷ []
unfolding computing opening lie
after = refl

-- boards 0 and 1 have answers before they take a message of board 2
fast_passing : passes vote bad fast ≡ true
unfolding computing opening lie early
fast_passing = refl

fast_answering : listed 0 3 (answer_in vote (ending vote fast)) ≡ Some (pos 2) ∷ Some (pos 3) ∷ None ∷ []
unfolding computing opening lie early
fast_answering = refl

pub fast_answers : (i : ℕ) → i < 3 → answer_now vote (history_of vote fast) i ≡ get_or (Some (pos 2) ∷ Some (pos 3) ∷ None ∷ []) i None
fast_answers = answers vote bad fast fast_passing (Some (pos 2) ∷ Some (pos 3) ∷ None ∷ []) fast_answering

-- ---- its three stories

story_0 : has_taken 3 (says (FirstEcho 2)) (board_of (ending vote script) 0).counted ≡ true
unfolding computing opening lie early late
story_0 = refl

pub told_0 : Took (history_of vote script) 0 3 (says (FirstEcho 2))
told_0 = took vote bad script passing 0 3 (says (FirstEcho 2)) story_0

story_1 : has_taken 3 (says (FirstEcho none_value)) (board_of (ending vote script) 1).counted ≡ true
unfolding computing opening lie early late
story_1 = refl

pub told_1 : Took (history_of vote script) 1 3 (says (FirstEcho none_value))
told_1 = took vote bad script passing 1 3 (says (FirstEcho none_value)) story_1

story_2 : has_taken 3 (says (FirstEcho 1)) (board_of (ending vote script) 2).counted ≡ true
unfolding computing opening lie early late
story_2 = refl

pub told_2 : Took (history_of vote script) 2 3 (says (FirstEcho 1))
told_2 = took vote bad script passing 2 3 (says (FirstEcho 1)) story_2
