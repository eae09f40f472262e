-- Refused calls, cuts in a row and a restore with no cut before it, where one of four boards may be faulty.
use mathlib.Core.Path.{◌≡◌, refl}
use mathlib.Core.Bool.{true}
use mathlib.Core.List.{[], ◌∷◌, ◌++◌}
use Prim.Native.Nat.{ℕ, ◌<◌}
use lib.IntN.{ℤ, pos}
use lib.ListN.{get_or}
use Rattle.std.specs.Prelude.{Some, None}
use Rattle.message.specs.declared.Body.TheVariants.{FirstEcho}
use Rattle.agreement.specs.History.{down, board_after}
use Rattle.agreement.specs.Demand.{Started, answer_now, Premises}
use Rattle.agreement_histories.specs.Scripts.{says, history_of, Refusing}
use Rattle.agreement_histories.specs.Refusals.{vote, plan, bad, opening, back, lost, again, rubbish, rest, early, script}
use Rattle.agreement_histories.proofs.Worlds.{board_of}
use Rattle.agreement_histories.proofs.Passing.{passes, listed, answer_in, ending, answers, premises_of, refusals}
use Rattle.agreement_histories.proofs.Delivery.{starts_in}
use Rattle.agreement_histories.proofs.Delivered.{started, only_there}
use Rattle.agreement_histories.proofs.Computing.{computing}

passing : passes vote bad script ≡ true
unfolding computing opening back lost again rubbish rest
passing = refl

answering : listed 0 3 (answer_in vote (ending vote script)) ≡ Some (pos 2) ∷ Some (pos 2) ∷ None ∷ []
unfolding computing opening back lost again rubbish rest
answering = refl

pub premises : Premises vote plan bad (history_of vote script)
unfolding computing
premises = premises_of vote bad script passing plan refl refl

pub answers_now : (i : ℕ) → i < 3 → answer_now vote (history_of vote script) i ≡ get_or (Some (pos 2) ∷ Some (pos 2) ∷ None ∷ []) i None
answers_now = answers vote bad script passing (Some (pos 2) ∷ Some (pos 2) ∷ None ∷ []) answering

-- ---- the restore with no cut before it: board 0 keeps its record, and has its message again

pub restored : (board_after (history_of vote (opening ++ back)) 0).journal ≡ 1 ∷ 1 ∷ 2 ∷ []
unfolding computing opening back
restored = refl

pub posted : (board_after (history_of vote (opening ++ back)) 0).outbox ≡ says (FirstEcho 2) ∷ []
unfolding computing opening back
posted = refl

-- ---- the two cuts

-- one byte of the start's record is left, and board 1 has not started at 0
pub one_byte : (board_after (history_of vote early) 1).journal ≡ 1 ∷ []
unfolding computing opening back lost
one_byte = refl

starts_of_1 : starts_in (board_of (ending vote script) 1).counted ≡ 2 ∷ []
unfolding computing opening back lost again rubbish rest
starts_of_1 = refl

pub started_2 : (z : ℤ) × Started (history_of vote script) 1 2 z
started_2 = started vote bad script passing 1 2 starts_of_1

pub only_2 : (x : ℕ) (z : ℤ) → Started (history_of vote script) 1 x z → x ≡ 2
only_2 = only_there vote bad script passing 1 2 starts_of_1

-- ---- the refused calls

-- each is refused by the question that the script names
pub by_question : Refusing vote [] script
by_question = refusals vote bad script passing

-- board 0's journal has its start only
pub untouched : (board_after (history_of vote ((early ++ again) ++ rubbish)) 0).journal ≡ 1 ∷ 1 ∷ 2 ∷ []
unfolding computing opening back lost again rubbish
untouched = refl

-- ---- the last two cuts: board 0's answer is what reading would give once it is restored

pub cut_off : (board_after (history_of vote script) 0).stage ≡ down
unfolding computing opening back lost again rubbish rest
cut_off = refl
