-- A board that is restored again and again: it goes on where it was.
use mathlib.Core.Path.{◌≡◌, refl}
use mathlib.Core.List.{[], ◌∷◌, ◌++◌}
use lib.IntN.{pos}
use Rattle.std.specs.Prelude.{Some}
use Rattle.message.specs.declared.Body.TheVariants.{FirstEcho, FirstProposal}
use Rattle.agreement.specs.History.{board_after}
use Rattle.agreement_histories.specs.Scripts.{says, history_of, Concludes}
use Rattle.agreement_histories.specs.Restores.{vote, plan, bad, opening, torn, once, rest, script}
use Rattle.agreement_histories.proofs.Delivery.{Judges}
use Rattle.agreement_histories.proofs.Delivered.{concludes}
use Rattle.agreement_histories.proofs.Computing.{computing}

judged : Judges vote bad script (Some (pos 2) ∷ Some (pos 2) ∷ [])
unfolding computing opening torn once rest
judged = refl

pub conclusion : Concludes vote plan bad (history_of vote script) (Some (pos 2) ∷ Some (pos 2) ∷ [])
unfolding computing
conclusion = concludes vote plan bad script _ judged refl refl

-- ---- before it takes the message again: its journal has the start, and the start's message is to be handed over again

pub kept : (board_after (history_of vote (opening ++ torn)) 1).journal ≡ 1 ∷ 1 ∷ 2 ∷ []
unfolding computing opening torn
kept = refl

pub made : (board_after (history_of vote (opening ++ torn)) 1).outbox ≡ says (FirstEcho 2) ∷ []
unfolding computing opening torn
made = refl

-- ---- after it: both its calls' messages are to be handed over again

pub made_both : (board_after (history_of vote ((opening ++ torn) ++ once)) 1).outbox ≡ says (FirstEcho 2) ∷ says (FirstProposal 2) ∷ []
unfolding computing opening torn once
made_both = refl
