-- Seven with a faulty board among four, t being 1. They vote on the readings 0 to 2, centre 1; board 0 starts at 1, boards 1 and 2 at 2, and board 3 is faulty.
-- It helps board 0 to propose 2 and to the first result 2, and board 2 to propose 2 and yet to the first result none, and it tells board 0 second echoes of both:
-- board 0 makes both of them too, and comes to side 2 at grade 1, before it proposes none.
use Rattle.std.specs.Prelude.{List, [], ◌∷◌, pos}
use Rattle.message.specs.declared.Body.TheVariants.{FirstEcho, FirstProposal, SecondEcho, SecondProposal, Side}
use Rattle.message.specs.declared.Message.{Message}
use Rattle.message.specs.Message.{none_value}
use Rattle.agreement_histories.specs.Scripts.{Action, sets_up, starts, takes, sends, says}
pub use Rattle.agreement_histories.specs.Refusals.{vote, plan, bad}

unfoldable pub script : List Action
script =
    sets_up 0
    ∷ sets_up 1
    ∷ sets_up 2
    ∷ starts 0 (pos 1)
    ∷ starts 1 (pos 2)
    ∷ sends 1 (says (FirstEcho 2))
    ∷ starts 2 (pos 2)
    ∷ takes 0 3 (says (FirstEcho 2))
    ∷ takes 0 1 (says (FirstEcho 2))
    ∷ sends 0 (says (FirstEcho none_value))
    ∷ takes 0 0 (says (FirstEcho none_value))
    ∷ sends 0 (says (FirstProposal 2))
    ∷ takes 2 1 (says (FirstEcho 2))
    ∷ takes 2 0 (says (FirstEcho none_value))
    ∷ takes 2 3 (says (FirstEcho 2))
    ∷ sends 2 (says (FirstProposal 2))
    ∷ takes 2 3 (says (FirstEcho 1))
    ∷ sends 2 (says (SecondEcho none_value))
    ∷ takes 0 0 (says (FirstProposal 2))
    ∷ takes 0 3 (says (FirstProposal 2))
    ∷ takes 0 2 (says (FirstProposal 2))
    ∷ sends 0 (says (SecondEcho 2))
    ∷ takes 0 0 (says (SecondEcho 2))
    ∷ takes 0 3 (says (SecondEcho 2))
    ∷ takes 0 2 (says (SecondEcho none_value))
    ∷ takes 0 3 (says (SecondEcho none_value))
    ∷ sends 0 (says (SecondEcho none_value))
    ∷ takes 0 0 (says (SecondEcho none_value))
    ∷ []

-- what board 0's calls made at level 0, in order
abbrev pub messages : List Message
messages =
    says (FirstEcho 0)
    ∷ says (FirstEcho none_value)
    ∷ says (FirstProposal 2)
    ∷ says (SecondEcho 2)
    ∷ says (SecondEcho none_value)
    ∷ says (Side 2)
    ∷ says (SecondProposal none_value)
    ∷ []
