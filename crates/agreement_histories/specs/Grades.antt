-- Two boards vote on the readings 0 to 2, centre 1, and start at 2 and 0. The order of delivery gives board 0 the result none, so that it answers the centre,
-- and board 1 side 2 at grade 1, so that it answers 2: all is delivered, and the answers differ by an edge.
use Rattle.std.specs.Prelude.{List, [], ◌∷◌, pos}
use Rattle.message.specs.declared.Body.TheVariants.{FirstEcho, FirstProposal, SecondEcho, SecondProposal, Side, Centre}
use Rattle.message.specs.Message.{none_value}
use Rattle.agreement_histories.specs.Scripts.{Action, sets_up, starts, takes, sends, says}
pub use Rattle.agreement_histories.specs.TwoBoards.{vote, plan, bad}

unfoldable pub script : List Action
script =
    sets_up 0
    ∷ sets_up 1
    ∷ starts 0 (pos 2)
    ∷ sends 0 (says (FirstEcho 2))
    ∷ starts 1 (pos 0)
    ∷ sends 1 (says (FirstEcho 1))
    ∷ takes 0 0 (says (FirstEcho 2))
    ∷ sends 0 (says (FirstProposal 2))
    ∷ takes 1 0 (says (FirstEcho 2))
    ∷ sends 1 (says (FirstEcho none_value))
    ∷ sends 1 (says (FirstProposal 2))
    ∷ takes 0 1 (says (FirstProposal 2))
    ∷ takes 0 1 (says (FirstEcho none_value))
    ∷ sends 0 (says (SecondEcho none_value))
    ∷ takes 1 1 (says (FirstProposal 2))
    ∷ takes 1 0 (says (SecondEcho none_value))
    ∷ takes 0 0 (says (SecondEcho none_value))
    ∷ sends 0 (says (SecondProposal none_value))
    ∷ takes 1 0 (says (FirstProposal 2))
    ∷ sends 1 (says (SecondEcho 2))
    ∷ sends 1 (says (SecondEcho none_value))
    ∷ sends 1 (says (SecondProposal none_value))
    ∷ takes 0 1 (says (SecondProposal none_value))
    ∷ takes 0 1 (says (FirstEcho 1))
    ∷ sends 0 (says (FirstEcho none_value))
    ∷ takes 0 0 (says (FirstProposal 2))
    ∷ takes 1 1 (says (FirstEcho none_value))
    ∷ takes 1 1 (says (FirstEcho 1))
    ∷ takes 1 0 (says (FirstEcho none_value))
    ∷ takes 0 1 (says (SecondEcho none_value))
    ∷ takes 0 0 (says (SecondProposal none_value))
    ∷ sends 0 (says Centre)
    ∷ takes 1 0 (says (SecondProposal none_value))
    ∷ takes 0 1 (says (SecondEcho 2))
    ∷ sends 0 (says (SecondEcho 2))
    ∷ takes 0 0 (says Centre)
    ∷ takes 1 1 (says (SecondEcho 2))
    ∷ sends 1 (says (Side 2))
    ∷ takes 1 0 (says Centre)
    ∷ takes 0 1 (says (Side 2))
    ∷ takes 1 1 (says (SecondEcho none_value))
    ∷ takes 1 0 (says (SecondEcho 2))
    ∷ takes 0 0 (says (FirstEcho none_value))
    ∷ takes 1 1 (says (SecondProposal none_value))
    ∷ takes 1 1 (says (Side 2))
    ∷ takes 0 0 (says (SecondEcho 2))
    ∷ []
