-- Four boards vote on the readings 0 to 3, centre 1. Boards 0, 1 and 2 start at 2, 3 and 0. Board 3 is faulty: it tells board 0 a first echo of side 2, board 1 one
-- of none, and board 2 one of side 1. With its help boards 0 and 1 answer 2 and 3 before they hear of board 2; board 2 comes to side 2 at grade 1, and answers 2.
use Rattle.std.specs.Prelude.{List, [], ◌∷◌, ◌++◌, pos}
use Rattle.base.specs.Limits.{offset_zero}
use Rattle.plan.specs.Plan.{Plan}
use Rattle.plan.specs.Positions.{range_plan}
use Rattle.message.specs.declared.Body.TheVariants.{FirstEcho, FirstProposal, SecondEcho, SecondProposal, Side}
use Rattle.message.specs.Message.{none_value}
use Rattle.agreement.specs.History.{Instance}
use Rattle.agreement_histories.specs.Scripts.{Action, sets_up, starts, takes, sends, says}
use Rattle.agreement_histories.specs.OneFaulty.{echoing, answering}
pub use Rattle.agreement_histories.specs.OneFaulty.{bad}

abbrev pub vote : Instance
vote = record { n = 4; t = 1; agreement = 1; plan = 2 ∷ 0 ∷ 3 ∷ [] }

abbrev pub plan : Plan
plan = range_plan offset_zero 3

-- boards 0 and 1 hear each other; to board 0 board 3 says what they say
unfoldable pub opening : List Action
opening =
    sets_up 0
    ∷ sets_up 1
    ∷ sets_up 2
    ∷ starts 0 (pos 2)
    ∷ sends 0 (says (FirstEcho 2))
    ∷ starts 1 (pos 3)
    ∷ sends 1 (says (FirstEcho 2))
    ∷ starts 2 (pos 0)
    ∷ sends 2 (says (FirstEcho 1))
    ∷ echoing []

-- to board 1 it says none: with the two echoes of side 2 that makes the proposal
unfoldable pub lie : List Action
lie =
    takes 1 3 (says (FirstEcho none_value))
    ∷ []

-- two sound boards and board 3 make every quorum
unfoldable pub early : List Action
early = answering []

-- board 3 tells board 2 the other side, so that its first result is none; then all is delivered
unfoldable pub late : List Action
late =
    takes 2 3 (says (FirstEcho 1))
    ∷ takes 2 2 (says (FirstEcho 1))
    ∷ takes 2 0 (says (FirstEcho 2))
    ∷ takes 2 1 (says (FirstEcho 2))
    ∷ sends 2 (says (FirstEcho none_value))
    ∷ sends 2 (says (SecondEcho none_value))
    ∷ takes 2 3 (says (SecondEcho none_value))
    ∷ takes 2 0 (says (FirstProposal 2))
    ∷ takes 2 1 (says (FirstProposal 2))
    ∷ takes 2 0 (says (SecondEcho 2))
    ∷ takes 2 1 (says (SecondEcho 2))
    ∷ sends 2 (says (SecondEcho 2))
    ∷ takes 2 0 (says (SecondProposal 2))
    ∷ takes 2 1 (says (SecondProposal 2))
    ∷ takes 2 2 (says (FirstEcho none_value))
    ∷ sends 2 (says (FirstProposal 2))
    ∷ takes 2 2 (says (SecondEcho none_value))
    ∷ sends 2 (says (Side 2))
    ∷ takes 2 2 (says (SecondEcho 2))
    ∷ sends 2 (says (SecondProposal 2))
    ∷ takes 2 2 (says (FirstProposal 2))
    ∷ takes 2 2 (says (Side 2))
    ∷ takes 2 2 (says (SecondProposal 2))
    ∷ takes 0 2 (says (FirstEcho 1))
    ∷ takes 1 2 (says (FirstEcho 1))
    ∷ takes 0 2 (says (FirstEcho none_value))
    ∷ takes 1 2 (says (FirstEcho none_value))
    ∷ takes 0 2 (says (SecondEcho none_value))
    ∷ takes 1 2 (says (SecondEcho none_value))
    ∷ takes 0 2 (says (SecondEcho 2))
    ∷ takes 1 2 (says (SecondEcho 2))
    ∷ takes 0 2 (says (FirstProposal 2))
    ∷ takes 1 2 (says (FirstProposal 2))
    ∷ takes 0 2 (says (Side 2))
    ∷ takes 1 2 (says (Side 2))
    ∷ takes 0 2 (says (SecondProposal 2))
    ∷ takes 1 2 (says (SecondProposal 2))
    ∷ []

-- boards 0 and 1 have answers
abbrev pub fast : List Action
fast = (opening ++ lie) ++ early

abbrev pub script : List Action
script = fast ++ late
