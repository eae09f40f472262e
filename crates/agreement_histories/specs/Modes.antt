-- Two boards vote on a tree of four modes, 0 joined to 1, 2 and 3, and start at 1 and 3. Board 0 has the result none, and answers the centre 0;
-- board 1 has side 3 at grade 1, and answers 3: all is delivered, and the answers differ by an edge.
use Rattle.std.specs.Prelude.{List, [], ◌∷◌, false, pos}
use Rattle.base.specs.Sets.{Set}
use Rattle.plan.specs.Plan.{Plan}
use Rattle.plan.specs.Positions.{tree_plan}
use Rattle.message.specs.declared.Body.TheVariants.{FirstEcho, FirstProposal, SecondEcho, SecondProposal, Side, Centre}
use Rattle.message.specs.Message.{none_value}
use Rattle.agreement.specs.History.{Instance}
use Rattle.agreement_histories.specs.Scripts.{Action, sets_up, starts, takes, sends, says}

abbrev pub vote : Instance
vote = record { n = 2; t = 0; agreement = 1; plan = 1 ∷ 4 ∷ 0 ∷ 1 ∷ 0 ∷ 2 ∷ 0 ∷ 3 ∷ [] }

abbrev pub plan : Plan
plan = tree_plan 4 (record { one = 0; two = 3 } ∷ record { one = 0; two = 2 } ∷ record { one = 0; two = 1 } ∷ [])

abbrev pub bad : Set
bad = λ _. false

unfoldable pub script : List Action
script =
    sets_up 0
    ∷ sets_up 1
    ∷ starts 0 (pos 1)
    ∷ sends 0 (says (FirstEcho 1))
    ∷ starts 1 (pos 3)
    ∷ sends 1 (says (FirstEcho 3))
    ∷ takes 0 1 (says (FirstEcho 3))
    ∷ sends 0 (says (FirstEcho none_value))
    ∷ sends 0 (says (FirstProposal 3))
    ∷ takes 0 0 (says (FirstEcho none_value))
    ∷ sends 0 (says (SecondEcho none_value))
    ∷ takes 1 1 (says (FirstEcho 3))
    ∷ sends 1 (says (FirstProposal 3))
    ∷ takes 0 0 (says (SecondEcho none_value))
    ∷ sends 0 (says (SecondProposal none_value))
    ∷ takes 0 0 (says (SecondProposal none_value))
    ∷ takes 1 1 (says (FirstProposal 3))
    ∷ takes 0 0 (says (FirstProposal 3))
    ∷ takes 0 1 (says (FirstProposal 3))
    ∷ takes 1 0 (says (FirstProposal 3))
    ∷ sends 1 (says (SecondEcho 3))
    ∷ takes 1 0 (says (SecondEcho none_value))
    ∷ sends 1 (says (SecondEcho none_value))
    ∷ sends 1 (says (SecondProposal none_value))
    ∷ takes 0 0 (says (FirstEcho 1))
    ∷ takes 1 1 (says (SecondEcho 3))
    ∷ sends 1 (says (Side 3))
    ∷ takes 1 0 (says (FirstEcho none_value))
    ∷ takes 0 1 (says (SecondProposal none_value))
    ∷ sends 0 (says Centre)
    ∷ takes 1 0 (says (FirstEcho 1))
    ∷ sends 1 (says (FirstEcho none_value))
    ∷ takes 1 1 (says (SecondEcho none_value))
    ∷ takes 1 0 (says (SecondProposal none_value))
    ∷ takes 1 0 (says Centre)
    ∷ takes 0 1 (says (FirstEcho none_value))
    ∷ takes 1 1 (says (Side 3))
    ∷ takes 1 1 (says (SecondProposal none_value))
    ∷ takes 0 0 (says Centre)
    ∷ takes 0 1 (says (Side 3))
    ∷ takes 0 1 (says (SecondEcho none_value))
    ∷ takes 1 1 (says (FirstEcho none_value))
    ∷ takes 0 1 (says (SecondEcho 3))
    ∷ sends 0 (says (SecondEcho 3))
    ∷ takes 0 0 (says (SecondEcho 3))
    ∷ takes 1 0 (says (SecondEcho 3))
    ∷ []
