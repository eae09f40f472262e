-- Four boards, of which board 3 is faulty: boards 0 and 1 hear each other and board 3, which says what the script makes it say. The actions that several scripts share.
use Rattle.std.specs.Prelude.{List, ◌∷◌, eqb}
use Rattle.base.specs.Sets.{Set}
use Rattle.message.specs.declared.Body.TheVariants.{FirstEcho, FirstProposal, SecondEcho, SecondProposal}
use Rattle.agreement_histories.specs.Scripts.{Action, takes, sends, says}

abbrev pub bad : Set
bad = λ i. eqb i 3

-- board 0 takes three echoes and hands its proposal over, board 1 takes two; and then the rest
abbrev pub echoing : List Action → List Action
echoing rest =
    takes 0 0 (says (FirstEcho 2))
    ∷ takes 0 1 (says (FirstEcho 2))
    ∷ takes 0 3 (says (FirstEcho 2))
    ∷ sends 0 (says (FirstProposal 2))
    ∷ takes 1 0 (says (FirstEcho 2))
    ∷ takes 1 1 (says (FirstEcho 2))
    ∷ rest

-- both have made their proposals: with board 3 they make every quorum; and then the rest
abbrev pub answering : List Action → List Action
answering rest =
    sends 1 (says (FirstProposal 2))
    ∷ takes 0 0 (says (FirstProposal 2))
    ∷ takes 0 1 (says (FirstProposal 2))
    ∷ takes 0 3 (says (FirstProposal 2))
    ∷ sends 0 (says (SecondEcho 2))
    ∷ takes 1 0 (says (FirstProposal 2))
    ∷ takes 1 1 (says (FirstProposal 2))
    ∷ takes 1 3 (says (FirstProposal 2))
    ∷ sends 1 (says (SecondEcho 2))
    ∷ takes 0 0 (says (SecondEcho 2))
    ∷ takes 0 1 (says (SecondEcho 2))
    ∷ takes 0 3 (says (SecondEcho 2))
    ∷ sends 0 (says (SecondProposal 2))
    ∷ takes 1 0 (says (SecondEcho 2))
    ∷ takes 1 1 (says (SecondEcho 2))
    ∷ takes 1 3 (says (SecondEcho 2))
    ∷ sends 1 (says (SecondProposal 2))
    ∷ takes 0 0 (says (SecondProposal 2))
    ∷ takes 0 1 (says (SecondProposal 2))
    ∷ takes 0 3 (says (SecondProposal 2))
    ∷ takes 1 0 (says (SecondProposal 2))
    ∷ takes 1 1 (says (SecondProposal 2))
    ∷ takes 1 3 (says (SecondProposal 2))
    ∷ rest
