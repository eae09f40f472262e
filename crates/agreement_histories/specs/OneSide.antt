-- Two boards that start on one side: the delivery that several scripts share.
use Rattle.std.specs.Prelude.{List, [], ◌∷◌, ℕ, ℤ}
use Rattle.message.specs.declared.Body.TheVariants.{FirstEcho, FirstProposal, SecondEcho, SecondProposal}
use Rattle.agreement_histories.specs.Scripts.{Action, sets_up, starts, takes, sends, says}

-- both have taken the first echoes of side k, and handed their proposals over: what is left is delivered, and then the rest
abbrev pub agreeing : ℕ → List Action → List Action
agreeing k rest =
    takes 0 0 (says (FirstProposal k))
    ∷ takes 1 0 (says (FirstProposal k))
    ∷ takes 0 1 (says (FirstProposal k))
    ∷ sends 0 (says (SecondEcho k))
    ∷ takes 1 1 (says (FirstProposal k))
    ∷ sends 1 (says (SecondEcho k))
    ∷ takes 0 0 (says (SecondEcho k))
    ∷ sends 0 (says (SecondProposal k))
    ∷ takes 1 0 (says (SecondEcho k))
    ∷ sends 1 (says (SecondProposal k))
    ∷ takes 0 1 (says (SecondEcho k))
    ∷ takes 1 1 (says (SecondEcho k))
    ∷ takes 0 0 (says (SecondProposal k))
    ∷ takes 1 0 (says (SecondProposal k))
    ∷ takes 0 1 (says (SecondProposal k))
    ∷ takes 1 1 (says (SecondProposal k))
    ∷ rest

-- two boards start at y and z, both on side k, and all is delivered
abbrev pub on_side : ℕ → ℤ → ℤ → List Action
on_side k y z =
    sets_up 0
    ∷ sets_up 1
    ∷ starts 0 y
    ∷ sends 0 (says (FirstEcho k))
    ∷ starts 1 z
    ∷ sends 1 (says (FirstEcho k))
    ∷ takes 0 0 (says (FirstEcho k))
    ∷ sends 0 (says (FirstProposal k))
    ∷ takes 1 0 (says (FirstEcho k))
    ∷ sends 1 (says (FirstProposal k))
    ∷ takes 0 1 (says (FirstEcho k))
    ∷ takes 1 1 (says (FirstEcho k))
    ∷ agreeing k []
