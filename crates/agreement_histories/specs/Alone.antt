-- One board votes alone on the readings 0 to 2, as in the bench program's example: it starts at 1, takes the four messages that it makes, and answers 1.
-- The agreement number is left open: 1 takes one byte, the largest number five.
use Rattle.std.specs.Prelude.{List, [], ◌∷◌, false, ℕ, pos}
use Rattle.base.specs.Limits.{offset_zero}
use Rattle.base.specs.Sets.{Set}
use Rattle.plan.specs.Plan.{Plan}
use Rattle.plan.specs.Positions.{range_plan}
use Rattle.message.specs.declared.Body.TheVariants.{FirstEcho, FirstProposal, SecondEcho, SecondProposal}
use Rattle.agreement.specs.History.{Instance}
use Rattle.agreement_histories.specs.Scripts.{Action, sets_up, starts, takes, sends, saying}

abbrev pub vote : ℕ → Instance
vote a = record { n = 1; t = 0; agreement = a; plan = 2 ∷ 0 ∷ 2 ∷ [] }

abbrev pub plan : Plan
plan = range_plan offset_zero 2

abbrev pub bad : Set
bad = λ _. false

unfoldable pub script : ℕ → List Action
script a =
    sets_up 0
    ∷ starts 0 (pos 1)
    ∷ sends 0 (saying a 0 (FirstEcho 0))
    ∷ takes 0 0 (saying a 0 (FirstEcho 0))
    ∷ sends 0 (saying a 0 (FirstProposal 0))
    ∷ takes 0 0 (saying a 0 (FirstProposal 0))
    ∷ sends 0 (saying a 0 (SecondEcho 0))
    ∷ takes 0 0 (saying a 0 (SecondEcho 0))
    ∷ sends 0 (saying a 0 (SecondProposal 0))
    ∷ takes 0 0 (saying a 0 (SecondProposal 0))
    ∷ []
