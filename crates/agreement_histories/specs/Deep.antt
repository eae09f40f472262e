-- One board votes alone on the readings 0 to 6 and starts at 0, which lies on side 1 of level 0 (centre 3). That side is 0 to 2, three positions, so level 1 sends
-- messages too (centre 1); its side 1 is the position 0, where the board answers.
use Rattle.std.specs.Prelude.{List, [], ◌∷◌, false, ℕ, pos}
use Rattle.base.specs.Limits.{offset_zero}
use Rattle.base.specs.Sets.{Set}
use Rattle.plan.specs.Plan.{Plan}
use Rattle.plan.specs.Positions.{range_plan}
use Rattle.message.specs.declared.Body.TheVariants.{FirstEcho, FirstProposal, SecondEcho, SecondProposal}
use Rattle.agreement.specs.History.{Instance}
use Rattle.agreement_histories.specs.Scripts.{Action, sets_up, starts, takes, sends, saying}

abbrev pub vote : Instance
vote = record { n = 1; t = 0; agreement = 1; plan = 2 ∷ 0 ∷ 6 ∷ [] }

abbrev pub plan : Plan
plan = range_plan offset_zero 6

abbrev pub bad : Set
bad = λ _. false

-- the four messages of a level, each handed over and taken
abbrev pub level : ℕ → List Action → List Action
level l rest =
    sends 0 (saying 1 l (FirstEcho 1))
    ∷ takes 0 0 (saying 1 l (FirstEcho 1))
    ∷ sends 0 (saying 1 l (FirstProposal 1))
    ∷ takes 0 0 (saying 1 l (FirstProposal 1))
    ∷ sends 0 (saying 1 l (SecondEcho 1))
    ∷ takes 0 0 (saying 1 l (SecondEcho 1))
    ∷ sends 0 (saying 1 l (SecondProposal 1))
    ∷ takes 0 0 (saying 1 l (SecondProposal 1))
    ∷ rest

unfoldable pub script : List Action
script = sets_up 0 ∷ starts 0 (pos 0) ∷ level 0 (level 1 [])
