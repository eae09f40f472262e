-- Two boards vote on the readings 0 to 3, centre 1, and start at 3 and 2, both on side 2. They agree on the side, and each keeps its own place there:
-- all is delivered, and they answer 3 and 2.
use Rattle.std.specs.Prelude.{List, [], ◌∷◌, false, pos}
use Rattle.base.specs.Limits.{offset_zero}
use Rattle.base.specs.Sets.{Set}
use Rattle.plan.specs.Plan.{Plan}
use Rattle.plan.specs.Positions.{range_plan}
use Rattle.agreement.specs.History.{Instance}
use Rattle.agreement_histories.specs.Scripts.{Action}
use Rattle.agreement_histories.specs.OneSide.{on_side}

abbrev pub vote : Instance
vote = record { n = 2; t = 0; agreement = 1; plan = 2 ∷ 0 ∷ 3 ∷ [] }

abbrev pub plan : Plan
plan = range_plan offset_zero 3

abbrev pub bad : Set
bad = λ _. false

unfoldable pub script : List Action
script = on_side 2 (pos 3) (pos 2)
