-- Two boards vote on the readings -3 to 1, centre -1, and start at -3 and -2, both on side 1. They agree on the side, and each keeps its own place there:
-- all is delivered, and they answer -3 and -2.
use Rattle.std.specs.Prelude.{List, [], ◌∷◌, false, negsuc}
use Rattle.base.specs.Sets.{Set}
use Rattle.plan.specs.Plan.{Plan}
use Rattle.plan.specs.Positions.{range_plan}
use Rattle.agreement.specs.History.{Instance}
use Rattle.agreement_histories.specs.Scripts.{Action}
use Rattle.agreement_histories.specs.OneSide.{on_side}

abbrev pub vote : Instance
vote = record { n = 2; t = 0; agreement = 1; plan = 2 ∷ 5 ∷ 4 ∷ [] }

-- -3 is 05 as a group, and offset_zero - 3 in offset binary
abbrev pub plan : Plan
plan = range_plan 2147483645 4

abbrev pub bad : Set
bad = λ _. false

-- negsuc n is -(n + 1)
unfoldable pub script : List Action
script = on_side 1 (negsuc 2) (negsuc 1)
