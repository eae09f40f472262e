-- Two boards, none of them faulty, vote on the readings 0 to 2: the vote of several scripts.
use Rattle.std.specs.Prelude.{[], ◌∷◌, false}
use Rattle.base.specs.Limits.{offset_zero}
use Rattle.base.specs.Sets.{Set}
use Rattle.plan.specs.Plan.{Plan}
use Rattle.plan.specs.Positions.{range_plan}
use Rattle.agreement.specs.History.{Instance}

abbrev pub vote : Instance
vote = record { n = 2; t = 0; agreement = 1; plan = 2 ∷ 0 ∷ 2 ∷ [] }

abbrev pub plan : Plan
plan = range_plan offset_zero 2

abbrev pub bad : Set
bad = λ _. false
