-- The ending's premise can always be met: from every pair history that the premises allow, further steps of each vote lead to one after which both are complete.
use Rattle.std.specs.Prelude.{◌≡◌, ◌++◌, ℤ, Some}
use Rattle.base.specs.Sets.{Set}
use Rattle.plan.specs.Plan.{Plan}
use Rattle.agreement.specs.History.{Instance}
use Rattle.agreement.specs.Demand.{Complete}
use Rattle.agreement_completion.specs.Statement.{InOrder}
use Rattle.agreement_pair.specs.History.{Coordinate, first, second, Seats, PairHistory, history_in}
use Rattle.agreement_pair.specs.Demand.{SoundInBoth, pair_now, PairPremises}

-- further steps after which both votes are complete
pub record PairCompleted (v : Coordinate → Instance) (plan : Coordinate → Plan) (bad : Coordinate → Set) (h : PairHistory) : Type 0 where
  pub more : PairHistory
  -- in each vote without a cut, in document 01's order of handing over and without help from faulty boards
  pub order : (c : Coordinate) → InOrder (v c) (bad c) (history_in c h) (history_in c more)
  pub premises : PairPremises v plan bad (more ++ h)
  pub complete : (c : Coordinate) → Complete (v c) (bad c) (history_in c (more ++ h))
  -- so every board that is sound in both has a pair answer
  pub answers : (own : Seats) → SoundInBoth v bad own → (y : Coordinate → ℤ) × (pair_now v (more ++ h) own ≡ Some (y first, y second))

abbrev pub PairCompletes : Type 0
PairCompletes =
    (v : Coordinate → Instance) (plan : Coordinate → Plan) (bad : Coordinate → Set) (h : PairHistory) → PairPremises v plan bad h → PairCompleted v plan bad h
