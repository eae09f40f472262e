-- Each vote's delivery can be completed by itself, and so can both: further steps of the first vote, and then of the second.
use mathlib.Core.Path.{◌≡◌, sym, subst}
use mathlib.Core.List.{◌++◌}
use Rattle.base.specs.Sets.{Set}
use Rattle.plan.specs.Plan.{Plan}
use Rattle.agreement.specs.History.{Instance, History}
use Rattle.agreement.specs.Demand.{Complete, Premises}
use Rattle.agreement_completion.specs.Statement.{InOrder, Completed}
use Rattle.agreement_completion.proofs.Theorem.{completes}
use Rattle.agreement_pair.specs.History.{Coordinate, PairHistory, history_in, in_both}
use Rattle.agreement_pair.specs.Demand.{PairPremises}
use Rattle.agreement_pair.specs.Completion.{PairCompleted, PairCompletes}
use Rattle.agreement_pair.proofs.Steps.{in_both_lem, alone}
use Rattle.agreement_pair.proofs.Theorem.{pair_demand}

module _ (v : Coordinate → Instance) (plan : Coordinate → Plan) (bad : Coordinate → Set) (h : PairHistory) (given : PairPremises v plan bad h) where
  -- of one vote
  of_vote : (c : Coordinate) → Completed (v c) (bad c) (history_in c h)
  of_vote c = completes (v c) (plan c) (bad c) (history_in c h) (given.votes c).shared (given.votes c).allowed

  steps : Coordinate → History
  steps c = (of_vote c).more

  after : (c : Coordinate) → history_in c (in_both steps ++ h) ≡ steps c ++ history_in c h
  after = in_both_lem steps h

  premises : PairPremises v plan bad (in_both steps ++ h)
  unfolding steps
  premises = record {
    votes = λ c.
        subst (Premises (v c) (plan c) (bad c)) (sym (after c))
        (record { shared = (given.votes c).shared; few = (given.votes c).few; allowed = (of_vote c).allowed });
    ranges = given.ranges;
    numbers = given.numbers;
  }

  complete : (c : Coordinate) → Complete (v c) (bad c) (history_in c (in_both steps ++ h))
  unfolding steps
  complete c = subst (Complete (v c) (bad c)) (sym (after c)) (of_vote c).complete

  order : (c : Coordinate) → InOrder (v c) (bad c) (history_in c h) (history_in c (in_both steps))
  unfolding steps
  order c = subst (InOrder (v c) (bad c) (history_in c h)) (sym (alone steps c)) (of_vote c).order

  completed : PairCompleted v plan bad h
  completed = record {
    more = in_both steps;
    order = order;
    premises = premises;
    complete = complete;
    answers = (pair_demand v plan bad (in_both steps ++ h) premises).ending complete;
  }

pub pair_completes : PairCompletes
pair_completes = completed
