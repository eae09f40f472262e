-- `plan_messages::levels` meets its contract: a tree by its rounds, a range by halving.
use native.Mathlib.Omega.{arith}
use Rattle.plan.specs.Tie.{as_plan}
use Rattle.plan_messages.proofs.Laws.{tree_asks, tree_levels, positions_most, range_halves}
use Rattle.plan_messages.proofs.levels.Goals as goal

pub invariant_of-tree : goal.invariant_of-tree
invariant_of-tree c =
    let r = tree_asks (as_plan c.args.plan.now) c.requires c.if-plan-eq1.true (omega arith) (omega arith) in
    record { grows = r.0; most = r.1 }

pub returns-then-plan-eq1 : goal.returns-then-plan-eq1
returns-then-plan-eq1 c = tree_levels (as_plan c.args.plan.now) c.requires c.if-plan-eq1.true c.levels.result c.levels.ensures

pub range_levels-requires : goal.range_levels-requires
range_levels-requires c = positions_most (as_plan c.args.plan.now) c.requires

pub returns : goal.returns
returns c = range_halves (as_plan c.args.plan.now) c.requires c.if-plan-eq1.false c.range_levels.result c.range_levels.ensures
