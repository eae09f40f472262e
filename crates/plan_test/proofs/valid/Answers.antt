-- `plan_test::valid` meets its contract, by the kind.
use Rattle.plan.specs.Plan.{Plan}
use Rattle.plan.specs.Tie.{as_plan}
use Rattle.plan_laws.proofs.Parts.{valid_tree, valid_range, valid_none}
use Rattle.plan_test.proofs.valid.Goals.{Start}
use Rattle.plan_test.proofs.valid.Goals as goal

-- the plan that is asked about
abbrev plan : Start → Plan
plan s = as_plan s.args.plan.now

pub returns-then-plan-eq1 : goal.returns-then-plan-eq1
returns-then-plan-eq1 c = valid_tree (plan (goal.at.returns-then-plan-eq1 c).Start) c.if-plan-eq1.true c.tree_valid.ensures

pub returns-then-plan-eq2 : goal.returns-then-plan-eq2
returns-then-plan-eq2 c = valid_range (plan (goal.at.returns-then-plan-eq2 c).Start) c.if-plan-eq2.true c.range_valid.ensures

pub returns : goal.returns
returns c = valid_none (plan (goal.at.returns c).Start) c.if-plan-eq1.false c.if-plan-eq2.false
