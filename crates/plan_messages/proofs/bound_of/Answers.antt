-- `plan_messages::bound_of` meets its contract: by what reading the plan gives.
use native.Mathlib.Omega.{arith}
use Rattle.plan.specs.Tie.{as_plan}
use Rattle.plan_messages.proofs.Laws.{read_valid, levels_most, bound_accepted, bound_refused}
use Rattle.plan_messages.proofs.bound_of.Goals as goal

pub levels-k-requires : goal.levels-k-requires
levels-k-requires c = read_valid c.args.bytes.now c.in_ok-plan.ensures

pub overflow_mul-result : goal.overflow_mul-result
overflow_mul-result c = omega (arith, c.levels-k.ensures, levels_most (as_plan c.in_ok-plan.plan) (read_valid c.args.bytes.now c.in_ok-plan.ensures))

pub returns : goal.returns
returns c = bound_accepted c.args.bytes.now c.in_ok-plan.ensures c.levels-k.result c.levels-k.ensures
