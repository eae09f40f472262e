-- `plan_messages::range_levels` meets its contract: each turn halves.
use native.Mathlib.Omega.{arith}
use Rattle.base.specs.Limits.{sending_levels}
use Rattle.plan_levels.proofs.Halvings.{halvings_next, halvings_few, halvings_most}
use Rattle.plan_messages.proofs.range_levels.Goals as goal

pub loop-s-init : goal.loop-s-init
loop-s-init c = (c.requires, omega arith)

pub overflow_add-k : goal.overflow_add-k
overflow_add-k c =
    let o = c.loop-s in
    record { fits = omega (arith, o.invariant.1, halvings_most sending_levels c.args.positions) }

pub loop-s-smaller : goal.loop-s-smaller
loop-s-smaller c = omega arith

pub loop-s-preserved : goal.loop-s-preserved
loop-s-preserved c =
    let o = c.loop-s in
    (omega (arith, o.invariant.0), omega (arith, o.invariant.1, halvings_next o.s (omega arith) o.invariant.0))

pub returns : goal.returns
returns c =
    let o = c.loop-s in
    omega (arith, o.invariant.1, halvings_few sending_levels o.s (omega arith))
