-- `Hanging::along` meets its contract, by the end that x is.
use Rattle.plan_growth.proofs.Chains.{along_first, along_second}
use Rattle.plan_growth.proofs.Hanging.along.Goals as goal

pub returns-then-x-one-clause-other : goal.returns-then-x-one-clause-other
returns-then-x-one-clause-other c =
    let r = rw (← c.self.view_is) at c.requires in
    rw (← c.self.view_is) (along_first c.self.invariant c.args.x c.args.e r.0 c.if-x-one.true)

pub returns-clause-other : goal.returns-clause-other
returns-clause-other c =
    let r = rw (← c.self.view_is) at c.requires in
    rw (← c.self.view_is) (along_second c.self.invariant c.args.x c.args.e r.0 c.if-x-one.false r.1)
