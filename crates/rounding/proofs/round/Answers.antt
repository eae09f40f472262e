-- The step below, and the step above.
use Rattle.rounding.proofs.Quotients.{below, above}
use Rattle.rounding.proofs.round.Goals as goal

pub returns-then-rest-size : goal.returns-then-rest-size
returns-then-rest-size c =
    let e = c.from-size.ensures in
    below c.args.g c.args.count c.unsigned_abs-m.result c.ranges.count c.requires c.unsigned_abs-m.ensures.value (rw e at c.if-rest-size.true)
    (rw e at c.with_sign.ensures) (rw e at c.with_sign-then-rest-size.ensures)

pub returns : goal.returns
returns c =
    let e = c.from-size.ensures in
    above c.args.g c.args.count c.unsigned_abs-m.result c.ranges.count c.requires c.unsigned_abs-m.ensures.value (rw e at c.if-rest-size.false)
    (rw e at c.with_sign-2.ensures) (rw e at c.with_sign-3.ensures)
