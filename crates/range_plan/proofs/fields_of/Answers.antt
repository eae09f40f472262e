-- `range_plan::fields_of` meets its contract.
use native.Mathlib.Omega.{arith}
use Rattle.range_plan.proofs.Widths.{no_low, no_width, too_wide, both_fit}
use Rattle.range_plan.proofs.fields_of.Goals as goal

pub returns-then-z-gt-MOST : goal.returns-then-z-gt-MOST
returns-then-z-gt-MOST c = no_low c.args.low c.args.high c.zigzag-z.ensures c.raised-a.ensures c.raised-b.ensures (omega arith) (omega arith) c.if-z-gt-MOST.true

pub returns-then-b-a : goal.returns-then-b-a
returns-then-b-a c = no_width c.args.low c.args.high c.zigzag-z.ensures c.raised-a.ensures c.raised-b.ensures (omega arith) (omega arith) c.if-z-gt-MOST.false c.if-b-a.true

pub returns-then-b-a-gt-MOST : goal.returns-then-b-a-gt-MOST
returns-then-b-a-gt-MOST c = too_wide c.args.low c.args.high c.zigzag-z.ensures c.raised-a.ensures c.raised-b.ensures (omega arith) (omega arith) c.if-z-gt-MOST.false c.if-b-a.false c.if-b-a-gt-MOST.true

pub returns : goal.returns
returns c = both_fit c.args.low c.args.high c.zigzag-z.ensures c.raised-a.ensures c.raised-b.ensures (omega arith) (omega arith) c.if-z-gt-MOST.false c.if-b-a.false c.if-b-a-gt-MOST.false
