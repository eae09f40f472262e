-- The two cases of the answer.
use Rattle.rounding.proofs.Products.{below, above}
use Rattle.rounding.proofs.count_answer.Goals as goal

pub returns-then-at-count : goal.returns-then-at-count
returns-then-at-count c =
    below c.args.g c.args.count c.args.y c.requires.0 c.requires.1 c.ranges.count (rw c.from.ensures at c.if-at-count.true) (rw (c.from.ensures, c.from-half.ensures) at c.min.ensures.value)

pub returns-else-at-count : goal.returns-else-at-count
returns-else-at-count c =
    above c.args.g c.args.count c.args.y c.requires.0 c.requires.1 c.ranges.count (rw c.from.ensures at c.if-at-count.false) (rw (c.from.ensures, c.from-half.ensures) at c.max.ensures.value)
