-- One more position is looked at.
use native.Mathlib.Omega.{arith}
use borrow.Author.Rules.{rules}
use Rattle.marks.proofs.Marks.{count_start, count_few, count_step}
use Rattle.marks.proofs.count.Goals as goal

pub loop-x-init : goal.loop-x-init
loop-x-init c = count_start c.args.m.now

pub overflow_add-r : goal.overflow_add-r
overflow_add-r c =
    let o = c.loop-x in
    record { fits = omega (arith, count_few c.args.m.now o.x o.r c.from-r.result o.invariant (search rules)) }

pub loop-x-preserved : goal.loop-x-preserved
loop-x-preserved c =
    let o = c.loop-x in
    count_step c.args.m.now o.x o.r c.from-r.result o.invariant (search rules)
