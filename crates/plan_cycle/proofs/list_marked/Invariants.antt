-- `plan_cycle::list_marked` meets its contract. The loop's invariant: the cycle lists the marked ones of the first i rows.
use Rattle.plan_cycle.proofs.Marked.{Lists}
use Rattle.plan_cycle.proofs.list_marked.Given as goal

abbrev pub invariant-loop-i : goal.invariant-loop-i
invariant-loop-i l = Lists l.marks l.one l.two l.i l.cycle
