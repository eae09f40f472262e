-- `plan_cycle::collect` meets its contract. The loop's invariant: the first i rows are the edges before the one that stands at `at`.
use Rattle.plan_cycle.proofs.Collected.{Collected}
use Rattle.plan_cycle.proofs.collect.Given as goal

abbrev pub invariant-loop-i : goal.invariant-loop-i
invariant-loop-i l = Collected l.bytes l.place l.at l.one l.two l.i
