-- The chain from edge n on has still to be walked.
use Rattle.plan_growth.specs.Inner.{rows_of}
use Rattle.plan_growth.proofs.Chains.{Walking}
use Rattle.plan_growth.proofs.RowList.branch_all.Given as goal

abbrev pub invariant-loop-n : goal.invariant-loop-n
invariant-loop-n l = Walking l.hanging.one l.hanging.two l.hanging.count l.x (rows_of l.initial.self) (rows_of l.self) l.n

abbrev pub decreases-loop-n : goal.decreases-loop-n
decreases-loop-n l = l.n
