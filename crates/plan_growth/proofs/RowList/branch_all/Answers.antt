-- `RowList::branch_all` meets its contract, edge by edge of the chain.
use Rattle.plan_growth.proofs.Chains.{walk_step, walk_end}
use Rattle.plan_growth.proofs.RowList.branch_all.Goals as goal

pub loop-n-preserved : goal.loop-n-preserved
loop-n-preserved c =
    walk_step c.loop-n.invariant c.loop-n-test.true c.along-y.ensures.other.0 c.from-n-in-loop-n.ensures c.along-y.ensures.before c.branch-self.ensures

pub returns : goal.returns
returns c = walk_end c.loop-n.invariant c.loop-n-test.false
