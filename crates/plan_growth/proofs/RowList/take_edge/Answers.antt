-- `RowList::take_edge` meets its contract: what `extend` lays, `absorb` takes up.
use Rattle.plan_growth.proofs.Chains.{next_below}
use Rattle.plan_growth.proofs.RowList.take_edge.Goals as goal

pub extend-requires : goal.extend-requires
extend-requires c = rw (c.next-a.ensures.0, c.next-a.ensures.1) (next_below c.requires)
