-- `party_inspect::enter` meets its contract.
use Rattle.plan.specs.Tie.{as_plan}
use Rattle.party_inspect.proofs.Entries.{enters_whole, enters_side}
use Rattle.party_inspect.proofs.enter.Goals as goal

pub enter_whole-requires : goal.enter_whole-requires
enter_whole-requires c = c.requires.0

pub returns-then-i-eq0 : goal.returns-then-i-eq0
returns-then-i-eq0 c = enters_whole (as_plan c.args.plan.now) c.args.part.now c.args.i c.args.k _ c.if-i-eq0.true c.enter_whole.ensures

pub enter_side-requires : goal.enter_side-requires
enter_side-requires c = c.requires.1 c.if-i-eq0.false

pub returns : goal.returns
returns c = enters_side (as_plan c.args.plan.now) c.args.part.now c.args.i c.args.k _ c.if-i-eq0.false c.enter_side.ensures
