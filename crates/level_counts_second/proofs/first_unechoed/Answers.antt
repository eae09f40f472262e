use Rattle.std.proofs.Common.{rules, arith}
use Rattle.level_counts.proofs.Values.{value_found, none_found}
use Rattle.level_counts_second.proofs.first_unechoed.Goals as goal

pub returns-then-due : goal.returns-then-due
returns-then-due c = value_found _ _ _ (search rules)

pub returns-else-due : goal.returns-else-due
returns-else-due c = none_found _ _ _ c.loop-v.invariant (search rules) (omega arith)

pub returns : goal.returns
returns c = value_found _ _ _ (search rules)
