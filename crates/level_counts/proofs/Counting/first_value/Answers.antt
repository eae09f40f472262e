use Rattle.std.proofs.Common.{rules, arith}
use Rattle.level_counts.proofs.Values.{value_found, none_found}
use Rattle.level_counts.proofs.Counting.first_value.Goals as goal

pub returns-then-reaches : goal.returns-then-reaches
returns-then-reaches c = value_found _ _ _ (search rules)

pub returns : goal.returns
returns c = value_found _ _ _ (search rules)

pub returns-else-reaches : goal.returns-else-reaches
returns-else-reaches c = none_found _ _ _ c.loop-v.invariant (search rules) (omega arith)
