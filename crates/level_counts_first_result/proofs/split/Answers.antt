use Rattle.std.proofs.Common.{rules, arith}
use Rattle.level_counts_first_result.specs.Inner.{splits}
use Rattle.level_counts_first_result.proofs.Places.{any_found}
use Rattle.level_counts_first_result.proofs.split.Goals as goal

pub returns-then-split_at : goal.returns-then-split_at
unfolding splits
returns-then-split_at c = any_found _ _ _ (c.loop-place.place, omega arith, search rules)

pub returns : goal.returns
unfolding splits
returns c = any_found _ _ _ (λ i l. c.loop-place.invariant i (omega arith))
