-- The last value.
use Rattle.std.proofs.Common.{◌≡◌, arith}
use Rattle.senders.proofs.Laws.{over_next}
use Rattle.level_counts_first_result.proofs.value_echoes.Goals as goal

pub returns-after-v-place : goal.returns-after-v-place
returns-after-v-place c = let e : c.args.c.degree ≡ c.loop-v.v = omega arith in rw e (grind (arith, over_next))
