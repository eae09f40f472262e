-- The last value.
use Rattle.std.proofs.Common.{◌≡◌, arith}
use Rattle.senders.proofs.Laws.{over_next}
use Rattle.level_counts_first.proofs.other_echoes.Goals as goal

pub returns-after-v-port : goal.returns-after-v-port
returns-after-v-port c = let e : c.args.c.degree ≡ c.loop-v.v = omega arith in rw e (grind (arith, over_next))
