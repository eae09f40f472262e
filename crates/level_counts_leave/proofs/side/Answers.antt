use Rattle.std.proofs.Common.{rules, arith, ◌+◌}
use Rattle.level_counts.specs.Places.{sides}
use Rattle.level_counts.specs.Choice.{reached}
use Rattle.level_counts_leave.proofs.Sides.{side_found, side_missing}
use Rattle.level_counts_leave.proofs.side.Goals as goal

pub returns-then-reaches : goal.returns-then-reaches
returns-then-reaches c =
    let a = c.args in
    side_found a.c.degree c.loop-k.k (reached a.heard.now sides (a.c.t + 1)) c.loop-k.invariant (search rules) (omega arith) (omega arith)

pub returns-else-reaches : goal.returns-else-reaches
returns-else-reaches c =
    let a = c.args in
    side_missing a.c.degree c.loop-k.k (reached a.heard.now sides (a.c.t + 1)) c.loop-k.invariant (search rules) (omega arith) (omega arith)
