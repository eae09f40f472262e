-- `board_restore::replay_all` meets its contract: the records so far are replayed, and their messages written one after the other.
use mathlib.Core.Path.{sym, ◌∙◌}
use native.Mathlib.Omega.{arith}
use Rattle.journal.proofs.RoundTrip.{record_place}
use Rattle.board_restore.proofs.Replaying.{replaying_start, replaying_read, replaying_asks, replaying_sum, replaying_next, replaying_end}
use Rattle.board_restore.proofs.replay_all.Goals as goal

pub loop-at-init : goal.loop-at-init
loop-at-init c = replaying_start c.requires c.empty-chart.ensures.0

pub shape_of-out : goal.shape_of-out
shape_of-out c = c.loop-at.invariant.long

pub unreachable-requires : goal.unreachable-requires
unreachable-requires c = replaying_read c.requires c.loop-at.invariant c.loop-at-test.true c.read_at.result c.read_at.ensures c.in_default.not-Ok

pub replay-ran-requires : goal.replay-ran-requires
replay-ran-requires c =
    let f = replaying_asks c.requires c.loop-at.invariant c.loop-at-test.true (sym c.read_at.ensures ∙ c.in-Ok.is) in
    (f.0, omega (arith, f.1), f.2)

pub overflow_add-rules : goal.overflow_add-rules
overflow_add-rules c =
    let f = replaying_sum c.requires c.loop-at.invariant c.loop-at-test.true (sym c.read_at.ensures ∙ c.in-Ok.is) c.replay-ran.result.rules c.replay-ran.ensures.rules in
    record { fits = omega arith }

pub loop-at-smaller : goal.loop-at-smaller
loop-at-smaller c = omega (arith, c.loop-at-test.true, (record_place c.args.journal.now c.loop-at.at _ _ (sym c.read_at.ensures ∙ c.in-Ok.is)).0)

pub loop-at-preserved : goal.loop-at-preserved
loop-at-preserved c =
    replaying_next c.requires c.loop-at.invariant c.loop-at-test.true (sym c.read_at.ensures ∙ c.in-Ok.is) c.replay-ran.ensures c.replay-ran.auto.out

pub returns : goal.returns
returns c = replaying_end c.requires c.loop-at.invariant c.loop-at-test.false
