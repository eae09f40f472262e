-- `plan_cycle::collect` meets its contract.
use mathlib.Core.Path.{◌≡◌, ap, ◌∙◌}
use native.Mathlib.Omega.{arith}
use Rattle.plan_cycle.specs.Cycle.{value_at, past_at}
use Rattle.plan_cycle.proofs.Collected.{collected_start, collected_room, collected_edge, collected_next, collected_end}
use Rattle.plan_cycle.proofs.collect.Goals as goal

pub loop-i-init : goal.loop-i-init
loop-i-init c = collected_start c.varint_at-kind.ensures.1 c.varint_at-count.ensures.1 c.requires

pub overflow_cast-one : goal.overflow_cast-one
overflow_cast-one c = omega (arith, (collected_edge c.loop-i.invariant).0, c.varint_at-first.ensures.0)

pub overflow_cast-two : goal.overflow_cast-two
overflow_cast-two c =
    let s = c.args.bytes.now in
    let e : c.varint_at-second.result.value ≡ value_at s (past_at s c.loop-i.at) = c.varint_at-second.ensures.0 ∙ ap (value_at s) c.varint_at-first.ensures.1 in
    omega (arith, (collected_edge c.loop-i.invariant).1, e)

pub returns-then-first-place : goal.returns-then-first-place
returns-then-first-place c =
    let h = c.loop-i.invariant in
    (omega (arith, collected_room h), collected_end h c.varint_at-first.ensures.1 c.varint_at-first.ensures.0 c.varint_at-second.ensures.0 c.if-first-place.true)

pub loop-i-preserved : goal.loop-i-preserved
loop-i-preserved c =
    collected_next c.loop-i.invariant c.varint_at-first.ensures.1 c.varint_at-first.ensures.0 c.varint_at-second.ensures.0 c.varint_at-second.ensures.1 c.if-first-place.false

pub unreachable-requires : goal.unreachable-requires
unreachable-requires c = omega (arith, collected_room c.loop-i.invariant, c.loop-i-test.false)
