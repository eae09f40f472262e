-- `party_run::run` meets its contract. The loop's invariant: so many rules led to the party, their messages are written, and no rule applies
-- below level i. The measure: the rules that can still come, and of each all levels.
use borrow.Author.Rules.{rules}
use native.Mathlib.Omega.{arith}
use Prim.Native.Nat.{◌+◌, ◌-◌, ◌<◌}
use Rattle.base.specs.Limits.{level_count, max_rules}
use Rattle.party.specs.Party.{Party}
use Rattle.party.specs.Tie.{as_party}
use Rattle.party_step.proofs.Typed.{levels_full, levels_echoes}
use Rattle.party_run.proofs.Parts.{sized_in}
use Rattle.party_run.proofs.Turns.{turn_start, turn_end, turn_limits, turn_next, turn_more, turn_fits, turn_steps, turn_again}
use Rattle.party_run.proofs.run.Goals.{In-loop-i, In-Some, Start}
use Rattle.party_run.proofs.run.Goals as goal

pub loop-i-init : goal.loop-i-init
loop-i-init c =
    let s = (goal.at.loop-i-init c).Start in
    let a = s.args in
    let t = c.fits-p.1.1.1.1.1.0 in
    turn_start a.from a.out.now a.p.now a.chart.now (sized_in a.p.now s.requires.0.valid (levels_full a.p.now.levels _ t) (levels_echoes a.p.now.levels _ t)) s.requires.0.charts s.requires.0.rows
    c.surveys_full.ensures

-- i is a level that sends
below : (c : In-loop-i) → c.loop-i.i + 1 < level_count
below c = omega (arith, c.loop-i.invariant.going.charts.last, c.loop-i-test.true)

pub rule_at-requires : goal.rule_at-requires
rule_at-requires c =
    let t = (goal.at.rule_at-requires c).In-loop-i in
    let l = t.loop-i in
    let s = (goal.at.rule_at-requires c).Start in (
      omega (arith, below t),
      turn_limits (as_party s.args.p.now) s.args.from s.args.out.now l.p l.chart l.out l.sent l.rules l.i l.invariant t.loop-i-test.true c.context.result c.context.ensures,
    )

pub emit-sent-requires : goal.emit-sent-requires
emit-sent-requires c =
    let t = (goal.at.emit-sent-requires c).In-loop-i in
    let l = t.loop-i in
    let s = (goal.at.emit-sent-requires c).Start in (
      omega (
        arith,
        l.invariant.going.count,
        turn_fits (as_party s.args.p.now) s.args.from s.args.out.now l.p l.chart l.out l.sent l.rules l.i l.invariant t.loop-i-test.true
            c.context.result c.context.ensures c.in-Some.a c.in-Some.ensures s.requires.1,
      ),
      omega (arith, below t),
    )

pub step-below-requires : goal.step-below-requires
step-below-requires c =
    let y = (goal.at.step-below-requires c).In-Some in
    let l = y.loop-i in
    let s = (goal.at.step-below-requires c).Start in (
      turn_steps (as_party s.args.p.now) s.args.from s.args.out.now l.p l.chart l.out l.sent l.rules l.i l.invariant y.loop-i-test.true
          y.context.result y.context.ensures y.in-Some.a y.in-Some.ensures,
      omega (arith, below (goal.at.step-below-requires c).In-loop-i),
    )

-- a rule is left
more : (y : In-Some) → y.loop-i.rules < max_rules
more y =
    let l = y.loop-i in
    turn_more (as_party y.args.p.now) y.args.from y.args.out.now l.p l.chart l.out l.sent l.rules l.i l.invariant y.loop-i-test.true
    y.context.result y.context.ensures y.in-Some.a y.in-Some.ensures

pub overflow_add-rules : goal.overflow_add-rules
overflow_add-rules c = omega (arith, more (goal.at.overflow_add-rules c).In-Some)

pub loop-i-smaller-in-Some : goal.loop-i-smaller-in-Some
loop-i-smaller-in-Some c =
    omega (arith, more (goal.at.loop-i-smaller-in-Some c).In-Some, below (goal.at.loop-i-smaller-in-Some c).In-loop-i, c.saturating_sub-i.ensures)

pub loop-i-preserved-in-Some : goal.loop-i-preserved-in-Some
loop-i-preserved-in-Some c =
    let y = (goal.at.loop-i-preserved-in-Some c).In-Some in
    let l = y.loop-i in
    let s = (goal.at.loop-i-preserved-in-Some c).Start in
    turn_again (as_party s.args.p.now) s.args.from s.args.out.now l.p l.chart l.out l.sent l.rules l.i l.invariant y.loop-i-test.true
    y.context.result y.context.ensures y.in-Some.a y.in-Some.ensures s.requires.1
    c.step-below.result c.step-below.new.chart c.step-below.ensures c.emit-sent.new.out c.emit-sent.result c.emit-sent.ensures.0 c.emit-sent.ensures.1
    c.saturating_sub-i.result c.saturating_sub-i.ensures

pub loop-i-preserved : goal.loop-i-preserved
loop-i-preserved c =
    let t = (goal.at.loop-i-preserved c).In-loop-i in
    let l = t.loop-i in
    let s = (goal.at.loop-i-preserved c).Start in
    turn_next (as_party s.args.p.now) s.args.from s.args.out.now l.p l.chart l.out l.sent l.rules l.i l.invariant t.loop-i-test.true
    c.context.result c.context.ensures c.in_default.ensures

pub returns : goal.returns
returns c =
    let l = c.loop-i in
    let s = (goal.at.returns c).Start in
    turn_end (as_party s.args.p.now) s.args.from s.args.out.now l.p l.chart l.out l.sent l.rules l.i l.invariant c.loop-i-test.false
