use Prim.Native.Nat.{◌+◌}
use native.Mathlib.Omega.{arith}
use Rattle.tree_pass.specs.Tree.{edges_of}
use Rattle.tree_levels.proofs.LevelLaws.{Done, done_start, done_below, done_less, done_more, done_end}
use Rattle.tree_levels.proofs.levels.Goals.{In-loop-alive}
use Rattle.tree_levels.proofs.levels.Goals as goal

pub loop-alive-init : goal.loop-alive-init
loop-alive-init c =
    let t = c.args.tree.now in
    done_start (edges_of t) t.positions c.fill.new.m c.fill.ensures

pub round-requires : goal.round-requires
round-requires c =
    let t = c.args.tree.now in
    let o = c.loop-alive in
    (o.invariant.small, done_below t.parents.now t.children.now t.positions o.k o.alive t.grows o.invariant)

-- a turn more
turn : (c : In-loop-alive) → Done (edges_of c.args.tree.now) c.args.tree.now.positions (c.loop-alive.k + 1) c.round.new.alive
turn c =
    let t = c.args.tree.now in
    let o = c.loop-alive in
    let r = c.round in
    done_more t.parents.now t.children.now t.positions o.k o.alive t.grows o.invariant r.result r.ensures.value c.loop-alive-test.true r.new.alive r.ensures.alive r.ensures.numbers

pub overflow_add-k : goal.overflow_add-k
overflow_add-k c = omega (arith, (turn (goal.at.overflow_add-k c).In-loop-alive).few, c.args.tree.now.most)

pub loop-alive-smaller : goal.loop-alive-smaller
loop-alive-smaller c =
    let t = c.args.tree.now in
    let o = c.loop-alive in
    let r = c.round in
    done_less t.parents.now t.children.now t.positions o.k o.alive t.grows o.invariant r.result r.ensures.value c.loop-alive-test.true r.new.alive r.ensures.alive

pub loop-alive-preserved : goal.loop-alive-preserved
loop-alive-preserved c = turn (goal.at.loop-alive-preserved c).In-loop-alive

pub returns : goal.returns
returns c =
    let t = c.args.tree.now in
    let o = c.loop-alive in
    let r = c.round in
    done_end t.parents.now t.children.now t.positions o.k o.alive t.grows o.invariant r.result r.ensures.value c.loop-alive-test.false
