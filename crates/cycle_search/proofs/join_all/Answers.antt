-- `cycle_search::join_all` meets its contract: one more edge is joined.
use mathlib.Core.Path.{◌≡◌}
use Prim.Native.Nat.{◌<◌}
use native.Mathlib.Omega.{arith}
use lib.ListN.{length}
use Rattle.base.specs.Limits.{max_vertices}
use Rattle.edges.proofs.Rows.{row_below}
use Rattle.cycle_search.proofs.Joining.{join_start, join_more}
use Rattle.cycle_search.proofs.join_all.Goals as goal

pub loop-i-init : goal.loop-i-init
loop-i-init c =
    let f = c.fresh in
    let j = join_start max_vertices c.args.one.now c.args.two.now c.args.moved.now f.new.up f.new.weight f.ensures in
    record { unions = j.0; undoes = j.1 }

pub link-r-requires : goal.link-r-requires
link-r-requires c =
    let o = c.loop-i in
    let w = row_below max_vertices _ _ c.args.m o.i c.loop-i-test.true c.requires.3 in
    (omega (arith, c.from-a.ensures, w.0), omega (arith, c.from-b.ensures, w.1), omega arith, omega arith, omega arith, o.invariant.unions.forest)

pub loop-i-preserved : goal.loop-i-preserved
loop-i-preserved c =
    let o = c.loop-i in
    let g = c.link-r in
    let fits : o.i < length o.moved = omega arith in
    let j =
    join_more max_vertices c.args.one.now c.args.two.now o.moved o.up o.weight g.new.up g.new.weight o.i g.result fits c.from-a.ensures c.from-b.ensures
    o.invariant.unions o.invariant.undoes g.ensures.0 g.ensures.1 in
    record { unions = j.0; undoes = j.1 }

pub returns : goal.returns
returns c =
    let o = c.loop-i in
    let e : c.args.m ≡ o.i = omega arith in
    rw e o.invariant.undoes
