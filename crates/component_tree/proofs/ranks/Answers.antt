-- One more position is passed.
use native.Mathlib.Omega.{arith}
use Rattle.component_tree.proofs.Passes.{counted_start, counted_more, ranked_start, rank_room, ranked_more}
use Rattle.component_tree.proofs.ranks.Goals as goal

pub loop-x-init : goal.loop-x-init
loop-x-init c = record { counted = counted_start c.args.near.now; ranked = ranked_start c.args.near.now c.args.labels.now c.args.table.now }

pub rank-k-requires : goal.rank-k-requires
rank-k-requires c =
    let o = c.loop-x in
    (omega (arith, c.from.ensures, c.type_inv.labels o.x), rank_room c.args.near.now c.args.labels.now c.args.n c.requires.2 o.x o.k c.loop-x-test.true o.invariant.counted c.requires.3)

pub loop-x-preserved : goal.loop-x-preserved
loop-x-preserved c =
    let o = c.loop-x in
    record {
      counted = counted_more c.args.near.now o.x o.k c.rank-k.result o.invariant.counted c.rank-k.ensures.0;
      ranked = ranked_more c.args.near.now c.args.labels.now c.args.n c.requires.2 o.x o.k c.loop-x-test.true o.invariant.counted o.table c.rank-k.new.table c.from.result
          c.from.ensures (omega (arith, c.from.ensures, c.type_inv.labels o.x)) c.rank-k.ensures.1 o.invariant.ranked;
    }
