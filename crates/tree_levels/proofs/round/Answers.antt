-- What the passes find says which positions are centres.
use mathlib.Core.Bool.{◌&&◌}
use Prim.Native.Nat.{◌-◌}
use lib.Dec.{ltb}
use Rattle.base.specs.Limits.{max_vertices}
use Rattle.tree_pass_forest.proofs.ForestPass.{labels_below}
use Rattle.tree_levels.specs.Inner.{outs}
use Rattle.tree_levels.proofs.RoundLaws.{round_any, round_split, round_numbers}
use Rattle.tree_levels.proofs.round.Goals as goal

pub take_out-requires : goal.take_out-requires
take_out-requires c =
    let t = c.args.tree.now in
    let f = c.components-forest in
    (t.most, labels_below t.parents.now t.children.now c.args.alive.now f.result.labels t.positions (t.positions - 1) max_vertices t.grows t.most f.ensures.labels)

pub returns : goal.returns
returns c =
    let t = c.args.tree.now in
    let f = c.components-forest.result in
    let e = c.components-forest.ensures in
    let o = c.take_out in
    record {
      value = round_any t.parents.now t.children.now c.args.alive.now f.labels f.sub f.light t.positions t.grows c.requires.1 (e.labels, (e.sizes, e.light)) o.result o.ensures.value;
      alive = round_split t.parents.now t.children.now c.args.alive.now f.labels f.sub f.light t.positions t.grows c.requires.1 (e.labels, (e.sizes, e.light)) o.new.alive o.ensures.alive;
      numbers = round_numbers c.args.alive.now o.new.alive (λ x. ltb x t.positions && outs f.labels f.sub f.light x) c.requires.0 o.ensures.alive;
    }
