-- One more position is passed.
use mathlib.Core.Path.{◌≡◌, sym, ◌∙◌}
use mathlib.Core.Bool.{◌||◌}
use native.Mathlib.Omega.{arith}
use Rattle.tree_levels.proofs.TakeOut.{rest_start, cut_start, any_start, rest_more, cut_more, any_more}
use Rattle.tree_levels.specs.Inner.{light_large}
use Rattle.tree_levels.proofs.take_out.Goals.{then-taken, else-taken}
use Rattle.tree_levels.proofs.take_out.Goals as goal

pub loop-x-init : goal.loop-x-init
loop-x-init c =
    let f = c.args.forest.now in
    record { alive_long = omega arith; sub_long = omega arith; any = any_start f.labels f.sub f.light; cut = cut_start f.labels f.sub f.light c.args.alive.now; rest = rest_start f.labels f.sub f.light }

pub loop-x-preserved : goal.loop-x-preserved
loop-x-preserved c =
    let f = c.args.forest.now in
    let o = c.loop-x in
    let t = c.take-taken in
    let inside = c.requires.1 o.x c.loop-x-test.true in
    let e : c.if-taken.any ≡ (light_large f.labels o.sub f.light o.x || o.any) = elim c.if-taken.branch [
      | then-taken w ↦ (let h = sym t.ensures.value ∙ w.if-taken.true in rw h (w.any-is ∙ w.if-taken.true))
      | else-taken w ↦ (let h = sym t.ensures.value ∙ w.if-taken.false in rw h w.any-is)
    ] in
    record {
      alive_long = omega arith;
      sub_long = omega arith;
      any = any_more f.labels f.sub f.light o.x o.sub o.invariant.rest o.any c.if-taken.any e o.invariant.any;
      cut = cut_more f.labels f.sub f.light o.x o.sub o.invariant.rest c.args.alive.now o.alive t.new.alive (omega arith) t.ensures.alive o.invariant.cut;
      rest = rest_more f.labels f.sub f.light o.x o.sub o.invariant.rest t.new.sub (omega arith) t.ensures.sub;
    }
