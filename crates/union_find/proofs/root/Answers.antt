-- `union_find::root` meets its contract: a step up keeps the root and leaves fewer steps, and at a root none is left.
use Rattle.std.proofs.Common.{◌∙◌, arith}
use Rattle.union_find.proofs.Roots.{at_root, above_inside, above_root, above_steps}
use Rattle.union_find.proofs.root.Goals as goal

pub loop-r-smaller : goal.loop-r-smaller
loop-r-smaller c = above_steps _ _ c.requires.2 c.loop-r.r c.from-r.result c.loop-r.invariant.0 c.from-r.ensures (λ e. c.loop-r-test.true (omega arith))

pub loop-r-preserved : goal.loop-r-preserved
loop-r-preserved c =
    let o = c.loop-r in
    (above_inside _ _ c.requires.2 o.r c.from-r.result o.invariant.0 c.from-r.ensures, above_root _ _ c.requires.2 o.r c.from-r.result o.invariant.0 c.from-r.ensures ∙ o.invariant.1)

pub returns : goal.returns
returns c = at_root _ _ _ c.loop-r.r _ c.from.ensures c.loop-r-test.false c.loop-r.invariant.1
