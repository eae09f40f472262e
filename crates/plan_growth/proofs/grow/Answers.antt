-- `grow` meets its contract: one more edge is taken, and hangs.
use mathlib.Core.Path.{◌≡◌, sym, ap, subst, ◌∙◌}
use Prim.Native.Nat.{◌+◌}
use native.Mathlib.Omega.{arith}
use Rattle.base.specs.Limits.{max_vertices}
use Rattle.edges.specs.Rows.{rows}
use Rattle.edges.proofs.Rows.{rows_length}
use Rattle.plan_growth.specs.Inner.{Laid, Columns, Listed, rows_of}
use Rattle.plan_growth.proofs.Chains.{order_start, order_step, order_end, next_fits}
use Rattle.plan_growth.proofs.grow.Goals as goal

pub loop-init : goal.loop-init
loop-init c = record { hung = c.new-hanging.ensures; rows = order_start _ _ c.new-list.ensures }

pub take_edge-requires : goal.take_edge-requires
take_edge-requires c = let r = c.requires in rw c.loop.invariant.hung (next_fits _ _ c.args.m _ c.loop-test.true r.0 (r.1, r.2, r.3))

pub hang-requires : goal.hang-requires
hang-requires c = let r = c.requires in rw c.loop.invariant.hung (next_fits _ _ c.args.m _ c.loop-test.true r.0 (r.1, r.2, r.3))

pub loop-preserved : goal.loop-preserved
loop-preserved c =
    let o = c.loop.invariant in
    let l = c.loop.list in
    record {
      hung = c.hang.ensures ∙ ap (λ (s : Columns). record { one = s.one; two = s.two; count = s.count + 1 }) o.hung;
      rows = order_step _ _ c.loop.counter (omega arith) o.rows (sym (rows_length l.parent l.child l.count)) (rw o.hung at c.take_edge.ensures);
    }

pub returns : goal.returns
returns c =
    let e : c.loop.counter ≡ c.args.m = omega arith in
    order_end (rows c.args.one.now c.args.two.now c.args.m) (omega arith) c.requires.3 c.requires.0 (rw e at c.loop.invariant.rows)
    (subst (λ (l : Listed). Laid max_vertices (rows_of l) l.parent l.child l.seen l.count) c.list.view_is c.list.invariant)
