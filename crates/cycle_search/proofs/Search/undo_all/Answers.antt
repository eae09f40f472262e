-- `Search::undo_all` meets its contract: one more edge is undone and marked.
use mathlib.Core.Path.{◌≡◌}
use Prim.Native.Nat.{◌+◌, ◌-◌}
use native.Mathlib.Omega.{arith}
use Rattle.cycle_search.proofs.Marking.{marked_more}
use Rattle.cycle_search.proofs.Search.undo_all.Goals as goal

pub loop-i-init : goal.loop-i-init
loop-i-init c = record { joined = c.requires.1; marked = λ G a b h. (h, λ j l k. absurd (omega arith)) }

pub undo-requires : goal.undo-requires
undo-requires c = let e : c.loop-i.i - 1 + 1 ≡ c.loop-i.i = omega arith in rw e c.loop-i.invariant.joined

pub loop-i-preserved : goal.loop-i-preserved
loop-i-preserved c =
    let o = c.loop-i in
    let e : o.i - 1 + 1 ≡ o.i = omega arith in
    let n = rw e at c.undo.ensures.1 in
    record {
      joined = c.undo.ensures.0;
      marked = λ G a b h.
          let w = o.invariant.marked G a b h in
          let q = n G a b w.0 in
          (q.1, marked_more G a b (o.i - 1) c.args.m o.marks c.undo.result (omega arith) q.0 (rw e w.1));
    }

pub returns : goal.returns
returns c = λ G a b h j k. (c.loop-i.invariant.marked G a b h).1 j (omega arith) k
