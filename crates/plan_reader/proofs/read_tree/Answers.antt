-- `read_tree` meets its contract: what is left to read after the edges so far is what the tree's bytes give.
use mathlib.Core.Path.{sym, ap, ◌∙◌, subst}
use mathlib.Core.List.{List}
use Prim.Native.Nat.{ℕ}
use native.Mathlib.Omega.{arith}
use lib.ListN.{length}
use denote.Bor.{Bor}
use Rattle.std.proofs.lemmas.Result.{err_from_is_err_and}
use Rattle.plan.specs.Reading.{tree_from, ended}
use Rattle.plan.specs.Tie.{as_plan}
use Rattle.plan_reader.proofs.Tree.{Left, left_first, left_last, left_next, left_more}
use Rattle.plan_reader.proofs.read_tree.Goals as goal

pub loop-init : goal.loop-init
loop-init c =
    let r = c.args.reader.now in
    let n = c.in_ok-edges.ensures in
    let t = c.in_ok-edges.edges in
    let at = c.take_count.new.reader.at in
    (omega (arith, ap (length {A = _}) n.none.0), sym c.vertices-end.ensures, n.bytes, subst (λ (b : Bor (List ℕ)). Left b.now t at (tree_from r.bytes.now r.at)) (sym n.bytes) (left_first r.bytes.now t at n.none.0 n.count))

pub returns-in_err-take_edge-clause-tree : goal.returns-in_err-take_edge-clause-tree
returns-in_err-take_edge-clause-tree c =
    let p = err_from_is_err_and c.from_residual-in_err-take_edge.result c.from_residual-in_err-take_edge.ensures.1 in
    let v = c.loop.invariant in
    rw (p.1, p.2) (left_next _ _ _ v.3 (omega (arith, v.0, v.1)) c.in_err-take_edge.ensures.edge)

pub loop-preserved : goal.loop-preserved
loop-preserved c =
    let r = c.args.reader.now in
    let v = c.loop.invariant in
    let e = c.in_ok-take_edge.ensures in
    let t = c.take_edge.new.edges in
    let at = c.take_edge.new.reader.at in
    (omega (arith, v.0, e.more), e.same.0 ∙ v.1, e.same.1 ∙ v.2, subst (λ (b : Bor (List ℕ)). Left b.now t at (tree_from r.bytes.now r.at)) (sym e.same.1) (left_more _ _ _ v.3 t at e.same.0 e.more e.edge))

pub returns-clause-tree : goal.returns-clause-tree
returns-clause-tree c =
    let r = c.args.reader.now in
    let v = c.loop.invariant in
    let last = left_last _ _ _ v.3 (omega (arith, v.0, v.1, c.loop-test.false, c.loop.auto.counter-end, c.in_ok-edges.ensures.none.1, c.vertices-end.ensures)) in
    last ∙ ap (ended c.loop.reader.bytes.now c.loop.reader.at) (sym c.tree.ensures) ∙ ap (λ (b : Bor (List ℕ)). ended b.now c.loop.reader.at (as_plan c.tree.result)) v.2
