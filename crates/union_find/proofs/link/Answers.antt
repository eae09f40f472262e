-- `union_find::link` meets its contract: p and q are the roots of a and b, and the lighter goes under the heavier.
use mathlib.Core.Path.{sym, ◌∙◌}
use mathlib.Core.Logic.{inl, inr}
use Prim.Native.Nat.{◌<◌}
use native.Mathlib.Omega.{arith}
use borrow.Author.Rules.{rules}
use Rattle.union_find.specs.Inner.{Top}
use Rattle.union_find.proofs.Roots.{rooted, placed}
use Rattle.union_find.proofs.Sets.{weights_fit, linked_same, linked_under, under_same, under_high}
use Rattle.union_find.proofs.link.Goals.{After-root-q}
use Rattle.union_find.proofs.link.Goals as goal

p-placed : (c : After-root-q) → let s = c in (c.root-p.result < s.args.n) × Top s.args.up.now c.root-p.result
p-placed c = let s = c in placed _ _ _ s.requires.5 s.args.a c.root-p.result s.requires.0 c.root-p.ensures

q-placed : (c : After-root-q) → let s = c in (c.root-q.result < s.args.n) × Top s.args.up.now c.root-q.result
q-placed c = let s = c in placed _ _ _ s.requires.5 s.args.b c.root-q.result s.requires.1 c.root-q.ensures

pub root-p-requires : goal.root-p-requires
root-p-requires c = (search rules, search rules, rooted _ _ _ c.requires.5)

pub root-q-requires : goal.root-q-requires
root-q-requires c = (search rules, search rules, rooted _ _ _ c.requires.5)

pub returns-then-p-q : goal.returns-then-p-q
returns-then-p-q c =
    let k = (goal.at.returns-then-p-q c).After-root-q in
    let s = k in
    let q = q-placed k in (
      λ E u. linked_same _ E _ _ u s.args.a s.args.b s.requires.0 s.requires.1 (sym k.root-p.ensures ∙ c.if-p-q.true ∙ k.root-q.ensures),
      under_same _ _ _ q.0 q.1,
    )

pub offset_bounds-weight-p : goal.offset_bounds-weight-p
offset_bounds-weight-p c = omega (arith, p-placed (goal.at.offset_bounds-weight-p c).After-root-q, q-placed (goal.at.offset_bounds-weight-p c).After-root-q)

pub bounds-weight-p : goal.bounds-weight-p
bounds-weight-p c = omega (arith, p-placed (goal.at.bounds-weight-p c).After-root-q, q-placed (goal.at.bounds-weight-p c).After-root-q)

pub offset_bounds-weight-q : goal.offset_bounds-weight-q
offset_bounds-weight-q c = omega (arith, p-placed (goal.at.offset_bounds-weight-q c).After-root-q, q-placed (goal.at.offset_bounds-weight-q c).After-root-q)

pub bounds-weight-q : goal.bounds-weight-q
bounds-weight-q c = omega (arith, p-placed (goal.at.bounds-weight-q c).After-root-q, q-placed (goal.at.bounds-weight-q c).After-root-q)

pub attach-requires : goal.attach-requires
attach-requires c =
    let k = (goal.at.attach-requires c).After-root-q in
    let s = k in
    let p = p-placed k in
    let q = q-placed k in
    let d = c.if-p-q.false in
    let w = weights_fit _ _ _ k.root-p.result k.root-q.result s.requires.5 p.0 q.0 p.1 q.1 d in
    (omega (arith, s.requires), omega (arith, s.requires), omega (arith, s.requires), omega (arith, s.requires), omega (arith, w, s.requires))

pub attach-requires-2 : goal.attach-requires-2
attach-requires-2 c =
    let k = (goal.at.attach-requires-2 c).After-root-q in
    let s = k in
    let p = p-placed k in
    let q = q-placed k in
    let d = c.if-p-q.false in
    let w = weights_fit _ _ _ k.root-q.result k.root-p.result s.requires.5 q.0 p.0 q.1 p.1 (λ e. d (sym e)) in
    (omega (arith, s.requires), omega (arith, s.requires), omega (arith, s.requires), omega (arith, s.requires), omega (arith, w, s.requires))

pub returns-then-weight-p : goal.returns-then-weight-p
returns-then-weight-p c =
    let a = c in
    let i = a in
    let e = i in
    let k = (goal.at.returns-then-weight-p c).After-root-q in
    let s = k in
    let p = p-placed k in
    let q = q-placed k in (
      λ E u.
          linked_under _ E _ _ u s.args.a s.args.b s.requires.0 s.requires.1 k.root-p.result k.root-q.result
          (inl (k.root-p.ensures, k.root-q.ensures)) e.if-p-q.false (omega (arith, i.if-weight-p.true)) s.requires.2 s.requires.3
          a.attach.new.up a.attach.new.weight a.attach.ensures.0 a.attach.ensures.1,
      under_high _ _ _ _ _ p.0 s.requires.2 p.1 q.1 e.if-p-q.false a.attach.ensures.0,
    )

pub returns : goal.returns
returns c =
    let a = c in
    let i = a in
    let e = i in
    let k = (goal.at.returns c).After-root-q in
    let s = k in
    let p = p-placed k in
    let q = q-placed k in (
      λ E u.
          linked_under _ E _ _ u s.args.a s.args.b s.requires.0 s.requires.1 k.root-q.result k.root-p.result
          (inr (k.root-q.ensures, k.root-p.ensures)) (λ z. e.if-p-q.false (sym z)) (omega (arith, i.if-weight-p.false)) s.requires.2 s.requires.3
          a.attach-2.new.up a.attach-2.new.weight a.attach-2.ensures.0 a.attach-2.ensures.1,
      under_high _ _ _ _ _ q.0 s.requires.2 q.1 p.1 (λ z. e.if-p-q.false (sym z)) a.attach-2.ensures.0,
    )
