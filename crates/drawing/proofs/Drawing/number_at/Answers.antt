-- `drawing::number_at` meets its contract. The loop's invariant: no edge passed has its second end at the place, and `at` is past them.
use mathlib.Core.Path.{◌≡◌, sym, ap, ap₂, ◌∙◌}
use mathlib.Core.List.{List}
use Prim.Native.Nat.{ℕ, ◌+◌, ◌≤◌, ◌<◌}
use native.Mathlib.Omega.{arith}
use lib.ListN.{length, get_or}
use borrow.Author.Tests.{eq-eqb, ne_eqb}
use Rattle.base.specs.Pick.{smallest}
use Rattle.base.proofs.Loops.{search_start, search_next, search_hit}
use Rattle.varint.specs.Varint.{varint_bytes}
use Rattle.varint.proofs.Lengths.{length_limits}
use Rattle.edges.specs.Rows.{rows}
use Rattle.plan.specs.Bytes.{edge_bytes}
use Rattle.drawing.specs.Drawing.{number_at}
use Rattle.drawing.proofs.Plans.{no_edges, edge_length, stands}
use Rattle.drawing.proofs.Drawing.number_at.Goals.{After-size-2, After-size-in-loop-i, After-size-in-loop-i-2, In-loop-i}
use Rattle.drawing.proofs.Drawing.number_at.Goals as goal

pub overflow_add-at : goal.overflow_add-at
overflow_add-at c = record { fits = omega (arith, (length_limits 1).1, (length_limits c.vertices.result).1, c.size.ensures, c.size-2.ensures) }

pub loop-i-init : goal.loop-i-init
loop-i-init c = (rw (no_edges c.args.self.now.one c.args.self.now.two) (omega arith), search_start _, omega arith)

-- in a turn there is a row, and the places are small
small : (c : In-loop-i) → (c.loop-i.i < 254) × (c.loop-i.at ≤ 2550)
small c =
    let k = c.kept-n.ensures.1 in (
      omega (arith, k),
      omega (arith, k, (length_limits 1).1, (length_limits c.vertices.result).1, c.size.ensures, c.size-2.ensures),
    )

pub offset_bounds-self-i : goal.offset_bounds-self-i
offset_bounds-self-i c = record { fits = omega (arith, (small (goal.at.offset_bounds-self-i c).In-loop-i).0) }

pub bounds-self-i : goal.bounds-self-i
bounds-self-i c = (small (goal.at.bounds-self-i c).In-loop-i).0

-- the first end has at most five bytes
first : (c : After-size-in-loop-i) → c.size-in-loop-i.result ≤ 5
first c = omega (arith, c.size-in-loop-i.ensures, (length_limits (get_or c.args.self.now.one c.loop-i.i 0)).1)

pub overflow_add-second : goal.overflow_add-second
overflow_add-second c = record { fits = omega (arith, first (goal.at.overflow_add-second c).After-size-in-loop-i, (small (goal.at.overflow_add-second c).In-loop-i).1) }

-- what is found by the lengths of the code is found by those of the definition
found : (c : After-size-2) (r : ℕ)
    → r ≡ smallest c.kept-n.result (stands (c.size.result + c.size-2.result) c.args.self.now.one c.args.self.now.two c.args.place)
    → r ≡ number_at c.args.self.now.count c.args.self.now.one c.args.self.now.two c.args.place
found c r e =
    e ∙ ap₂ (λ (h n : ℕ). smallest n (stands h c.args.self.now.one c.args.self.now.two c.args.place))
    (ap₂ ◌+◌ c.size.ensures (c.size-2.ensures ∙ ap (λ (v : ℕ). length (varint_bytes v)) c.vertices.ensures))
    c.kept-n.ensures.0

pub returns-then-second-place-clause-number : goal.returns-then-second-place-clause-number
returns-then-second-place-clause-number c =
    let ps : List ℕ = c.args.self.now.one in
    let o = c.loop-i in
    let h = c.size.result + c.size-2.result in
    let e : (h + length (edge_bytes (rows ps c.args.self.now.two o.i))) + length (varint_bytes (get_or ps o.i 0)) ≡ c.args.place = omega (arith, c.size-in-loop-i.ensures) in
    found (goal.at.returns-then-second-place-clause-number c).After-size-2 o.i (search_hit _ c.kept-n.result o.i o.invariant.1 c.loop-i-test.true (eq-eqb _ _ e))

pub offset_bounds-self-i-in-loop-i : goal.offset_bounds-self-i-in-loop-i
offset_bounds-self-i-in-loop-i c = record { fits = omega (arith, (small (goal.at.offset_bounds-self-i-in-loop-i c).In-loop-i).0) }

pub bounds-self-i-in-loop-i : goal.bounds-self-i-in-loop-i
bounds-self-i-in-loop-i c = (small (goal.at.bounds-self-i-in-loop-i c).In-loop-i).0

-- and so has the second
second : (c : After-size-in-loop-i-2) → c.size-in-loop-i-2.result ≤ 5
second c = omega (arith, c.size-in-loop-i-2.ensures, (length_limits (get_or c.args.self.now.two c.loop-i.i 0)).1)

pub overflow_add-at-in-loop-i : goal.overflow_add-at-in-loop-i
overflow_add-at-in-loop-i c = record { fits = omega (arith, first (goal.at.overflow_add-at-in-loop-i c).After-size-in-loop-i, second (goal.at.overflow_add-at-in-loop-i c).After-size-in-loop-i-2, (small (goal.at.overflow_add-at-in-loop-i c).In-loop-i).1) }

pub loop-i-preserved : goal.loop-i-preserved
loop-i-preserved c =
    let ps : List ℕ = c.args.self.now.one in
    let cs : List ℕ = c.args.self.now.two in
    let o = c.loop-i in
    let h = c.size.result + c.size-2.result in
    let e = edge_length ps cs o.i in
    let x = c.size-in-loop-i.ensures in
    let y = c.size-in-loop-i-2.ensures in
    let f = first (goal.at.loop-i-preserved c).After-size-in-loop-i in
    let g = second (goal.at.loop-i-preserved c).After-size-in-loop-i-2 in
    let other : (h + length (edge_bytes (rows ps cs o.i))) + length (varint_bytes (get_or ps o.i 0)) ≡ c.args.place → ⊥ =
    λ q. c.if-second-place.false (omega (arith, q, x))
    in
    (omega arith, search_next _ o.i o.invariant.1 (ne_eqb _ _ other), omega arith)

pub returns-clause-number : goal.returns-clause-number
returns-clause-number c =
    let o = c.loop-i in
    let n : ℕ = c.kept-n.result in
    let f = stands (c.size.result + c.size-2.result) c.args.self.now.one c.args.self.now.two c.args.place in
    let e : o.i ≡ n = omega arith in
    sym c.kept-n.ensures.0 ∙ found (goal.at.returns-clause-number c).After-size-2 n (sym e ∙ sym o.invariant.1 ∙ ap (λ (k : ℕ). smallest k f) e)
