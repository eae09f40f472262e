-- `drawing::write_plan` meets its contract. The loop's invariant: behind the kind and the vertex count stand the ends of the edges passed, and each of their
-- varints has at most five bytes.
use mathlib.Core.Path.{◌≡◌, refl, sym, ap, ap₂, ◌∙◌}
use mathlib.Core.List.{List, ◌++◌, append_assoc}
use Prim.Native.Nat.{ℕ, ◌+◌, ◌≤◌, ◌<◌}
use native.Mathlib.Omega.{arith}
use lib.ListN.{length, get_or, length-append}
use Rattle.base.specs.Put.{put_at}
use Rattle.base.proofs.Puts.{put_none, then_put}
use Rattle.varint.specs.Varint.{varint_bytes}
use Rattle.varint.proofs.Lengths.{length_limits}
use Rattle.edges.specs.Rows.{rows}
use Rattle.plan.specs.Bytes.{edge_bytes}
use Rattle.drawing.specs.Drawing.{plan_bytes}
use Rattle.drawing.proofs.Plans.{kind_short, no_edges, edge_more}
use Rattle.drawing.proofs.Drawing.write_plan.Goals.{In-loop-i}
use Rattle.drawing.proofs.Drawing.write_plan.Goals as goal

pub put-head-requires : goal.put-head-requires
put-head-requires c = omega (arith, kind_short)

pub put-at-requires : goal.put-at-requires
put-at-requires c = omega (arith, kind_short, (length_limits c.vertices.result).1)

pub loop-i-init : goal.loop-i-init
loop-i-init c =
    let e = no_edges c.args.self.now.one c.args.self.now.two in
    (rw e (omega arith), rw e (sym (put_none c.put-at.new.out c.put-at.result)), refl, omega arith)

-- in a turn there is a row, and room for its two ends
room : (c : In-loop-i) → (c.loop-i.i < 254) × (c.loop-i.at + 10 ≤ length c.loop-i.out)
room c =
    let k = c.kept-n.ensures.1 in (
      omega (arith, k),
      omega (arith, k, kind_short, (length_limits c.vertices.result).1, c.put-head.ensures.0, c.put-at.ensures.0),
    )

pub offset_bounds-self-i : goal.offset_bounds-self-i
offset_bounds-self-i c = record { fits = omega (arith, (room (goal.at.offset_bounds-self-i c).In-loop-i).0) }

pub bounds-self-i : goal.bounds-self-i
bounds-self-i c = (room (goal.at.bounds-self-i c).In-loop-i).0

pub put-second-requires : goal.put-second-requires
put-second-requires c = omega (arith, (room (goal.at.put-second-requires c).In-loop-i).1, (length_limits (get_or c.args.self.now.one c.loop-i.i 0)).1)

pub offset_bounds-self-i-in-loop-i : goal.offset_bounds-self-i-in-loop-i
offset_bounds-self-i-in-loop-i c = record { fits = omega (arith, (room (goal.at.offset_bounds-self-i-in-loop-i c).In-loop-i).0) }

pub bounds-self-i-in-loop-i : goal.bounds-self-i-in-loop-i
bounds-self-i-in-loop-i c = (room (goal.at.bounds-self-i-in-loop-i c).In-loop-i).0

pub put-at-requires-in-loop-i : goal.put-at-requires-in-loop-i
put-at-requires-in-loop-i c =
    let i = c.loop-i.i in
    omega (
      arith,
      (room (goal.at.put-at-requires-in-loop-i c).In-loop-i).1,
      (length_limits (get_or c.args.self.now.one i 0)).1,
      (length_limits (get_or c.args.self.now.two i 0)).1,
      c.put-second.ensures.0,
      c.put-second.auto,
    )

pub loop-i-preserved : goal.loop-i-preserved
loop-i-preserved c =
    let ps : List ℕ = c.args.self.now.one in
    let cs : List ℕ = c.args.self.now.two in
    let o = c.loop-i in
    let first = c.put-second in
    let second = c.put-at-in-loop-i in
    let l : List ℕ = c.put-at.new.out in
    let at : ℕ = c.put-at.result in
    let b : List ℕ = edge_bytes (rows ps cs o.i) in
    let x : List ℕ = varint_bytes (get_or ps o.i 0) in
    let y : List ℕ = varint_bytes (get_or cs o.i 0) in
    let more : (b ++ x) ++ y ≡ edge_bytes (rows ps cs (o.i + 1)) = edge_more ps cs o.i in
    let r = room (goal.at.loop-i-preserved c).In-loop-i in
    let n1 = (length_limits (get_or ps o.i 0)).1 in
    let n2 = (length_limits (get_or cs o.i 0)).1 in
    let m1 = length-append b x in
    let m2 = length-append (b ++ x) y in
    let m3 = ap length more in
    let s1 = then_put l o.out first.new.out at o.at b x (omega arith) o.invariant.1 o.invariant.0 first.ensures.1 in
    let s2 = then_put l first.new.out second.new.out at first.result (b ++ x) y (omega arith) s1 (omega arith) second.ensures.1 in
    (omega arith, s2 ∙ ap (put_at l at) more, omega arith, omega arith)

pub returns : goal.returns
returns c =
    let ps : List ℕ = c.args.self.now.one in
    let cs : List ℕ = c.args.self.now.two in
    let o = c.loop-i in
    let head = c.put-head in
    let count = c.put-at in
    let l : List ℕ = c.args.out.now in
    let x : List ℕ = varint_bytes 1 in
    let y : List ℕ = varint_bytes c.vertices.result in
    let b : List ℕ = edge_bytes (rows ps cs o.i) in
    let m = c.kept-n.ensures in
    let last : o.i ≡ c.kept-n.result = omega arith in
    let all : (x ++ y) ++ b ≡ plan_bytes c.args.self.now.count ps cs =
    append_assoc x y b ∙ ap₂ (λ (v k : ℕ). x ++ (varint_bytes v ++ edge_bytes (rows ps cs k))) c.vertices.ensures (last ∙ m.0)
    in
    let n1 = kind_short in
    let n2 = (length_limits c.vertices.result).1 in
    let m1 = length-append x y in
    let m2 = length-append (x ++ y) b in
    let m3 = ap length all in
    let s1 = then_put l head.new.out count.new.out 0 head.result x y (omega arith) head.ensures.1 head.ensures.0 count.ensures.1 in
    let s2 = then_put l count.new.out o.out 0 count.result (x ++ y) b (omega arith) s1 (omega arith) o.invariant.1 in
    (omega arith, s2 ∙ ap (put_at l 0) all, omega arith)
