-- `range_plan::write_plan` meets its contract.
use mathlib.Core.Path.{sym}
use mathlib.Core.List.{List, ◌++◌}
use Prim.Native.Nat.{ℕ, ◌≤◌}
use native.Mathlib.Omega.{arith}
use lib.ListN.{length, length-append}
use Rattle.std.proofs.lemmas.List.{length-take-le}
use Rattle.base.proofs.Puts.{then_put}
use Rattle.varint.specs.Varint.{varint_bytes}
use Rattle.varint.proofs.Lengths.{length_limits}
use Rattle.range_plan.proofs.Laws.{kind_short}
use Rattle.range_plan.proofs.write_plan.Goals as goal

pub put-a-requires : goal.put-a-requires
put-a-requires c = omega (arith, kind_short)

pub put-b-requires : goal.put-b-requires
put-b-requires c = omega (arith, kind_short, (length_limits c.args.low).1)

pub put-requires : goal.put-requires
put-requires c = omega (arith, kind_short, (length_limits c.args.low).1, (length_limits c.args.width).1)

pub returns-clause-prefix_len : goal.returns-clause-prefix_len
returns-clause-prefix_len c =
    let h : c.put.result ≤ length c.put.new.out = omega (arith, kind_short, (length_limits c.args.low).1, (length_limits c.args.width).1) in
    (h, sym (length-take-le c.put.result c.put.new.out h))

pub returns-clause-value : goal.returns-clause-value
returns-clause-value c =
    let a = c.args in
    let p1 = c.put-a in
    let p2 = c.put-b in
    let p3 = c.put in
    let l : List ℕ = a.out.now in
    let b1 : List ℕ = varint_bytes 2 in
    let b2 : List ℕ = varint_bytes a.low in
    let b3 : List ℕ = varint_bytes a.width in
    let n1 = kind_short in
    let n2 = (length_limits a.low).1 in
    let n3 = (length_limits a.width).1 in
    let n4 = length-append b1 b2 in
    let n5 = length-append (b1 ++ b2) b3 in
    let s2 = then_put l p1.new.out p2.new.out 0 p1.result b1 b2 (omega arith) p1.ensures.1 p1.ensures.0 p2.ensures.1 in
    let s3 = then_put l p2.new.out p3.new.out 0 p2.result (b1 ++ b2) b3 (omega arith) s2 (omega arith) p3.ensures.1 in
    (omega arith, s3)
