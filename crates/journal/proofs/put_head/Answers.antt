-- `journal::put_head` meets its contract.
use native.Mathlib.Omega.{arith}
use Prim.Native.Nat.{ℕ}
use mathlib.Core.List.{List}
use lib.ListN.{length-append}
use Rattle.base.proofs.Puts.{then_put}
use Rattle.varint.specs.Varint.{varint_bytes}
use Rattle.journal.proofs.put_head.Goals as goal

pub returns : goal.returns
returns c =
    let a = c.args in
    let p1 = c.put-i in
    let p2 = c.put in
    let l : List ℕ = a.out.now in
    let b1 : List ℕ = varint_bytes a.tag in
    let b2 : List ℕ = varint_bytes a.number in
    let n = length-append b1 b2 in
    (omega arith, then_put l p1.new.out p2.new.out 0 p1.result b1 b2 (omega arith) p1.ensures.1 p1.ensures.0 p2.ensures.1)
