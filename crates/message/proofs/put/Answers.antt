-- `message::put` meets its contract.
use mathlib.Core.Path.{ap, ap₂, ◌∙◌}
use mathlib.Core.List.{List, ◌++◌}
use Prim.Native.Nat.{ℕ}
use native.Mathlib.Omega.{arith}
use lib.ListN.{length, length-append}
use Rattle.base.specs.Put.{put_at}
use Rattle.base.proofs.Puts.{then_put}
use Rattle.varint.specs.Varint.{varint_bytes}
use Rattle.message.specs.Message.{message_bytes, value_bytes}
use Rattle.message.proofs.Laws.{message_length}
use Rattle.message.proofs.put.Goals as goal

pub put-a-requires : goal.put-a-requires
put-a-requires c = omega (arith, message_length c.args.m)

pub put-b-requires : goal.put-b-requires
put-b-requires c = omega (arith, message_length c.args.m, ap (λ (k : ℕ). length (varint_bytes k)) c.from.ensures)

pub put-c-requires : goal.put-c-requires
put-c-requires c =
    omega (arith, message_length c.args.m, ap (λ (k : ℕ). length (varint_bytes k)) c.from.ensures, ap (λ (k : ℕ). length (varint_bytes k)) (c.number.ensures ∙ c.kind.ensures))

pub put_value-requires : goal.put_value-requires
put_value-requires c =
    omega (arith, message_length c.args.m, ap (λ (k : ℕ). length (varint_bytes k)) c.from.ensures, ap (λ (k : ℕ). length (varint_bytes k)) (c.number.ensures ∙ c.kind.ensures))

pub returns : goal.returns
unfolding message_bytes
returns c =
    let a = c.args in
    let p1 = c.put-a in
    let p2 = c.put-b in
    let p3 = c.put-c in
    let p4 = c.put_value in
    let l : List ℕ = a.out.now in
    let el = c.from.ensures in
    let ek = c.number.ensures ∙ c.kind.ensures in
    let b1 : List ℕ = varint_bytes a.m.number in
    let b2 : List ℕ = varint_bytes c.from.result in
    let b3 : List ℕ = varint_bytes c.number.result in
    let b4 : List ℕ = value_bytes a.m.body in
    let n = message_length a.m in
    let nl = ap (λ (x : ℕ). length (varint_bytes x)) el in
    let nk = ap (λ (x : ℕ). length (varint_bytes x)) ek in
    let n2 = length-append b1 b2 in
    let n3 = length-append (b1 ++ b2) b3 in
    let s2 = then_put l p1.new.out p2.new.out a.at p1.result b1 b2 (omega arith) p1.ensures.1 p1.ensures.0 p2.ensures.1 in
    let s3 = then_put l p2.new.out p3.new.out a.at p2.result (b1 ++ b2) b3 (omega arith) s2 (omega arith) p3.ensures.1 in
    let s4 = then_put l p3.new.out p4.new.out a.at p3.result ((b1 ++ b2) ++ b3) b4 (omega arith) s3 (omega arith) p4.ensures.1 in
    (omega arith, s4 ∙ ap₂ (λ (x y : ℕ). put_at l a.at (((b1 ++ varint_bytes x) ++ varint_bytes y) ++ b4)) el ek)
