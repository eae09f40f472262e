-- `varint::put` meets its contract.
use mathlib.Core.Path.{ap, ◌∙◌}
use Prim.Native.Nat.{ℕ, ◌+◌}
use Rattle.base.proofs.Puts.{put_tail, put_zero}
use Rattle.varint.specs.Varint.{varint_bytes}
use Rattle.varint.proofs.put.Goals as goal

pub returns : goal.returns
returns c =
    let a = c.args in
    let w = c.write_pieces in
    (ap (λ (x : ℕ). a.at + x) w.ensures.0, put_tail a.out.now a.at w.new.out (varint_bytes a.v) (w.ensures.1 ∙ put_zero _ _))
