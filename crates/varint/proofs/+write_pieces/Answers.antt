-- `varint::write_pieces` meets its contract.
use native.Mathlib.Omega.{arith}
use mathlib.Core.Path.{refl, sym, ap, ◌∙◌}
use mathlib.Core.List.{List, ◌++◌}
use lib.ListN.{length, length-set, length-drop, set, take, drop}
use Rattle.base.proofs.Puts.{put_first, put_rest, put_zero, tail_lent, tail_back}
use Rattle.varint.specs.Varint.{pieces}
use Rattle.varint.proofs.Laws.{pieces_none, pieces_last, pieces_more, pieces_pos}
use Prim.Native.Nat.{ℕ, ◌+◌, ◌-◌, ◌/◌, ◌%◌}
use Rattle.varint.proofs.+write_pieces.Goals as goal

pub returns-then-left-eq0 : goal.returns-then-left-eq0
returns-then-left-eq0 t c =
    let a = c.args in
    rw (pieces_none a.left a.v c.if-left-eq0.true) (refl, put_first a.out.now _ (omega (arith, pieces_pos a.left a.v)) ∙ sym (put_zero a.out.now _))

pub returns-then-v-lt-PIECE : goal.returns-then-v-lt-PIECE
returns-then-v-lt-PIECE t c =
    let a = c.args in
    rw (pieces_last a.left a.v (omega arith) (omega arith)) (refl, put_first a.out.now _ (omega (arith, pieces_pos a.left a.v)) ∙ sym (put_zero a.out.now _))

pub slice_bounds-write_pieces-count : goal.slice_bounds-write_pieces-count
slice_bounds-write_pieces-count t c = simp length-set (omega (arith, pieces_pos c.args.left c.args.v))

pub slice_bounds-write_pieces-start : goal.slice_bounds-write_pieces-start
slice_bounds-write_pieces-start t c = simp length-set (omega (arith, pieces_pos c.args.left c.args.v))

pub overflow_add-result : goal.overflow_add-result
overflow_add-result t c = omega (arith, ap length (pieces_more c.args.left c.args.v (omega arith) (omega arith)))

pub write_pieces-requires : goal.write_pieces-requires
write_pieces-requires t c =
    let a = c.args in
    let e = ap length (pieces_more a.left a.v (omega arith) (omega arith)) in
    (omega arith, rw (tail_lent) (simp (length-drop, length-set) (omega (arith, e))))

pub returns : goal.returns
returns t c =
    let a = c.args in
    let w = c.write_pieces in
    let ys : List ℕ = pieces (a.left - 1) (a.v / 128) in
    let x : ℕ = a.v % 128 + 128 in
    let l : List ℕ = set a.out.now 0 x in
    rw (pieces_more a.left a.v (omega arith) (omega arith)) (
      omega arith,
      tail_back 1 l w.new.out
          ∙ ap (λ (z : List ℕ). take 1 l ++ z) (w.ensures.1 ∙ put_zero _ _ ∙ ap (λ (z : List ℕ). ys ++ drop (length ys) z) (tail_lent 1 l))
          ∙ put_rest a.out.now x ys (omega (arith, pieces_pos a.left a.v))
          ∙ sym (put_zero a.out.now _),
    )
