-- "Position p of a range is reading low + p": the readings of a range as signed numbers.
use mathlib.Core.Path.{◌≡◌, refl, sym, ap, ◌∙◌}
use mathlib.Core.Bool.{Bool, true, false, cond}
use Prim.Native.Nat.{ℕ, suc, ◌+◌, ◌-◌, ◌*◌, ◌/◌, ◌%◌, ◌≤◌, ◌<◌}
use native.Mathlib.Omega.{arith}
use borrow.Author.Tests.{le-leb, lt-leb, leb-true, leb-false, lt-ltb, le-ltb, eq-eqb, ne_eqb}
use lib.Dec.{leb, eqb}
use lib.IntN.{ℤ, pos, negsuc, ◌+ℤ◌}
use lib.Signed.{mag}
use Rattle.base.specs.Limits.{offset_zero}
use Rattle.base.specs.Pick.{pick}
use Rattle.signed.specs.Signed.{zigzag, from_offset, offset_of_zigzag}
use Rattle.plan.specs.Plan.{Plan}
use Rattle.plan.specs.Positions.{reading_of}

from_high : (u : ℕ) → offset_zero ≤ u → from_offset u ≡ pos (u - offset_zero)
from_high u h = ap (λ (b : Bool). pick b (pos (u - offset_zero)) (negsuc (offset_zero - 1 - u))) (le-leb offset_zero u h)

from_low : (u : ℕ) → u < offset_zero → from_offset u ≡ negsuc (offset_zero - 1 - u)
from_low u h = ap (λ (b : Bool). pick b (pos (u - offset_zero)) (negsuc (offset_zero - 1 - u))) (lt-leb offset_zero u h)

sum_high : (a x : ℕ) → suc a ≤ x → negsuc a +ℤ pos x ≡ pos (x - suc a)
sum_high a x h = ap (λ (b : Bool). cond b (negsuc (suc a - suc x)) (pos (x - suc a))) (le-ltb x (suc a) h)

sum_low : (a x : ℕ) → x < suc a → negsuc a +ℤ pos x ≡ negsuc (suc a - suc x)
sum_low a x h = ap (λ (b : Bool). cond b (negsuc (suc a - suc x)) (pos (x - suc a))) (lt-ltb x (suc a) h)

-- offset binary keeps sums
pub from_sum : (u x : ℕ) → from_offset (u + x) ≡ from_offset u +ℤ pos x
from_sum u x = go (leb offset_zero u) refl (leb offset_zero (u + x)) refl
  where
    go : (a : Bool) → leb offset_zero u ≡ a → (b : Bool) → leb offset_zero (u + x) ≡ b → from_offset (u + x) ≡ from_offset u +ℤ pos x
    go true e b f =
        let h = leb-true offset_zero u e in
        from_high (u + x) (omega arith) ∙ ap pos (let g : u + x - offset_zero ≡ u - offset_zero + x = omega arith in g)
        ∙ ap (λ (z : ℤ). z +ℤ pos x) (sym (from_high u h))
    go false e true f =
        let h = leb-false offset_zero u e in
        let k = leb-true offset_zero (u + x) f in
        from_high (u + x) k ∙ ap pos (let g : u + x - offset_zero ≡ x - suc (offset_zero - 1 - u) = omega arith in g)
        ∙ sym (sum_high (offset_zero - 1 - u) x (omega arith)) ∙ ap (λ (z : ℤ). z +ℤ pos x) (sym (from_low u h))
    go false e false f =
        let h = leb-false offset_zero u e in
        let k = leb-false offset_zero (u + x) f in
        from_low (u + x) k ∙ ap negsuc (let g : offset_zero - 1 - (u + x) ≡ suc (offset_zero - 1 - u) - suc x = omega arith in g)
        ∙ sym (sum_low (offset_zero - 1 - u) x (omega arith)) ∙ ap (λ (z : ℤ). z +ℤ pos x) (sym (from_low u h))

-- "reading low + p"
pub reading_sum : (p : Plan) → p.kind ≡ 2 → (x : ℕ) → reading_of p x ≡ from_offset p.low +ℤ pos x
unfolding reading_of
reading_sum p k x =
    ap (λ (b : Bool). pick b (pos x) (from_offset (p.low + x))) (ap (λ (y : ℕ). eqb y 1) k) ∙ from_sum p.low x

-- the low reading that the varint of a signed number gives is that number
pub low_reading : (z : ℤ) → mag z < offset_zero → from_offset (offset_of_zigzag (zigzag z)) ≡ z
low_reading (pos n) h =
    ap from_offset (ap (λ (b : Bool). pick b (offset_zero + 2 * n / 2) (offset_zero - 1 - 2 * n / 2)) (eq-eqb (2 * n % 2) 0 (omega arith)))
    ∙ from_high (offset_zero + 2 * n / 2) (omega arith) ∙ ap pos (let g : offset_zero + 2 * n / 2 - offset_zero ≡ n = omega arith in g)
low_reading (negsuc n) h =
    let k : n < offset_zero = h in
    ap from_offset (ap (λ (b : Bool). pick b (offset_zero + (2 * n + 1) / 2) (offset_zero - 1 - (2 * n + 1) / 2)) (ne_eqb ((2 * n + 1) % 2) 0 (λ e. omega (arith, e))))
    ∙ from_low (offset_zero - 1 - (2 * n + 1) / 2) (omega arith) ∙ ap negsuc (let g : offset_zero - 1 - (offset_zero - 1 - (2 * n + 1) / 2) ≡ n = omega (arith, k) in g)
