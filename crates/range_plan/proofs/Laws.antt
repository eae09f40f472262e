-- Laws that the functions' proofs cite.
use mathlib.Core.Path.{◌≡◌, refl, ap}
use mathlib.Core.Bool.{Bool, true, false}
use Prim.Native.Nat.{ℕ, zero, suc, ◌-◌}
use native.Mathlib.Omega.{arith}
use lib.ListN.{length}
use lib.IntN.{pos, negsuc, neg_ℤ}
use Rattle.base.specs.Pick.{pick}
use Rattle.varint.specs.Varint.{pieces, varint_bytes}
use Rattle.script_numbers.specs.declared.Reading.{Reading}
use Rattle.range_plan.specs.Range.{integer}

-- ---- the number of a reading

pub integer_zero : (r : Reading) → r.magnitude ≡ 0 → integer r ≡ pos 0
integer_zero r e = rw e (go r.negative)
  where
    go : (t : Bool) → pick t (pos 0) (pos 0) ≡ pos 0
    go true = refl
    go false = refl

pub integer_negative : (r : Reading) → (r.magnitude ≡ 0 → ⊥) → r.negative ≡ true → integer r ≡ negsuc (r.magnitude - 1)
integer_negative r d e = rw e (go r.magnitude d)
  where
    go : (m : ℕ) → (m ≡ 0 → ⊥) → neg_ℤ (pos m) ≡ negsuc (m - 1)
    go zero d = absurd (d refl)
    go (suc m) d = ap negsuc (omega arith)

pub integer_positive : (r : Reading) → r.negative ≡ false → integer r ≡ pos r.magnitude
integer_positive r e = rw e

-- the kind of a range is one byte
pub kind_short : length (varint_bytes 2) ≡ 1
unfolding pieces
kind_short = refl
