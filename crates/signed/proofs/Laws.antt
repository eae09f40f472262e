-- The number of a varint's number, by whether it is even.
use mathlib.Core.Path.{◌≡◌}
use Prim.Native.Nat.{ℕ, ◌/◌, ◌%◌}
use lib.IntN.{pos, negsuc}
use borrow.Author.Tests.{eq-eqb, ne_eqb}
use Rattle.signed.specs.Signed.{unzigzag}

pub unzigzag_even : (v : ℕ) → v % 2 ≡ 0 → unzigzag v ≡ pos (v / 2)
unzigzag_even v e = rw (eq-eqb (v % 2) 0 e)

pub unzigzag_odd : (v : ℕ) → (v % 2 ≡ 0 → ⊥) → unzigzag v ≡ negsuc (v / 2)
unzigzag_odd v e = rw (ne_eqb (v % 2) 0 e)
