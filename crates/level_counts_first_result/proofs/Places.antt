-- Whether some place is split, as a search over the places tells.
use mathlib.Core.Path.{◌≡◌}
use mathlib.Core.Bool.{Bool, true, false}
use Prim.Native.Nat.{ℕ, ◌<◌, ◌≤◌}
use native.Mathlib.Decide.{dec_lt}
use native.Mathlib.Omega.{arith}
use borrow.Author.Tests.{lt-ltb, le-ltb}
use lib.Dec.{ltb}
use Rattle.std.specs.Bool.{MatchBool}
use Rattle.base.specs.Pick.{smallest}
use Rattle.base.specs.Sets.{Set}
use Rattle.base.proofs.Bools.{true→T, false→not-T}
use Rattle.base.proofs.Smallest.{sought, found}

pub any_found : (n : ℕ) (f : Set) (r : Bool) → MatchBool r ((i : ℕ) × (i < n) × (f i ≡ true)) ((i : ℕ) → i < n → f i ≡ false) → r ≡ ltb (smallest n f) n
any_found n f true h = rw (lt-ltb (smallest n f) n (found n f h.0 h.1 (true→T h.2)).1)
any_found n f false h = rw (le-ltb (smallest n f) n (past (dec_lt (smallest n f) n)))
  where
    past : Dec (smallest n f < n) → n ≤ smallest n f
    past (yes l) = absurd (false→not-T (h (smallest n f) l) ((sought n f).hit l))
    past (no l) = omega arith
