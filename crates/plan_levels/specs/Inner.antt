-- Serves proofs, and contracts of inner functions: on a range the number of sending levels is found by halving.
use Rattle.std.specs.Prelude.{ℕ, zero, suc, ◌/◌, leb}
use Rattle.base.specs.Pick.{pick}

-- how often s can be halved, rounded down, from three or more; f times at most
unfoldable pub halvings : ℕ → ℕ → ℕ
halvings zero s = 0
halvings (suc f) s = pick (leb 3 s) (suc (halvings f (s / 2))) 0
