-- Definitions that serve proofs only: a search below a bound.
use Rattle.std.specs.Prelude.{Bool, false, ◌||◌, ℕ, zero, suc}
use Rattle.base.specs.Sets.{Set}

-- some number below k passes
unfoldable pub any_below : ℕ → Set → Bool
any_below zero f = false
any_below (suc k) f = f k || any_below k f
