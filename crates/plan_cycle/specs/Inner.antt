-- For contracts of inner functions.
use Rattle.std.specs.Prelude.{List, eqb, get_or, ℕ}
use Rattle.base.specs.Sets.{Set}

-- the numbers that are marked by 1
unfoldable pub marked : List ℕ → Set
marked l i = eqb (get_or l i 0) 1
