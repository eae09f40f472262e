-- Sets of positions kept as bytes: 1 at each member and 0 elsewhere, or a number other than 0 at each member.
use Rattle.std.specs.Prelude.{not, List, ℕ, eqb, get_or}
use Rattle.base.specs.Sets.{Set}

-- the positions whose mark is 1
unfoldable pub marked : List ℕ → Set
marked l x = eqb (get_or l x 0) 1

-- the positions whose number is not 0
unfoldable pub numbered : List ℕ → Set
numbered l x = not (eqb (get_or l x 0) 0)
