-- What a pass over the positions takes out of a forest: for proofs, and for the contracts of inner functions.
use Rattle.std.specs.Prelude.{Bool, not, ◌&&◌, List, ℕ, eqb, leb, get_or}
use Rattle.base.specs.Sets.{Set}
use Rattle.base.specs.Inner.{any_below}
use Rattle.marks.specs.Marks.{marked}

-- x is marked, and the number at its label is three or more
unfoldable pub light_large : List ℕ → List ℕ → List ℕ → ℕ → Bool
light_large labels sub light x = marked light x && leb 3 (get_or sub (get_or labels x 0) 0)

-- some position of L below x has the label l
unfoldable pub passed : Set → (ℕ → ℕ) → ℕ → ℕ → Bool
passed L label x l = any_below x (λ y. L y && eqb (label y) l)

-- x is the first of L with its label, and the label's number is three or more
unfoldable pub first_large : Set → (ℕ → ℕ) → (ℕ → ℕ) → Set
first_large L label size x = L x && (leb 3 (size (label x)) && not (passed L label x (label x)))

-- the same of arrays
abbrev pub outs : List ℕ → List ℕ → List ℕ → Set
outs labels sub light = first_large (marked light) (λ x. get_or labels x 0) (λ l. get_or sub l 0)
