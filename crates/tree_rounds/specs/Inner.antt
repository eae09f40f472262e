-- A forest that is taken apart round by round (the field's centroid decomposition): each of its components of three or more positions loses its centre.
-- For proofs, and for the contracts of inner functions.
use Rattle.std.specs.Prelude.{Bool, false, not, ◌&&◌, ◌||◌, [], ◌∷◌, ℕ, zero, suc, ◌<◌, T, leb, eqb}
use Rattle.base.specs.Sets.{Set, count}
use Rattle.base.specs.Inner.{any_below}
use Rattle.tree.specs.Edges.{Edges, Below, joined}
use Rattle.tree.specs.Component.{upto, centre}
use Rattle.tree.specs.Growth.{reached}
use Rattle.tree.specs.Inner.{Grown, shows}

-- the component of the forest A that holds x
unfoldable pub block_of : Edges → Set → ℕ → Set
block_of E A x y = A y && joined A E y x

-- x lies in a component of three or more positions
unfoldable pub in_large : Edges → ℕ → Set → ℕ → Bool
in_large E n A x = A x && leb 3 (count n (block_of E A x))

-- some component has three or more
unfoldable pub any_large : Edges → ℕ → Set → Bool
any_large E n A = any_below n (in_large E n A)

-- what is left when each component of three or more positions has lost its centre
unfoldable pub split : Edges → ℕ → Set → Set
split E n A x = A x && not (in_large E n A x && eqb x (centre E n (block_of E A x)))

-- after L rounds, from all n positions
unfoldable pub after_rounds : Edges → ℕ → ℕ → Set
after_rounds E n zero = upto n
after_rounds E n (suc L) = split E n (after_rounds E n L)

-- r rounds find a component of three or more positions, and none is left then
pub record Rounds (E : Edges) (n r : ℕ) : Type 0 where
  pub each : (L : ℕ) → L < r → T (any_large E n (after_rounds E n L))
  pub done : T (any_large E n (after_rounds E n r)) → ⊥

-- ---- passes over edges in growth order, all components of a forest at once: as `bad` of crate tree, but each edge is measured by its own component

-- some edge shows that c is not light in its component; `size` is how many positions the component of a position has
unfoldable pub bad_in : Set → (ℕ → ℕ) → (ℕ → ℕ) → Edges → ℕ → Bool
bad_in A sub size [] c = false
bad_in A sub size (e ∷ F) c = shows A sub (size e.two) e c || bad_in A sub size F c

-- the edges F stand in growth order, and the forest A is a part of what they reach
pub record Forest (F : Edges) (n : ℕ) (A : Set) : Type 0 where
  pub grown : Grown F
  pub ends : Below n F
  pub some : 0 < n
  pub below : (x : ℕ) → T (A x) → x < n
  pub reach : (x : ℕ) → T (A x) → T (reached F x)
