-- Components, their centre, its neighbours in rising order, sides and ports.
-- E are the plan's edges, n the number of its positions, S a component: a set of positions.
use Rattle.std.specs.Prelude.{not, ◌&&◌, ℕ, suc, ◌*◌, eqb, ltb}
use Rattle.base.specs.Pick.{pick, smallest}
use Rattle.base.specs.Sets.{Set, count}
use Rattle.tree.specs.Edges.{Edges, adjacent, joined}

-- the positions 0 .. n-1
unfoldable pub upto : ℕ → Set
upto n x = ltb x n

-- the set without c
unfoldable pub without : Set → ℕ → Set
without S c x = S x && not (eqb x c)

-- what is left of S without c falls into parts: the part that holds w
unfoldable pub part : Edges → Set → ℕ → ℕ → Set
part E S c w x = without S c x && joined (without S c) E x w

-- members of S whose part, when c is removed, has more than half of S's positions
unfoldable pub heavy : Edges → ℕ → Set → ℕ → Set
heavy E n S c x = without S c x && ltb (count n S) (count n (part E S c x) * 2)

-- members whose removal leaves parts of at most half the positions
unfoldable pub light : Edges → ℕ → Set → Set
light E n S c = S c && eqb (count n (heavy E n S c)) 0

-- "the centre is the smallest-numbered position whose removal leaves parts of at most s/2 positions"
unfoldable pub centre : Edges → ℕ → Set → ℕ
centre E n S = smallest n (light E n S)

-- the neighbours of the centre in the component
unfoldable pub neighbours : Edges → ℕ → Set → Set
neighbours E n S w = S w && adjacent E (centre E n S) w

-- d, how many neighbours the centre has
unfoldable pub degree : Edges → ℕ → Set → ℕ
degree E n S = count n (neighbours E n S)

-- the number of the neighbour w, "in rising order", from 1
unfoldable pub rank : Edges → ℕ → Set → ℕ → ℕ
rank E n S w = count (suc w) (neighbours E n S)

-- neighbour k
unfoldable pub neighbour : Edges → ℕ → Set → ℕ → ℕ
neighbour E n S k = smallest n (λ w. neighbours E n S w && eqb (rank E n S w) k)

-- "side k is the part that holds neighbour k"
unfoldable pub side : Edges → ℕ → Set → ℕ → Set
side E n S k = part E S (centre E n S) (neighbour E n S k)

-- the neighbour whose part holds x
unfoldable pub gateway : Edges → ℕ → Set → ℕ → ℕ
gateway E n S x = smallest n (λ w. neighbours E n S w && part E S (centre E n S) w x)

-- "Otherwise its port is 0 at the centre, else its side" (document 01's term)
unfoldable pub port : Edges → ℕ → Set → ℕ → ℕ
port E n S x = pick (eqb x (centre E n S)) 0 (rank E n S (gateway E n S x))
