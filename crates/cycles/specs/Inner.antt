-- Serves proofs, and contracts of inner functions.
use Rattle.std.specs.Prelude.{not, [], ◌∷◌, ℕ, eqb, length}
use Rattle.base.specs.Pick.{pick}
use Rattle.base.specs.Sets.{Set}
use Rattle.tree.specs.Edges.{Edge, Edges, all, joined}
use Rattle.tree.specs.Component.{without}
use Rattle.cycles.specs.Cycles.{chosen}

-- the edges each of which, left out alone, leaves a and b not joined
unfoldable pub needed : Edges → ℕ → ℕ → Set
needed E a b i = not (joined all (chosen (without all i) E) a b)

-- the edge with number i, counted from 0 in plan order
unfoldable pub numbered : Edges → ℕ → Edge
numbered [] i = record { one = 0; two = 0 }
numbered (e ∷ E) i = pick (eqb i (length E)) e (numbered E i)
