-- The two vertices that are kept at the root of each set, and where they go when an edge is undone. Serves proofs, and contracts of inner functions.
use Rattle.std.specs.Prelude.{List, ℕ, eqb, get_or, set}
use Rattle.base.specs.Pick.{pick}
use Rattle.union_find.specs.Inner.{root}

-- x where it is in the set of r, else c
unfoldable pub pulled : ℕ → List ℕ → ℕ → ℕ → ℕ → ℕ
pulled n up r x c = pick (eqb (root n up x) r) x c

-- x projected into the set of r: x where it is there, else that end of the edge a-b which is
unfoldable pub projected : ℕ → List ℕ → ℕ → ℕ → ℕ → ℕ → ℕ
projected n up r a b x = pulled n up r x (pulled n up r a b)

-- a column once the edge a-b does not join the sets of l and h any more: the vertex kept at h, projected into each of the two
abbrev pub shifted : ℕ → List ℕ → ℕ → ℕ → ℕ → ℕ → List ℕ → List ℕ
shifted n up l h a b f = set (set f l (projected n up l a b (get_or f h 0))) h (projected n up h a b (get_or f h 0))
