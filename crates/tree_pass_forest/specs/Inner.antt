-- The components of a forest, a set of positions of a tree whose rows are in growth order: for proofs, and for the contracts of inner functions.
use Rattle.std.specs.Prelude.{not, ◌&&◌, List, ℕ, get_or}
use Rattle.base.specs.Sets.{Set}
use Rattle.tree.specs.Edges.{Edges, label}
use Rattle.tree.specs.Inner.{subtree}
use Rattle.tree_rounds.specs.Inner.{bad_in}

-- the size of v's component, which stands at its label
abbrev pub size_at : List ℕ → List ℕ → ℕ → ℕ
size_at labels sub v = get_or sub (get_or labels v 0) 0

-- how many members hang below the label of v
abbrev pub size_by : Set → Edges → ℕ → ℕ
size_by A F v = subtree A F (label A F v)

-- the members of which no edge shows that they are not light in their component
unfoldable pub light_in : Set → Edges → Set
light_in A F c = A c && not (bad_in A (subtree A F) (size_by A F) F c)
