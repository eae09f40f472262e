-- Edges kept as two columns of numbers.
use Rattle.std.specs.Prelude.{List, [], ◌∷◌, ◌++◌, ℕ, zero, suc, get_or}
use Rattle.tree.specs.Edges.{Edge, Edges}

-- the first k rows of two columns as edges, the latest first
unfoldable pub rows : List ℕ → List ℕ → ℕ → Edges
rows ps cs zero = []
rows ps cs (suc i) = record { one = get_or ps i 0; two = get_or cs i 0 } ∷ rows ps cs i

-- a column of edges, the oldest first
unfoldable pub column : (Edge → ℕ) → Edges → List ℕ
column f [] = []
column f (e ∷ E) = column f E ++ (f e ∷ [])
