-- A path numbered along itself.
use Rattle.std.specs.Prelude.{[], ◌∷◌, ℕ, zero, suc}
use Rattle.tree.specs.Edges.{Edge, Edges}

-- the k edges 0-1, 1-2, .. that join neighbouring positions
unfoldable pub path_edges : ℕ → Edges
path_edges zero = []
path_edges (suc k) = record { one = k; two = suc k } ∷ path_edges k
