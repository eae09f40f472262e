-- Components: sets of positions that hang together.
use Prim.Native.Nat.{ℕ, ◌<◌}
use lib.Dec.{T}
use Rattle.base.specs.Sets.{Set}
use Rattle.tree.specs.Walk.{Walk}
use Rattle.tree.specs.Edges.{Edges, Adjacent}
use Rattle.tree.specs.Inner.{In}

-- S has a member, its members are below n, and any two are joined by a walk inside S
pub record Component (E : Edges) (n : ℕ) (S : Set) : Type 0 where
  pub member : (x : ℕ) × T (S x)
  pub below : (x : ℕ) → T (S x) → x < n
  pub connected : (x y : ℕ) → T (S x) → T (S y) → Walk (Adjacent E) (In S) x y
