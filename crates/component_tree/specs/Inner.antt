-- Components of a tree given by its rows: serves proofs only.
use Rattle.std.specs.Prelude.{◌≡◌, List, ℕ, suc, ◌-◌, ◌≤◌, ◌<◌, T, eqb, get_or}
use Rattle.base.specs.Pick.{pick}
use Rattle.base.specs.Sets.{Set, count}
use Rattle.base.specs.Limits.{max_vertices}
use Rattle.tree.specs.Walk.{Walk}
use Rattle.tree.specs.Edges.{Edges, Adjacent}
use Rattle.tree.specs.Inner.{In}
use Rattle.tree.specs.Component.{port}
use Rattle.edges.specs.Rows.{rows}
use Rattle.tree_pass.specs.Inner.{Rows}
use Rattle.marks.specs.Marks.{marked}

-- the edges of a tree of n positions
abbrev pub tree : List ℕ → List ℕ → ℕ → Edges
tree ps cs n = rows ps cs (n - 1)

-- rows in growth order, and a set of their positions that is joined in itself and not empty
pub record OfTree (ps cs : List ℕ) (n : ℕ) (S : Set) : Type 0 where
  pub grows : Rows ps cs n (n - 1)
  pub most : n ≤ max_vertices
  pub below : (x : ℕ) → T (S x) → x < n
  pub joins : (x y : ℕ) → T (S x) → T (S y) → Walk (Adjacent (tree ps cs n)) (In S) x y
  pub some : 0 < count n S

-- every position's number: 0 outside the set, else its port's and one more
abbrev pub Ports : Edges → ℕ → Set → List ℕ → Type 0
Ports E n S l = (x : ℕ) → get_or l x 0 ≡ pick (S x) (suc (port E n S x)) 0

-- neighbours with the same label are the same
abbrev pub Apart : List ℕ → List ℕ → ℕ → Type 0
Apart near labels n = (w x : ℕ) → w < n → x < n → T (marked near w) → T (marked near x) → get_or labels w 0 ≡ get_or labels x 0 → w ≡ x

-- of a row from p to v the end other than c, if its number is a; else w
unfoldable pub found : List ℕ → ℕ → ℕ → ℕ → ℕ → ℕ → ℕ
found ports c a p v w = pick (eqb c p) (pick (eqb (get_or ports v 0) a) v w) (pick (eqb c v) (pick (eqb (get_or ports p 0) a) p w) w)
