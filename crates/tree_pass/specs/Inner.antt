-- Rows of a tree in growth order, and what one of them, from p to v, changes in an array that a pass over the rows fills: serves proofs only.
use Rattle.std.specs.Prelude.{◌&&◌, List, [], ◌∷◌, ℕ, ◌≤◌, ◌<◌, eqb, length, get_or, set}
use mathlib.Core.HLevel.{×₃_prop, →_prop, ⊥_prop, Unit-prop}
use native.Mathlib.Bridge.{le_prop}
use lib.Dec.{T_prop}
use Rattle.base.specs.Pick.{pick}
use Rattle.tree.specs.Edges.{Edges, Below}
use Rattle.tree.specs.Growth.{reached}
use Rattle.tree.specs.Inner.{Grown}
use Rattle.edges.specs.Rows.{rows}
use Rattle.marks.specs.Marks.{marked}

-- the first m rows of two columns are edges between positions below n, in an order in which they grow from 0
pub record Rows (ps cs : List ℕ) (n m : ℕ) : Type 0 where
  pub some : 0 < n
  pub parents : m ≤ length ps
  pub children : m ≤ length cs
  pub below : Below n (rows ps cs m)
  pub grown : Grown (rows ps cs m)

-- and two proofs of it are the same, as a ghost field needs
below_once : (n : ℕ) (E : Edges) → IsProp (Below n E)
below_once n [] = Unit-prop
below_once n (e ∷ E) = ×₃_prop le_prop le_prop (below_once n E)

grown_once : (E : Edges) → IsProp (Grown E)
grown_once [] = Unit-prop
grown_once (e ∷ E) = ×₃_prop (T_prop (reached E e.one)) (→_prop ⊥_prop) (grown_once E)

pub rows_once : (ps cs : List ℕ) (n m : ℕ) → IsProp (Rows ps cs n m)
rows_once ps cs n m a b = λ i. record {
  some = le_prop a.some b.some i;
  parents = le_prop a.parents b.parents i;
  children = le_prop a.children b.children i;
  below = below_once n (rows ps cs m) a.below b.below i;
  grown = grown_once (rows ps cs m) a.grown b.grown i;
}

-- v takes p's label, if both are in the set
unfoldable pub handed : List ℕ → List ℕ → ℕ → ℕ → List ℕ
handed ins out p v = pick (marked ins p && marked ins v) (set out v (get_or out p 0)) out

-- w is marked, if it is in the set
unfoldable pub noted : List ℕ → List ℕ → ℕ → List ℕ
noted ins near w = pick (marked ins w) (set near w 1) near

-- the other end of a row at c is marked, if it is in the set
unfoldable pub beside : List ℕ → List ℕ → ℕ → ℕ → ℕ → List ℕ
beside ins near c p v = pick (eqb c p) (noted ins near v) (pick (eqb c v) (noted ins near p) near)
