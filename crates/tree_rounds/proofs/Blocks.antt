-- The components of a forest A: what the test `block_of` tells, that each is a component, and bounds of labels and sizes.
use mathlib.Core.Path.{◌≡◌, refl, sym, ap, ◌∙◌, fun_ext}
use mathlib.Core.Bool.{◌&&◌}
use Prim.Native.Nat.{ℕ, ◌≤◌, ◌<◌}
use lib.Dec.{T, eqb}
use Rattle.base.specs.Sets.{Set, count}
use Rattle.base.proofs.Bools.{T_and, T-left, T-right}
use Rattle.base.proofs.Counts.{count_le, count_pos}
use Rattle.tree.specs.Walk.{Walk, here, step}
use Rattle.tree.specs.Edges.{Edges, Adjacent, label, joined}
use Rattle.tree.specs.Inner.{In}
use Rattle.tree.proofs.Walks.{first}
use Rattle.tree.proofs.Labels.{edge_label, walk_label, label_walk, joined_label, label_joined, label_inside}
use Rattle.tree.proofs.Components.{Component}
use Rattle.tree_rounds.specs.Inner.{block_of, Forest}

module _ (E : Edges) (A : Set) where
  -- the component of x holds the members of A that have x's label
  pub block_in : (x y : ℕ) → T (block_of E A x y) → T (A y)
  unfolding block_of
  block_in x y h = T-left (A y) _ h

  pub block_label : (x y : ℕ) → T (block_of E A x y) → label A E y ≡ label A E x
  unfolding block_of
  block_label x y h = joined_label A E y x (T-right (A y) _ h)

  pub to_block : (x y : ℕ) → T (A y) → label A E y ≡ label A E x → T (block_of E A x y)
  unfolding block_of
  to_block x y p h = T_and (A y) _ p (label_joined A E y x h)

  pub block_own : (x : ℕ) → T (A x) → T (block_of E A x x)
  block_own x p = to_block x x p refl

  -- positions of one label have one component
  pub label_block : (x y : ℕ) → label A E y ≡ label A E x → block_of E A y ≡ block_of E A x
  unfolding block_of joined
  label_block x y h = fun_ext (λ z. ap (λ (l : ℕ). A z && eqb (label A E z) l) h)

  pub block_same : (x y : ℕ) → T (block_of E A x y) → block_of E A y ≡ block_of E A x
  block_same x y h = label_block x y (block_label x y h)

  -- what an edge inside A joins to a component is in it
  pub block_edge : (x y z : ℕ) → Adjacent E y z → T (block_of E A x y) → T (A z) → T (block_of E A x z)
  block_edge x y z e h p = to_block x z p (sym (edge_label A E y z e (block_in x y h) p) ∙ block_label x y h)

  -- it is what walks inside A join to x
  pub block_walk : (x y : ℕ) → T (A x) → T (block_of E A x y) → Walk (Adjacent E) (In A) y x
  block_walk x y p h = label_walk A E y x (block_in x y h) p (block_label x y h)

  pub walk_block : (x y : ℕ) → Walk (Adjacent E) (In A) y x → T (block_of E A x y)
  walk_block x y w = to_block x y (first (Adjacent E) w) (walk_label A E w)

  -- a walk inside A stays in it
  stays : (x : ℕ) {y z : ℕ} → Walk (Adjacent E) (In A) y z → T (block_of E A x y) → Walk (Adjacent E) (In (block_of E A x)) y z
  stays x (here p) h = here h
  stays x (step {x = y} {y = u} p e w) h = step h e (stays x w (block_edge x y u e h (first (Adjacent E) w)))

  -- so it is a component
  pub block_component : (n : ℕ) → ((y : ℕ) → T (A y) → y < n) → (x : ℕ) → T (A x) → Component E n (block_of E A x)
  block_component n below x p = record {
    member = (x, block_own x p);
    below = λ y h. below y (block_in x y h);
    connected = λ y z h k. stays x (label_walk A E y z (block_in x y h) (block_in x z k) (block_label x y h ∙ sym (block_label x z k))) h;
  }

module _ (F : Edges) (n : ℕ) (A : Set) (forest : Forest F n A) where
  -- ---- bounds, for code: the label of a member is a member, and a component has from 1 to n positions

  pub label_below : (x : ℕ) → T (A x) → label A F x < n
  label_below x p = forest.below (label A F x) (label_inside A F x p)

  pub block_some : (x : ℕ) → T (A x) → 0 < count n (block_of F A x)
  block_some x p = count_pos n (block_of F A x) x (forest.below x p) (block_own F A x p)

  pub block_most : (x : ℕ) → count n (block_of F A x) ≤ n
  block_most x = count_le n (block_of F A x)
