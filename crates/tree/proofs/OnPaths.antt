-- What lies on the path between two positions; the hull of a set.
use mathlib.Core.Path.{◌≡◌, refl, sym}
use mathlib.Core.Logic.{◌⊎◌, inl, inr}
use Prim.Native.Nat.{ℕ}
use native.Mathlib.Decide.{ℕ_discrete}
use lib.Dec.{T}
use Rattle.base.specs.Sets.{Set}
use Rattle.base.proofs.Bools.{T-dec}
use Rattle.tree.specs.Walk.{Walk, here, Not, OnPath}
use Rattle.tree.specs.Edges.{Edges, Adjacent, all, joined}
use Rattle.tree.specs.Inner.{In}
use Rattle.tree.specs.Component.{without}
use Rattle.tree.proofs.Walks.{mono, first, last, join, back, cut, to_point}
use Rattle.tree.proofs.Edges.{flip}
use Rattle.tree.proofs.Without.{to_without, without_not}
use Rattle.tree.proofs.Labels.{joined_walk, walk_joined}
use Rattle.tree.proofs.Components.{Component}

-- y lies on the path between two members of X
abbrev pub Hull : (ℕ → ℕ → Type 0) → (ℕ → Type 0) → ℕ → Type 0
Hull Adj X y = (a : ℕ) × (b : ℕ) × X a × X b × OnPath Adj a b y

module _ (Adj : ℕ → ℕ → Type 0) where
  -- the ends belong to the path
  pub path_first : (a b : ℕ) → OnPath Adj a b a
  path_first a b w = first Adj w refl

  pub path_last : (a b : ℕ) → OnPath Adj a b b
  path_last a b w = last Adj w refl

  -- the path of a position to itself is that position
  pub path_same : (a y : ℕ) → OnPath Adj a a y → y ≡ a
  path_same a y h = go (ℕ_discrete a y)
    where
      go : Dec (a ≡ y) → y ≡ a
      go (yes e) = sym e
      go (no d) = absurd (h (here d))

  -- the hull holds the set's members
  pub hull_member : (X : ℕ → Type 0) (x : ℕ) → X x → Hull Adj X x
  hull_member X x k = (x, x, k, k, path_first x x)

module _ (E : Edges) where
  -- the path back is the same
  pub path_flip : (a b y : ℕ) → OnPath (Adjacent E) a b y → OnPath (Adjacent E) b a y
  path_flip a b y h w = h (back (Adjacent E) (flip E) w)

  -- whether a walk inside S joins x and y can be told
  decided : (S : Set) (x y : ℕ) → Dec (Walk (Adjacent E) (In S) x y)
  decided S x y = go (T-dec (S x)) (T-dec (S y)) (T-dec (joined S E x y))
    where
      go : Dec (T (S x)) → Dec (T (S y)) → Dec (T (joined S E x y)) → Dec (Walk (Adjacent E) (In S) x y)
      go (no d) q r = no (λ w. d (first (Adjacent E) w))
      go (yes p) (no d) r = no (λ w. d (last (Adjacent E) w))
      go (yes p) (yes q) (no d) = no (λ w. d (walk_joined S E x y w))
      go (yes p) (yes q) (yes e) = yes (joined_walk S E x y p q e)

  -- whether some walk from a to b avoids z can be told
  pub avoids : (z a b : ℕ) → Dec (Walk (Adjacent E) (Not z) a b)
  avoids z a b = go (decided (without all z) a b)
    where
      go : Dec (Walk (Adjacent E) (In (without all z)) a b) → Dec (Walk (Adjacent E) (Not z) a b)
      go (yes w) = yes (mono (Adjacent E) (λ v p. without_not all z v p) w)
      go (no d) = no (λ w. d (mono (Adjacent E) (λ v p. to_without all z v tt p) w))

  -- what lies between two points of the hull is in the hull
  pub hull_path : (X : ℕ → Type 0) (x y z : ℕ) → Hull (Adjacent E) X x → Hull (Adjacent E) X y → OnPath (Adjacent E) x y z → Hull (Adjacent E) X z
  hull_path X x y z (a, b, ka, kb, h) (a', b', ka', kb', h') k = go (avoids z a b) (avoids z a a') (avoids z a' b')
    where
      W : ℕ → ℕ → Type 0
      W = Walk (Adjacent E) (Not z)

      go : Dec (W a b) → Dec (W a a') → Dec (W a' b') → Hull (Adjacent E) X z
      go (no d) q r = (a, b, ka, kb, d)
      go (yes p) (no d) r = (a, a', ka, ka', d)
      go (yes p) (yes q) (no d) = (a', b', ka', kb', d)
      go (yes p) (yes q) (yes r) = absurd (k (join (Adjacent E) (back (Adjacent E) (flip E) (to_point (Adjacent E) z h p)) (join (Adjacent E) q (to_point (Adjacent E) z h' r))))

  -- what lies on the path between two members of a component is a member
  pub path_member : (n : ℕ) (S : Set) → Component E n S → (a b y : ℕ) → T (S a) → T (S b) → OnPath (Adjacent E) a b y → T (S y)
  path_member n S C a b y p q h = go (cut (Adjacent E) y (C.connected a b p q))
    where
      go : (Walk (Adjacent E) (In S) a y × Walk (Adjacent E) (In S) y b) ⊎ Walk (Adjacent E) (λ v. T (S v) × Not y v) a b → T (S y)
      go (inl (u, v)) = last (Adjacent E) u
      go (inr v) = absurd (h (mono (Adjacent E) (λ z r. r.1) v))
