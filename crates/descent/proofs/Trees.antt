-- Trees are plans of the kind that the vote asks for; so answers on a tree are the same or joined, and on paths between inputs.
use mathlib.Core.Path.{◌≡◌, refl, sym}
use mathlib.Core.Logic.{◌⊎◌, inl, inr}
use Prim.Native.Nat.{ℕ, ◌*◌, ◌≤◌, ◌<◌}
use native.Mathlib.Omega.{arith}
use lib.Dec.{T}
use Rattle.base.specs.Sets.{Set, count, Sound}
use Rattle.tree.specs.Edges.{Edges, Adjacent}
use Rattle.tree.specs.Inner.{Acyclic}
use Rattle.tree.specs.Component.{centre, degree, port, neighbour, side}
use Rattle.tree.proofs.Laws.{flip, small, Component, port_high, port_zero, port_side, side_component, side_halves, neighbour_side, neighbour_adjacent, ports_path, neighbour_path, Hull, hull_member, hull_path}
use Rattle.descent.specs.Inner.{Shape, OnSide, Laws, Convex, Levels, Facts, Input, Reached, Answered, Quiet}
use Rattle.descent.proofs.Descent.{answers_in, outputs_near}
use Rattle.descent.proofs.Ending.{answers}

-- trees as plans: E are the edges, n bounds the positions, a component is a set of positions
abbrev pub tree_shape : Edges → ℕ → Shape
tree_shape E n = record {
  Comp = Set;
  Proper = Component E n;
  Member = λ S x. T (S x);
  size = count n;
  centre = centre E n;
  port = port E n;
  neighbour = neighbour E n;
  side = side E n;
  Near = λ x y. (x ≡ y) ⊎ Adjacent E x y;
}

module _ (E : Edges) (ok : Acyclic E) (n : ℕ) where
  -- a side that a position is in has a number of at most the degree
  high : (S : Set) (x k : ℕ) → OnSide (tree_shape E n) S x k → k ≤ degree E n S
  high S x k s = omega (arith, s.port, port_high E ok n S s.large.proper x s.member)

  pub tree_laws : Laws (tree_shape E n)
  tree_laws = record {
    near_refl = λ x. inl refl;
    near_sym = λ x y. mirror x y;
    small_near = λ S x y C s p q. small E ok n S C s x y p q;
    port_zero = λ S x l p e. port_zero E ok n S l.proper x p e;
    side_proper = λ S x k s. side_component E ok n S s.large.proper k s.low (high S x k s);
    side_smaller = λ S x k s. omega (arith, s.large.three, side_halves E ok n S s.large.proper k s.low (high S x k s));
    side_member = λ S x k s. port_side E ok n S s.large.proper x k s.member s.low s.port;
    neighbour_member = λ S x k s. neighbour_side E ok n S s.large.proper k s.low (high S x k s);
    neighbour_near = λ S x k s. inr (neighbour_adjacent E ok n S s.large.proper k s.low (high S x k s));
  }
    where
      mirror : (x y : ℕ) → (x ≡ y) ⊎ Adjacent E x y → (y ≡ x) ⊎ Adjacent E y x
      mirror x y (inl e) = inl (sym e)
      mirror x y (inr a) = inr (flip E x y a)

  -- the hull of a set is convex
  pub hull_convex : (X : ℕ → Type 0) → Convex (tree_shape E n) (Hull (Adjacent E) X)
  hull_convex X = record {
    has_centre = λ S x y l p q d hx hy. hull_path E X x y _ hx hy (ports_path E ok n S l.proper x y p q d);
    has_neighbour = λ S x y k s q d hx hy. hull_path E X x y _ hx hy (neighbour_path E ok n S s.large.proper x y k s.member q s.low s.port d);
  }

  module _ (B : Levels (tree_shape E n)) (m : ℕ) (bad : Set) (whole : Set) (top : Component E n whole) (F : Facts (tree_shape E n) B m bad whole) where
    abbrev Inputs : ℕ → Type 0
    Inputs = Input (tree_shape E n) B m bad

    -- Answers of sound boards are the same or joined.
    pub tree_near : (i j y z : ℕ) → Sound m bad i → Sound m bad j → B.Output i 0 y → B.Output j 0 z → (y ≡ z) ⊎ Adjacent E y z
    tree_near i j y z g h o u = outputs_near (tree_shape E n) B m bad tree_laws whole top F g h o u

    -- Each is on the path between two inputs of sound boards.
    pub tree_between : (i y : ℕ) → Sound m bad i → B.Output i 0 y → Hull (Adjacent E) (Input (tree_shape E n) B m bad) y
    tree_between i y g o =
        answers_in (tree_shape E n) B m bad tree_laws whole top F (Hull (Adjacent E) Inputs) (hull_convex Inputs)
        (λ j S x h e. hull_member (Adjacent E) Inputs x (j, S, h, e)) i y g o

    -- Once all is settled, every sound board has one.
    pub tree_ends : (t : ℕ) → 3 * t < m → count m bad ≤ t → Quiet (tree_shape E n) B m bad t → ((i : ℕ) → Sound m bad i → Reached (tree_shape E n) B m bad i 0)
        → (i : ℕ) → Sound m bad i → Answered (tree_shape E n) B m bad i 0
    tree_ends t third few Q started = answers (tree_shape E n) B m bad tree_laws whole top F t third few Q started
