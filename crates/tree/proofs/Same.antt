-- All geometry depends on adjacency alone: edges that join the same positions, in any order and number, give the same parts, centres, sides and ports.
use mathlib.Core.Path.{◌≡◌, refl, sym, ap, ap₂, ◌∙◌, subst, fun_ext}
use mathlib.Core.Logic.{◌↔◌}
use mathlib.Core.List.{[], ◌∷◌}
use mathlib.Core.Bool.{Bool, true, false, ◌&&◌}
use Prim.Native.Nat.{ℕ, suc, ◌*◌, ◌≤◌}
use lib.Dec.{T, eqb, ltb, eqb→eq}
use Rattle.base.specs.Pick.{pick, smallest}
use Rattle.base.specs.Sets.{Set, count}
use Rattle.base.proofs.Bools.{T-left, T-right, T-dec, T-ext}
use Rattle.tree.specs.Walk.{Walk, here, step, OnPath, edges_in, Distance}
use Rattle.tree.specs.Inner.{In}
use Rattle.tree.specs.Edges.{Edges, Adjacent, adjacent, label, joined}
use Rattle.tree.specs.Component.{without, part, heavy, light, centre, neighbours, degree, rank, neighbour, side, gateway, port}
use Rattle.tree.proofs.Edges.{adjacent→, adjacent←}
use Rattle.tree.proofs.Components.{Component}
use Rattle.tree.proofs.Labels.{joined_walk, walk_joined, joined_label, label_joined}

-- what a choice by a test is, once the test is known
picked : {A : Type 0} (P : A → Type 0) (b : Bool) (x y : A) → (T b → P x) → P y → P (pick b x y)
picked P true x y f p = f tt
picked P false x y f p = p

-- the label of a member is a member
pub label_in : (S : Set) (E : Edges) (x : ℕ) → T (S x) → T (S (label S E x))
unfolding label
label_in S [] x p = p
label_in S (e ∷ E) x p =
    picked (In S) ((S e.one && S e.two) && eqb (label S E x) (label S E e.two)) (label S E e.one) (label S E x)
    (λ h. label_in S E e.one (T-left (S e.one) (S e.two) (T-left (S e.one && S e.two) _ h))) (label_in S E x p)

-- what is no member keeps its own number as its label
pub label_out : (S : Set) (E : Edges) (x : ℕ) → (T (S x) → ⊥) → label S E x ≡ x
unfolding label
label_out S [] x d = refl
label_out S (e ∷ E) x d =
    picked (λ z. z ≡ x) ((S e.one && S e.two) && eqb (label S E x) (label S E e.two)) (label S E e.one) (label S E x)
    (λ h. absurd (d (subst (In S) (sym (eqb→eq (label S E x) (label S E e.two) (T-right (S e.one && S e.two) _ h)) ∙ label_out S E x d)
    (label_in S E e.two (T-right (S e.one) (S e.two) (T-left (S e.one && S e.two) _ h))))))
    (label_out S E x d)

-- two lists of edges make the same positions neighbours
abbrev pub Same : Edges → Edges → Type 0
Same E F = (x y : ℕ) → Adjacent E x y ↔ Adjacent F x y

pub same_sym : (E F : Edges) → Same E F → Same F E
same_sym E F s x y = ((s x y).1, (s x y).0)

pub same_trans : (E F G : Edges) → Same E F → Same F G → Same E G
same_trans E F G s r x y = (λ h. (r x y).0 ((s x y).0 h), λ h. (s x y).1 ((r x y).1 h))

-- a walk along the one is a walk along the other
pub same_walk : (E F : Edges) → Same E F → {P : ℕ → Type 0} {x y : ℕ} → Walk (Adjacent E) P x y → Walk (Adjacent F) P x y
same_walk E F s (here p) = here p
same_walk E F s (step {x = x} {y = y} p e w) = step p ((s x y).0 e) (same_walk E F s w)

-- of as many edges
pub same_length : (E F : Edges) (s : Same E F) → {P : ℕ → Type 0} {x y : ℕ} (w : Walk (Adjacent E) P x y) → edges_in (same_walk E F s w) ≡ edges_in w
unfolding edges_in same_walk
same_length E F s (here p) = refl
same_length E F s (step p e w) = ap suc (same_length E F s w)

distance_to : (E F : Edges) → Same E F → (a b k : ℕ) → Distance (Adjacent E) a b k → Distance (Adjacent F) a b k
distance_to E F s a b k d = record {
  walk = same_walk E F s d.walk;
  long = same_length E F s d.walk ∙ d.long;
  least = λ w. subst (λ (m : ℕ). k ≤ m) (same_length F E (same_sym E F s) w) (d.least (same_walk F E (same_sym E F s) w));
}

component_to : (E F : Edges) → Same E F → (n : ℕ) (S : Set) → Component E n S → Component F n S
component_to E F s n S C = record { member = C.member; below = C.below; connected = λ x y p q. same_walk E F s (C.connected x y p q) }

-- joined along the one is joined along the other, also of positions outside S
joined_to : (E F : Edges) → Same E F → (S : Set) (x y : ℕ) → T (joined S E x y) → T (joined S F x y)
joined_to E F s S x y h = go (T-dec (S x)) (T-dec (S y))
  where
    e : label S E x ≡ label S E y
    e = joined_label S E x y h

    go : Dec (T (S x)) → Dec (T (S y)) → T (joined S F x y)
    go (yes p) (yes q) = walk_joined S F x y (same_walk E F s (joined_walk S E x y p q h))
    go (yes p) (no q) = absurd (q (subst (In S) (e ∙ label_out S E y q) (label_in S E x p)))
    go (no p) (yes q) = absurd (p (subst (In S) (sym e ∙ label_out S E x p) (label_in S E y q)))
    go (no p) (no q) = label_joined S F x y (ap (label S F) (sym (label_out S E x p) ∙ e ∙ label_out S E y q))

module _ (E F : Edges) (s : Same E F) where
  pub same_path : (a b y : ℕ) → OnPath (Adjacent E) a b y ↔ OnPath (Adjacent F) a b y
  same_path a b y = (λ h w. h (same_walk F E (same_sym E F s) w), λ h w. h (same_walk E F s w))

  pub same_distance : (a b k : ℕ) → Distance (Adjacent E) a b k ↔ Distance (Adjacent F) a b k
  same_distance a b k = (distance_to E F s a b k, distance_to F E (same_sym E F s) a b k)

  pub same_adjacent : adjacent E ≡ adjacent F
  same_adjacent = fun_ext (λ x. fun_ext (λ y. T-ext (adjacent E x y) (adjacent F x y)
      (λ h. adjacent← F x y ((s x y).0 (adjacent→ E x y h))) (λ h. adjacent← E x y ((s x y).1 (adjacent→ F x y h)))))

  pub same_joined : (S : Set) → joined S E ≡ joined S F
  same_joined S = fun_ext (λ x. fun_ext (λ y. T-ext (joined S E x y) (joined S F x y) (joined_to E F s S x y) (joined_to F E (same_sym E F s) S x y)))

  pub same_part : (S : Set) (c w : ℕ) → part E S c w ≡ part F S c w
  unfolding part
  same_part S c w = fun_ext (λ x. ap (λ (j : ℕ → ℕ → Bool). without S c x && j x w) (same_joined (without S c)))

  module _ (n : ℕ) (S : Set) where
    pub same_component : Component E n S ↔ Component F n S
    same_component = (component_to E F s n S, component_to F E (same_sym E F s) n S)

    pub same_heavy : (c : ℕ) → heavy E n S c ≡ heavy F n S c
    unfolding heavy
    same_heavy c = fun_ext (λ x. ap (λ (p : Set). without S c x && ltb (count n S) (count n p * 2)) (same_part S c x))

    pub same_light : light E n S ≡ light F n S
    unfolding light
    same_light = fun_ext (λ c. ap (λ (h : Set). S c && eqb (count n h) 0) (same_heavy c))

    pub same_centre : centre E n S ≡ centre F n S
    unfolding centre
    same_centre = ap (smallest n) same_light

    pub same_neighbours : neighbours E n S ≡ neighbours F n S
    unfolding neighbours
    same_neighbours = fun_ext (λ w. ap₂ (λ (a : ℕ → ℕ → Bool) (c : ℕ). S w && a c w) same_adjacent same_centre)

    pub same_degree : degree E n S ≡ degree F n S
    unfolding degree
    same_degree = ap (count n) same_neighbours

    pub same_rank : rank E n S ≡ rank F n S
    unfolding rank
    same_rank = fun_ext (λ w. ap (count (suc w)) same_neighbours)

    pub same_neighbour : neighbour E n S ≡ neighbour F n S
    unfolding neighbour
    same_neighbour = fun_ext (λ k. ap₂ (λ (f : Set) (r : ℕ → ℕ). smallest n (λ w. f w && eqb (r w) k)) same_neighbours same_rank)

    pub same_side : side E n S ≡ side F n S
    unfolding side
    same_side = fun_ext (λ k. same_part S (centre E n S) (neighbour E n S k) ∙ ap₂ (λ (c : ℕ) (f : ℕ → ℕ). part F S c (f k)) same_centre same_neighbour)

    pub same_gateway : gateway E n S ≡ gateway F n S
    unfolding gateway
    same_gateway = fun_ext (λ x. ap (smallest n) (fun_ext (λ w.
        ap₂ (λ (f g : Set). f w && g x) same_neighbours (same_part S (centre E n S) w ∙ ap (λ (c : ℕ). part F S c w) same_centre))))

    pub same_port : port E n S ≡ port F n S
    unfolding port
    same_port = fun_ext (λ x.
        ap₂ (λ (c : ℕ) (p : ℕ). pick (eqb x c) 0 p) same_centre (ap₂ (λ (r g : ℕ → ℕ). r (g x)) same_rank same_gateway))
