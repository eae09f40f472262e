-- The positions of a component of a tree and of a range, and what a valid plan says of them.
use mathlib.Core.Path.{◌≡◌, refl, sym, ap, ap₂, ◌∙◌, subst, fun_ext}
use mathlib.Core.Bool.{Bool, true, false, not, ◌&&◌}
use mathlib.Core.List.{List}
use Prim.Native.Nat.{ℕ, suc, ◌+◌, ◌-◌, ◌≤◌, ◌<◌}
use native.Mathlib.Numerals.{add-one}
use native.Mathlib.Omega.{arith}
use lib.Dec.{T, eqb, eqb→eq, eqb_refl, ltb, leb, not_T}
use lib.ListN.{get_or, replicate}
use borrow.Author.Tests.{eq-eqb, ne_eqb, le-leb, lt-leb}
use Rattle.base.specs.Limits.{max_vertices, max_degree}
use Rattle.base.specs.Pick.{pick}
use Rattle.base.specs.Sets.{Set, bit, count}
use Rattle.base.proofs.Bools.{T-ext, T→true}
use Rattle.base.proofs.Counts.{member, count_le}
use Rattle.base.proofs.Smallest.{sought}
use Rattle.tree.specs.Walk.{Walk}
use Rattle.tree.specs.Edges.{Edges, Adjacent}
use Rattle.tree.specs.Inner.{In, Acyclic, interval}
use Rattle.tree.specs.Component.{upto, centre, degree, port, neighbours, rank, neighbour, side}
use Rattle.tree.proofs.PathInterval.{upto_interval}
use Rattle.tree.proofs.Sides.{side_member, side_port, port_side}
use Rattle.tree.proofs.Degrees.{degree_bound}
use Rattle.tree.proofs.Components as X
use Rattle.edges.specs.Rows.{rows}
use Rattle.plan.specs.Plan.{Plan}
use Rattle.plan.specs.Positions.{edges_of}
use Rattle.plan.specs.Valid.{plan_valid}
use Rattle.plan_laws.proofs.Parts.{tree_parts}
use Rattle.plan_laws.proofs.Shape.{Kinds, tree, range, kinds, fit_grown, shape, edges_tree}
use Rattle.marks.specs.Marks.{marked, numbered}
use Rattle.marks.proofs.Marks.{zeros, numbered_mark}
use Rattle.tree_pass.specs.Inner.{Rows}
use Rattle.component_tree.specs.Inner.{OfTree, Ports}
use Rattle.component.specs.Component.{size_of, degree_of, port_of, side_of}
use Rattle.component.specs.Inner.{Lent, OfPlan, members, Flat, Numbered, Holds, Finds}
use Rattle.component.specs.declared.Component.{Component}
use Rattle.component.specs.declared.Centre.{Centre}

-- numbers for a tree, an interval for a range
members_tree : (p : Plan) (c : Component) → p.kind ≡ 1 → members p c ≡ numbered c.ports
unfolding members
members_tree p c k = rw (eq-eqb p.kind 1 k)

pub members_range : (p : Plan) (c : Component) → (p.kind ≡ 1 → ⊥) → members p c ≡ interval c.low c.high
unfolding members
members_range p c k = rw (ne_eqb p.kind 1 k)

-- ---- is x a member

module _ (p : Plan) (c : Component) (x : ℕ) where
  pub number_read : p.kind ≡ 1 → numbered c.ports x ≡ members p c x
  number_read k = sym (ap (λ (S : Set). S x) (members_tree p c k))

  pub between : (p.kind ≡ 1 → ⊥) → c.low ≤ x → leb x c.high ≡ members p c x
  unfolding interval
  between k h = sym (ap (λ (S : Set). S x) (members_range p c k) ∙ rw (le-leb c.low x h))

  pub before : (p.kind ≡ 1 → ⊥) → x < c.low → leb c.low x ≡ members p c x
  unfolding interval
  before k h = rw (lt-leb c.low x h) (sym (ap (λ (S : Set). S x) (members_range p c k) ∙ rw (lt-leb c.low x h)))

-- ---- marks hold a set

-- a mark for each member of S
holds_marks : (p : Plan) (c : Component) (S : Set) → p.kind ≡ 1 → ((x : ℕ) → get_or c.ports x 0 ≡ bit (S x)) → Holds p c S
unfolding numbered
holds_marks p c S k h = record {
  is = members_tree p c k ∙ fun_ext (λ x. ap (λ (z : ℕ). not (eqb z 0)) (h x) ∙ back (S x));
  flat = record { most = λ _ x. rw (h x) (small (S x)) };
}
  where
    back : (b : Bool) → not (eqb (bit b) 0) ≡ b
    back true = refl
    back false = refl

    small : (b : Bool) → bit b ≤ 1
    small true = omega arith
    small false = omega arith

-- a range needs none
pub holds_range : (p : Plan) (c : Component) (S : Set) → (p.kind ≡ 1 → ⊥) → members p c ≡ S → Holds p c S
holds_range p c S k e = record { is = e; flat = record { most = λ i. absurd (k i) } }

-- ---- all positions

pub whole_tree : (p : Plan) (c : Component) (n : ℕ) → p.kind ≡ 1 → ((x : ℕ) → get_or c.ports x 0 ≡ pick (ltb x p.count) 1 (get_or (replicate n 0) x 0)) → Holds p c (upto p.count)
unfolding upto
whole_tree p c n k h = holds_marks p c (upto p.count) k (λ x. h x ∙ ap (pick (ltb x p.count) 1) (zeros n x) ∙ bits (ltb x p.count))
  where
    bits : (b : Bool) → pick b 1 0 ≡ bit b
    bits true = refl
    bits false = refl

pub whole_range : (p : Plan) (c : Component) → T (plan_valid p) → (p.kind ≡ 1 → ⊥) → c.low ≡ 0 → c.high ≡ p.count - 1 → Holds p c (upto p.count)
whole_range p c v k a b = holds_range p c (upto p.count) k (members_range p c k ∙ rw (a, b) (sym (upto_interval p.count (shape p v).some)))

-- ---- the rows of a tree

module _ (p : Plan) (v : T (plan_valid p)) where
  -- a tree has at most as many positions as there is room for
  pub tree_most : p.kind ≡ 1 → p.count ≤ max_vertices
  tree_most k = go (kinds p v)
    where
      go : Kinds p → p.count ≤ max_vertices
      go (tree i t) = (tree_parts p t).most
      go (range i t) = absurd (omega arith)

  pub tree_rows : p.kind ≡ 1 → Lent p → Rows p.parent p.child p.count (p.count - 1)
  tree_rows k q = go (kinds p v)
    where
      go : Kinds p → Rows p.parent p.child p.count (p.count - 1)
      go (range i t) = absurd (omega arith)
      go (tree i t) =
          let g = fit_grown p.count p.parent p.child (p.count - 1) (tree_parts p t).fit in
          record { some = (tree_parts p t).some; parents = q.parents k; children = q.children k; below = g.below; grown = g.grown }

  -- a centre has few neighbours
  pub degree_small : (S : Set) → degree_of p S ≤ max_degree
  degree_small S = let h = shape p v in degree_bound p.count (edges_of p) h.acyclic S max_degree h.degrees

  -- a count of positions of a tree is small
  pub count_small : (S : Set) (r : ℕ) → p.kind ≡ 1 → r ≡ count p.count S → r ≤ max_vertices
  count_small S r k e = omega (arith, count_le p.count S, tree_most k)

-- neighbour k is a position, or the count of them
pub neighbour_most : (E : Edges) (n : ℕ) (S : Set) (k : ℕ) → neighbour E n S k ≤ n
unfolding neighbour
neighbour_most E n S k = (sought n (λ w. neighbours E n S w && eqb (rank E n S w) k)).most

-- ---- a component of a tree

module _ (p : Plan) (c : Component) (k : p.kind ≡ 1) where
  abbrev E : Edges
  E = rows p.parent p.child (p.count - 1)

  -- what the plan's edges and members tell, the rows and the numbers tell
  pub as_tree : {A : Type 0} (f : Edges → Set → A) → f (edges_of p) (members p c) ≡ f (rows p.parent p.child (p.count - 1)) (numbered c.ports)
  as_tree f = ap₂ f (edges_tree p k) (members_tree p c k)

  pub of_tree : Lent p → OfPlan p (members p c) → OfTree p.parent p.child p.count (numbered c.ports)
  of_tree q h =
      let O : OfPlan p (numbered c.ports) = subst (OfPlan p) (members_tree p c k) h in
      record {
        grows = tree_rows p h.valid k q;
        most = tree_most p h.valid k;
        below = O.below;
        joins = λ x y a b. subst (λ (F : Edges). Walk (Adjacent F) (In (numbered c.ports)) x y) (edges_tree p k) (O.joins x y a b);
        some = O.some;
      }

  -- before the survey: numbers are marks

  module _ (flat : Flat p c) where
    pub marks_are : numbered c.ports ≡ marked c.ports
    marks_are = fun_ext (λ x. numbered_mark c.ports x (flat.most k x))

    -- what the rows and the marks tell
    as_marks : {A : Type 0} (f : Edges → Set → A) → f (edges_of p) (members p c) ≡ f (rows p.parent p.child (p.count - 1)) (marked c.ports)
    as_marks f = as_tree f ∙ ap (f E) marks_are

    pub size_tree : (r : ℕ) → r ≡ count p.count (marked c.ports) → r ≡ size_of p (members p c)
    size_tree r e = e ∙ sym (as_marks (λ _ S. count p.count S))

    -- what the passes find of the marks is the survey
    pub finds_tree : (d : Component) (r : Centre) → r.centre ≡ centre (rows p.parent p.child (p.count - 1)) p.count (marked c.ports)
        → r.degree ≡ degree (rows p.parent p.child (p.count - 1)) p.count (marked c.ports) → Ports (rows p.parent p.child (p.count - 1)) p.count (marked c.ports) d.ports
        → Finds p (members p c) d r
    unfolding numbered
    finds_tree d r a b h = record {
      centre = a ∙ sym (as_marks (λ F S. centre F p.count S));
      degree = b ∙ sym (as_marks (λ F S. degree F p.count S));
      same = now ∙ sym (as_marks (λ _ S. S));
      numbers = record { is = λ _ x. h x ∙ ap₂ (λ F S. pick (S x) (suc (port F p.count S x)) 0) (sym (edges_tree p k)) (sym now) };
    }
      where
        back : (b : Bool) (z : ℕ) → not (eqb (pick b (suc z) 0) 0) ≡ b
        back true z = T→true (not (eqb (suc z) 0)) (not_T (eqb (suc z) 0) (λ e. omega (arith, eqb→eq (suc z) 0 e)))
        back false z = refl

        now : members p d ≡ marked c.ports
        now = members_tree p d k ∙ fun_ext (λ x. ap (λ (z : ℕ). not (eqb z 0)) (h x) ∙ back (marked c.ports x) (port E p.count (marked c.ports) x))

  -- after it

  module _ (N : Numbered p c) where
    pub ports_tree : Ports (rows p.parent p.child (p.count - 1)) p.count (numbered c.ports) c.ports
    ports_tree x = N.is k x ∙ as_tree (λ F S. pick (S x) (suc (port F p.count S x)) 0)

    -- a member's number
    number_is : (x : ℕ) → T (members p c x) → get_or c.ports x 0 ≡ suc (port_of p (members p c) x)
    number_is x h = N.is k x ∙ rw (T→true (members p c x) h)

    pub port_tree : (x : ℕ) → T (members p c x) → (1 ≤ get_or c.ports x 0) × (get_or c.ports x 0 - 1 ≡ port_of p (members p c) x)
    port_tree x h = (omega (arith, number_is x h), omega (arith, number_is x h))

    member_at : (x j : ℕ) → get_or c.ports x 0 ≡ suc j → T (members p c x)
    unfolding numbered
    member_at x j e = subst T (number_read p c x k) (not_T (eqb (get_or c.ports x 0) 0) (λ h. omega (arith, eqb→eq (get_or c.ports x 0) 0 h)))

    -- the positions with the number j + 1 are side j
    pub side_tree : (j : ℕ) → 1 ≤ j → OfPlan p (members p c) → (d : Component) → ((x : ℕ) → get_or d.ports x 0 ≡ bit (eqb (get_or c.ports x 0) (j + 1))) → Holds p d (side_of p (members p c) j)
    side_tree j low O d h = holds_marks p d (side_of p (members p c) j) k (λ x. h x ∙ ap bit (at x))
      where
        S : Set
        S = members p c

        F : Edges
        F = edges_of p

        ok : Acyclic F
        ok = (shape p O.valid).acyclic

        C : X.Component F p.count S
        C = let m = member p.count S O.some in record { member = (m.0, m.2); below = O.below; connected = O.joins }

        at : (x : ℕ) → eqb (get_or c.ports x 0) (j + 1) ≡ side F p.count S j x
        at x =
            T-ext (eqb (get_or c.ports x 0) (j + 1)) (side F p.count S j x)
            (λ t.
            let e : get_or c.ports x 0 ≡ suc j = eqb→eq (get_or c.ports x 0) (j + 1) t ∙ add-one j in
            let m : T (S x) = member_at x j e in
            port_side F ok p.count S C x j m low (omega (arith, number_is x m)))
            (λ t. rw (number_is x (side_member F ok p.count S C j x t) ∙ ap suc (side_port F ok p.count S C j x t) ∙ sym (add-one j)) (eqb_refl (j + 1)))
