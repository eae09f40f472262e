-- Components of a plan: what crate tree proves of components of a tree, said of a plan and its components.
use mathlib.Core.Path.{◌≡◌, refl, sym, ap, subst}
use mathlib.Core.List.{List, [], ◌∷◌}
use Prim.Native.Nat.{ℕ, suc, ◌-◌, ◌*◌, ◌^◌, ◌≤◌, ◌<◌}
use native.Mathlib.Decide.{ℕ_discrete, dec_lt}
use native.Mathlib.Omega.{arith}
use lib.Dec.{T, lt→ltb}
use lib.ListN.{length}
use Rattle.base.specs.Sets.{Set, count}
use Rattle.base.specs.Limits.{max_vertices, max_rows, max_degree, level_count}
use Rattle.base.proofs.Counts.{member, count_pos, count_one}
use Rattle.tree.specs.Walk.{Walk}
use Rattle.tree.specs.Edges.{Adjacent}
use Rattle.tree.specs.Inner.{Acyclic}
use Rattle.tree.specs.Component.{upto}
use Rattle.tree.proofs.Laws as tree
use Rattle.tree.proofs.Walks.{mono}
use Rattle.plan.specs.Plan.{Plan}
use Rattle.plan.specs.Positions.{edges_of}
use Rattle.plan.specs.Valid.{plan_valid}
use Rattle.plan_laws.proofs.Shape.{shape}
use Rattle.plan_laws.proofs.Parts.{tree_parts, valid_tree}
use Rattle.component.specs.Component.{whole_of, size_of, centre_of, degree_of, port_of, neighbour_of, side_of}
use Rattle.component.specs.Inner.{Lent, OfPlan}

-- ---- a component of a plan is one of its edges

pub of_plan : (p : Plan) (S : Set) → T (plan_valid p) → tree.Component (edges_of p) p.count S → OfPlan p S
of_plan p S h C = record {
  valid = h;
  below = C.below;
  joins = C.connected;
  some = count_pos p.count S C.member.0 (C.below C.member.0 C.member.1) C.member.1;
}

pub plan_component : (p : Plan) (S : Set) → OfPlan p S → tree.Component (edges_of p) p.count S
plan_component p S h = let m = member p.count S h.some in record { member = (m.0, m.2); below = h.below; connected = h.joins }

pub acyclic : (p : Plan) → T (plan_valid p) → Acyclic (edges_of p)
acyclic p h = (shape p h).acyclic

-- ---- all positions

-- they are a component
pub whole_plan : (p : Plan) → T (plan_valid p) → OfPlan p (whole_of p)
whole_plan p h = let s = shape p h in of_plan p (whole_of p) h (tree.whole p.count (edges_of p) s.below s.acyclic s.some (omega (arith, s.many)))

pub whole_in : (p : Plan) (x : ℕ) → x < p.count → T (whole_of p x)
unfolding upto
whole_in p x h = lt→ltb x p.count h

-- a walk joins any two
pub whole_joined : (p : Plan) → T (plan_valid p) → (x y : ℕ) → T (whole_of p x) → T (whole_of p y) → Walk (Adjacent (edges_of p)) (λ _. Unit {0}) x y
whole_joined p h x y a b = mono (Adjacent (edges_of p)) (λ z _. tt) ((whole_plan p h).joins x y a b)

pub whole_size : (p : Plan) → size_of p (whole_of p) ≡ p.count
whole_size p = tree.count_upto p.count

-- ---- centre, ports and sides

-- "d at most 15"
pub degree_most : (p : Plan) → T (plan_valid p) → (S : Set) → degree_of p S ≤ max_degree
degree_most p h S = let s = shape p h in tree.degree_bound p.count (edges_of p) s.acyclic S max_degree s.degrees

module _ (p : Plan) (S : Set) (O : OfPlan p S) where
  ok : Acyclic (edges_of p)
  ok = acyclic p O.valid

  C : tree.Component (edges_of p) p.count S
  C = plan_component p S O

  pub centre_in : T (S (centre_of p S))
  centre_in = tree.centre_member (edges_of p) ok p.count S C

  -- a port is at most the degree, and only the centre's is 0
  pub port_most : (x : ℕ) → T (S x) → port_of p S x ≤ degree_of p S
  port_most = tree.port_high (edges_of p) ok p.count S C

  pub port_some : (x : ℕ) → T (S x) → (x ≡ centre_of p S → ⊥) → 1 ≤ port_of p S x
  port_some = tree.port_low (edges_of p) ok p.count S C

  -- in a component of two positions or more the centre has a neighbour
  pub degree_some : 2 ≤ size_of p S → 1 ≤ degree_of p S
  degree_some h = go (dec_lt 0 (degree_of p S))
    where
      only : (0 < degree_of p S → ⊥) → (x : ℕ) → T (S x) → Dec (x ≡ centre_of p S) → x ≡ centre_of p S
      only k x q (yes e) = e
      only k x q (no d) = absurd (k (omega (arith, port_some x q d, port_most x q)))

      go : Dec (0 < degree_of p S) → 1 ≤ degree_of p S
      go (yes k) = k
      go (no k) = absurd (omega (arith, count_one p.count S (centre_of p S) (λ x q. only k x q (ℕ_discrete x (centre_of p S)))))

  -- a position lies in the side of its port
  pub port_in : (x k : ℕ) → T (S x) → 1 ≤ k → port_of p S x ≡ k → T (side_of p S k x)
  port_in = tree.port_side (edges_of p) ok p.count S C

  pub side_in : (k x : ℕ) → T (side_of p S k x) → T (S x)
  side_in = tree.side_member (edges_of p) ok p.count S C

  module _ (k : ℕ) (low : 1 ≤ k) (high : k ≤ degree_of p S) where
    pub neighbour_in : T (side_of p S k (neighbour_of p S k))
    neighbour_in = tree.neighbour_side (edges_of p) ok p.count S C k low high

    -- a side is a component of at most half the positions
    pub side_plan : OfPlan p (side_of p S k)
    side_plan = of_plan p (side_of p S k) O.valid (tree.side_component (edges_of p) ok p.count S C k low high)

    pub side_half : size_of p (side_of p S k) * 2 ≤ size_of p S
    side_half = tree.side_halves (edges_of p) ok p.count S C k low high

-- ---- levels

-- S is what i steps lead to from the whole plan, each to a side of three positions or more
pub data Nested (p : Plan) : ℕ → Set → Type 0 where
  whole : Nested p 0 (whole_of p)
  side : {i : ℕ} {S : Set} → Nested p i S → 3 ≤ size_of p S → (k : ℕ) → 1 ≤ k → k ≤ degree_of p S → Nested p (suc i) (side_of p S k)

-- the numbers of the sides, the latest first
record Steps (p : Plan) (i : ℕ) (S : Set) : Type 0 where
  pub sides : List ℕ
  pub many : length sides ≡ i
  pub entered : tree.Entered (edges_of p) p.count (upto p.count) sides
  pub lead : tree.inner (edges_of p) p.count (upto p.count) sides ≡ S

steps : (p : Plan) {i : ℕ} {S : Set} → Nested p i S → Steps p i S
unfolding tree.inner
steps p whole = record { sides = []; many = refl; entered = tt; lead = refl }
steps p (side {S = S} n three k low high) =
    let s = steps p n in
    record {
      sides = k ∷ s.sides;
      many = ap suc s.many;
      entered = (subst (λ (D : Set). 3 ≤ size_of p D) (sym s.lead) three, low, subst (λ (D : Set). k ≤ degree_of p D) (sym s.lead) high, s.entered);
      lead = ap (λ (D : Set). side_of p D k) s.lead;
    }

module _ (p : Plan) (h : T (plan_valid p)) where
  -- it is a component
  pub nested_plan : {i : ℕ} {S : Set} → Nested p i S → OfPlan p S
  nested_plan whole = whole_plan p h
  nested_plan (side {S = S} n three k low high) = side_plan p S (nested_plan n) k low high

  -- and one of three positions or more is no deeper than the last level but one: each step halves, and a plan has at most 2 ^ level_count positions
  pub nested_level : {i : ℕ} {S : Set} → Nested p i S → 3 ≤ size_of p S → suc i < level_count
  nested_level {i} {S} n three =
      let s = steps p n in
      let t : 3 ≤ size_of p (tree.inner (edges_of p) p.count (upto p.count) s.sides) = subst (λ (D : Set). 3 ≤ size_of p D) (sym s.lead) three in
      let m : size_of p (whole_of p) ≤ 2 ^ suc (level_count - 1) = omega (arith, (shape p h).most, whole_size p) in
      omega (
        arith,
        s.many,
        tree.three_level (edges_of p) (acyclic p h) p.count (upto p.count) (plan_component p (whole_of p) (whole_plan p h)) (level_count - 1) s.sides s.entered m t,
      )

-- ---- lent rows

-- arrays of max_rows rows hold those of any tree
pub rows_lent : (p : Plan) → T (plan_valid p) → length p.parent ≡ max_rows → length p.child ≡ max_rows → Lent p
rows_lent p h i j = record { parents = λ k. omega (arith, most k); children = λ k. omega (arith, most k) }
  where
    most : p.kind ≡ 1 → p.count ≤ max_vertices
    most k = (tree_parts p (subst T (sym (valid_tree p k refl)) h)).most
