-- Components of a range: intervals, whose centre, neighbours and sides are computed from their ends.
use mathlib.Core.Path.{◌≡◌, refl, sym, ap, ◌∙◌, subst}
use mathlib.Core.List.{List}
use Prim.Native.Nat.{ℕ, suc, ◌+◌, ◌-◌, ◌≤◌, ◌<◌}
use native.Mathlib.Decide.{dec_lt}
use native.Mathlib.Omega.{arith}
use lib.Dec.{T}
use borrow.Author.Tests.{lt-ltb, le-ltb}
use Rattle.base.specs.Limits.{max_width}
use Rattle.base.specs.Sets.{Set, count}
use Rattle.base.proofs.Counts.{member}
use Rattle.tree.specs.Component.{port}
use Rattle.tree.specs.Path.{path_edges}
use Rattle.tree.specs.Inner.{interval, middle}
use Rattle.tree.proofs.PathEdges.{Along, path_along}
use Rattle.tree.proofs.PathInterval.{to_interval, from_interval, interval_size}
use Rattle.tree.proofs.PathCentre.{interval_centre}
use Rattle.tree.proofs.PathSides.{interval_degree, interval_neighbour_one, interval_neighbour_two, interval_side_one, interval_side_two, interval_port_below, interval_port_middle, interval_port_above}
use Rattle.plan.specs.Plan.{Plan}
use Rattle.plan.specs.Positions.{edges_of}
use Rattle.plan.specs.Valid.{plan_valid}
use Rattle.plan_laws.proofs.Shape.{Kinds, tree, range, kinds, shape, edges_range}
use Rattle.component.specs.Component.{size_of, centre_of, degree_of, port_of, neighbour_of, side_of}
use Rattle.component.specs.Inner.{port_at, OfPlan, members, Holds, Finds}
use Rattle.component.specs.declared.Component.{Component}
use Rattle.component.specs.declared.Centre.{Centre}
use Rattle.component.proofs.Members.{members_range, holds_range}

-- ---- the code's test

pub port_one : (m x : ℕ) → x < m → 1 ≡ port_at m x
unfolding port_at
port_one m x l = rw (lt-ltb x m l)

pub port_two : (m x : ℕ) → m ≤ x → m < x → 2 ≡ port_at m x
unfolding port_at
port_two m x l h = rw (le-ltb x m l, lt-ltb m x h)

pub port_none : (m x : ℕ) → m ≤ x → x ≤ m → 0 ≡ port_at m x
unfolding port_at
port_none m x l h = rw (le-ltb x m l, le-ltb m x h)

-- ---- a component of a range is an interval

pub record InRange (p : Plan) (c : Component) : Type 0 where
  pub order : c.low ≤ c.high
  pub high : c.high < p.count
  pub most : p.count ≤ max_width + 1
  pub path : Along p.count (edges_of p)
  pub is : members p c ≡ interval c.low c.high

range_path : (p : Plan) → T (plan_valid p) → (p.kind ≡ 1 → ⊥) → Along p.count (edges_of p)
range_path p v k = go (kinds p v)
  where
    one : suc (p.count - 1) ≡ p.count
    one = omega (arith, (shape p v).some)

    go : Kinds p → Along p.count (edges_of p)
    go (tree i t) = absurd (k i)
    go (range i t) = subst (Along p.count) (sym (edges_range p i)) (subst (λ (n : ℕ). Along n (path_edges (p.count - 1))) one (path_along (p.count - 1)))

pub in_range : (p : Plan) (c : Component) → OfPlan p (members p c) → (p.kind ≡ 1 → ⊥) → InRange p c
in_range p c h k =
    let e : members p c ≡ interval c.low c.high = members_range p c k in
    let q : OfPlan p (interval c.low c.high) = subst (OfPlan p) e h in
    let r = member p.count (interval c.low c.high) q.some in
    let b = from_interval c.low c.high r.0 r.2 in
    let o : c.low ≤ c.high = omega (arith, b.0, b.1) in
    record {
      order = o;
      high = q.below c.high (to_interval c.low c.high c.high o (omega arith));
      most = (shape p h.valid).most;
      path = range_path p h.valid k;
      is = e;
    }

module _ (p : Plan) (c : Component) (R : InRange p c) where
  -- its size
  size_range : size_of p (members p c) ≡ c.high + 1 - c.low
  size_range = ap (count p.count) R.is ∙ interval_size p.count c.low c.high R.high

  pub size_code : c.high - c.low + 1 ≡ size_of p (members p c)
  size_code = omega (arith, size_range, R.order)

  module _ (three : 3 ≤ size_of p (members p c)) where
    wide : 3 ≤ c.high + 1 - c.low
    wide = omega (arith, size_range)

    range_centre : centre_of p (members p c) ≡ middle c.low c.high
    range_centre = rw R.is (interval_centre p.count (edges_of p) R.path c.low c.high R.high R.order)

    range_degree : degree_of p (members p c) ≡ 2
    range_degree = rw R.is (interval_degree p.count (edges_of p) R.path c.low c.high R.high wide)

    -- "its port is 0 at the centre, else its side"
    port_range : (x : ℕ) → T (interval c.low c.high x) → port_at (middle c.low c.high) x ≡ port (edges_of p) p.count (interval c.low c.high) x
    port_range x h = go (dec_lt x m) (dec_lt m x) (from_interval c.low c.high x h)
      where
        m : ℕ
        m = middle c.low c.high

        go : Dec (x < m) → Dec (m < x) → (c.low ≤ x) × (x ≤ c.high) → port_at m x ≡ port (edges_of p) p.count (interval c.low c.high) x
        go (yes h) d b = sym (port_one m x h) ∙ sym (interval_port_below p.count (edges_of p) R.path c.low c.high R.high wide x b.0 h)
        go (no h) (yes d) b = sym (port_two m x (omega arith) d) ∙ sym (interval_port_above p.count (edges_of p) R.path c.low c.high R.high wide x d b.1)
        go (no h) (no d) b =
            let e : x ≡ m = omega arith in
            sym (port_none m x (omega arith) (omega arith))
            ∙ sym (ap (port (edges_of p) p.count (interval c.low c.high)) e ∙ interval_port_middle p.count (edges_of p) R.path c.low c.high R.high wide)

    pub port_code : (x m k : ℕ) → T (members p c x) → m ≡ middle c.low c.high → k ≡ port_at m x → k ≡ port_of p (members p c) x
    port_code x m k h e q =
        q ∙ ap (λ (z : ℕ). port_at z x) e ∙ port_range x (subst (λ (S : Set). T (S x)) R.is h) ∙ ap (λ (S : Set). port (edges_of p) p.count S x) (sym R.is)

    -- the survey, which leaves the array
    pub finds_range : (p.kind ≡ 1 → ⊥) → (r : Centre) → r.centre ≡ middle c.low c.high → r.degree ≡ 2 → Finds p (members p c) c r
    finds_range k r a b = record { centre = a ∙ sym range_centre; degree = b ∙ sym range_degree; same = refl; numbers = record { is = λ i. absurd (k i) } }

    module _ (m k : ℕ) (at : m ≡ centre_of p (members p c)) where
      -- the centre is inside, away from both ends
      pub centre_inside : (c.low < m) × (m < c.high)
      centre_inside = (omega (arith, at, range_centre, wide), omega (arith, at, range_centre, wide))

      pub neighbour_below : k ≡ 1 → m - 1 ≡ neighbour_of p (members p c) k
      neighbour_below i =
          rw (i, R.is)
          (ap (λ (z : ℕ). z - 1) (at ∙ range_centre) ∙ sym (interval_neighbour_one p.count (edges_of p) R.path c.low c.high R.high wide))

      pub side_below : (r : Component) → k ≡ 1 → (p.kind ≡ 1 → ⊥) → r.low ≡ c.low → r.high ≡ m - 1 → Holds p r (side_of p (members p c) k)
      side_below r i d lo hi = holds_range p r (side_of p (members p c) k) d (
          members_range p r d
          ∙ rw (lo, hi, i, R.is)
          (ap (λ (z : ℕ). interval c.low (z - 1)) (at ∙ range_centre) ∙ sym (interval_side_one p.count (edges_of p) R.path c.low c.high R.high wide)))

      module _ (low : 1 ≤ k) (most : k ≤ degree_of p (members p c)) where
        two : (k ≡ 1 → ⊥) → k ≡ 2
        two i = omega (arith, range_degree)

        pub neighbour_above : (k ≡ 1 → ⊥) → m + 1 ≡ neighbour_of p (members p c) k
        neighbour_above i =
            rw (two i, R.is)
            (ap (λ (z : ℕ). z + 1) (at ∙ range_centre) ∙ sym (interval_neighbour_two p.count (edges_of p) R.path c.low c.high R.high wide))

        pub side_above : (r : Component) → (k ≡ 1 → ⊥) → (p.kind ≡ 1 → ⊥) → r.low ≡ m + 1 → r.high ≡ c.high → Holds p r (side_of p (members p c) k)
        side_above r i d lo hi = holds_range p r (side_of p (members p c) k) d (
            members_range p r d
            ∙ rw (lo, hi, two i, R.is)
            (ap (λ (z : ℕ). interval (z + 1) c.high) (at ∙ range_centre) ∙ sym (interval_side_two p.count (edges_of p) R.path c.low c.high R.high wide)))
