-- Ranges: their positions stand along a path. What crate tree proves of paths, said of a range and its components.
use mathlib.Core.Path.{◌≡◌, refl, sym, ap, ◌∙◌, subst, subst₂}
use mathlib.Core.Logic.{◌⊎◌, ◌↔◌}
use Prim.Native.Nat.{ℕ, zero, suc, ◌-◌, ◌*◌, ◌^◌, min, max, ◌≤◌, ◌<◌}
use native.Mathlib.Omega.{arith}
use lib.Dec.{T}
use lib.ListN.{replicate}
use Rattle.base.specs.Sets.{Set}
use Rattle.tree.specs.Walk.{OnPath}
use Rattle.tree.specs.Edges.{Edges, Adjacent}
use Rattle.tree.proofs.Levels.{inner}
use Rattle.tree.proofs.PathEdges.{Along, path_adjacent, path_along}
use Rattle.tree.proofs.PathWalk.{between}
use Rattle.tree.proofs.PathInterval.{interval_size}
use Rattle.tree.proofs.PathSides.{interval_degree, interval_port_above}
use Rattle.tree.proofs.PathLevels.{above_whole}
use Rattle.plan.specs.Plan.{Plan}
use Rattle.plan.specs.Positions.{edges_of}
use Rattle.plan.specs.Valid.{plan_valid}
use Rattle.plan_laws.proofs.Shape.{shape, edges_range}
use Rattle.component.specs.Component.{whole_of, size_of, degree_of, port_of, side_of}

-- what i steps lead to from the whole plan, each to side 2
unfoldable pub upper : Plan → ℕ → Set
upper p zero = whole_of p
upper p (suc i) = side_of p (upper p i) 2

upper_inner : (p : Plan) (i : ℕ) → upper p i ≡ inner (edges_of p) p.count (whole_of p) (replicate i 2)
unfolding upper inner
upper_inner p zero = refl
upper_inner p (suc i) = ap (λ (S : Set). side_of p S 2) (upper_inner p i)

-- a component with three positions or more, two sides, and x in the second
pub record Wide (p : Plan) (x : ℕ) (S : Set) : Type 0 where
  pub three : 3 ≤ size_of p S
  pub degree : degree_of p S ≡ 2
  pub port : port_of p S x ≡ 2

module _ (p : Plan) (k : p.kind ≡ 2) where
  along : 0 < p.count → Along p.count (edges_of p)
  along some =
      let n : suc (p.count - 1) ≡ p.count = omega arith in
      subst₂ Along n (sym (edges_range p k)) (path_along (p.count - 1))

  -- two positions are joined by an edge exactly when they are neighbouring numbers
  pub range_adjacent : (x y : ℕ) → x < p.count → y < p.count → Adjacent (edges_of p) x y ↔ ((y ≡ suc x) ⊎ (x ≡ suc y))
  range_adjacent x y l m =
      let r = path_adjacent (p.count - 1) x y in
      rw (edges_range p k) (λ h. (r.0 h).0, λ h. r.1 (h, omega arith, omega arith))

  -- the path between two positions has those from the smaller to the larger
  pub range_between : (a b x : ℕ) → a < p.count → b < p.count → OnPath (Adjacent (edges_of p)) a b x ↔ ((min a b ≤ x) × (x ≤ max a b))
  range_between a b x l m = between p.count (edges_of p) (along (omega arith)) a b x l m

  -- of 3 · 2 ^ i positions or more, i times side 2 leads to three or more, with the last position in their side 2
  pub upper_wide : T (plan_valid p) → (i : ℕ) → 3 * 2 ^ i ≤ p.count → Wide p (p.count - 1) (upper p i)
  upper_wide h i big =
      let n : ℕ = p.count in
      let E : Edges = edges_of p in
      let some : 0 < n = (shape p h).some in
      let a = along some in
      let w = above_whole n E a i big in
      let low : ℕ = w.0 in
      let three : 3 ≤ n - low = w.2 in
      subst (Wide p (n - 1)) (sym (upper_inner p i ∙ w.1)) (record {
        three = omega (arith, interval_size n low (n - 1) (omega arith));
        degree = interval_degree n E a low (n - 1) (omega arith) (omega arith);
        port = interval_port_above n E a low (n - 1) (omega arith) (omega arith) (n - 1) (omega arith) (omega arith);
      })
