-- On a range the number of levels is found by halving: the larger side of an interval of s positions has s/2, rounded down.
use mathlib.Core.Path.{◌≡◌, refl, sym, ap, ◌∙◌, subst₂}
use Prim.Native.Nat.{ℕ, zero, suc, ◌+◌, ◌-◌, ◌/◌, ◌≤◌, ◌<◌}
use native.Mathlib.Decide.{dec_le}
use native.Mathlib.Omega.{arith}
use lib.Dec.{T}
use Rattle.base.specs.Sets.{Set}
use Rattle.base.specs.Limits.{sending_levels}
use Rattle.tree.specs.Inner.{interval, middle}
use Rattle.tree.proofs.PathEdges.{Along, path_along}
use Rattle.tree.proofs.PathInterval.{upto_interval, interval_size}
use Rattle.tree.proofs.PathSides.{interval_degree, interval_side_one, interval_side_two}
use Rattle.plan.specs.Plan.{Plan}
use Rattle.plan.specs.Positions.{edges_of}
use Rattle.plan.specs.Valid.{plan_valid}
use Rattle.plan_laws.proofs.Shape.{shape, edges_range}
use Rattle.component.specs.Component.{size_of, degree_of}
use Rattle.plan_levels.specs.Levels.{greatest, levels_from, levels_of}
use Rattle.plan_levels.specs.Inner.{halvings}
use Rattle.plan_levels.proofs.Levels.{greatest_two, of_sides, levels_three, levels_few}
use Rattle.plan_levels.proofs.Halvings.{halvings_three, halvings_few, halvings_rise}

-- of every interval
interval_levels : (p : Plan) → Along p.count (edges_of p) → (f a b : ℕ) → b < p.count → levels_from f p (interval a b) ≡ halvings f (b + 1 - a)
unfolding levels_from halvings
interval_levels p path zero a b l = refl
interval_levels p path (suc f) a b l = go (dec_le 3 (b + 1 - a)) (interval_levels p path f a (middle a b - 1)) (interval_levels p path f (middle a b + 1) b l)
  where
    S : Set
    S = interval a b

    size : size_of p S ≡ b + 1 - a
    size = interval_size p.count a b l

    go : Dec (3 ≤ b + 1 - a)
        → (middle a b - 1 < p.count → levels_from f p (interval a (middle a b - 1)) ≡ halvings f (middle a b - 1 + 1 - a))
        → levels_from f p (interval (middle a b + 1) b) ≡ halvings f (b + 1 - (middle a b + 1))
        → levels_from (suc f) p S ≡ halvings (suc f) (b + 1 - a)
    go (yes three) below above =
        let n : ℕ = p.count in
        let m : ℕ = middle a b in
        let s : ℕ = b + 1 - a in
        let one : of_sides p S f 1 ≡ halvings f (m - 1 + 1 - a) = ap (levels_from f p) (interval_side_one n (edges_of p) path a b l three) ∙ below (omega arith) in
        let two : of_sides p S f 2 ≡ halvings f (b + 1 - (m + 1)) = ap (levels_from f p) (interval_side_two n (edges_of p) path a b l three) ∙ above in
        let half : b + 1 - (m + 1) ≡ s / 2 = omega arith in
        let d : greatest (degree_of p S) (of_sides p S f) ≡ greatest 2 (of_sides p S f) = ap (λ (k : ℕ). greatest k (of_sides p S f)) (interval_degree n (edges_of p) path a b l three) in
        let r : halvings f (m - 1 + 1 - a) ≤ halvings f (s / 2) = halvings_rise f (m - 1 + 1 - a) (s / 2) (omega arith) in
        omega (arith, levels_three p S f (omega (arith, size)), greatest_two (of_sides p S f), ap (halvings f) half, halvings_three f s three)
    go (no few) below above = levels_few p S (suc f) (omega (arith, size)) ∙ sym (halvings_few (suc f) (b + 1 - a) (omega arith))

-- of all positions
pub range_levels : (p : Plan) → T (plan_valid p) → p.kind ≡ 2 → levels_of p ≡ halvings sending_levels p.count
range_levels p h k =
    let n : ℕ = p.count in
    let some : 0 < n = (shape p h).some in
    let path : Along n (edges_of p) = subst₂ Along (next some) (sym (edges_range p k)) (path_along (n - 1)) in
    ap (levels_from sending_levels p) (upto_interval n some) ∙ interval_levels p path sending_levels 0 (n - 1) (omega arith) ∙ ap (halvings sending_levels) (all some)
  where
    next : 0 < p.count → suc (p.count - 1) ≡ p.count
    next some = omega arith

    all : 0 < p.count → p.count - 1 + 1 - 0 ≡ p.count
    all some = omega arith
