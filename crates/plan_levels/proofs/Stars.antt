-- A star has one level that sends: its sides have one vertex each.
use mathlib.Core.Path.{◌≡◌, refl, sym, ap, ◌∙◌, subst}
use mathlib.Core.Bool.{false, not, ◌&&◌}
use Prim.Native.Nat.{ℕ, zero, suc, ◌*◌, ◌≤◌, ◌<◌}
use native.Mathlib.Omega.{arith}
use lib.Dec.{T, eqb, eqb→eq, eqb_refl, ltb→lt}
use Rattle.base.specs.Sets.{Set, count}
use Rattle.base.proofs.Bools.{T_and, T-right, not-T→false}
use Rattle.base.proofs.Counts.{count_one, count_none}
use Rattle.base.proofs.Smallest.{smallest_is}
use Rattle.tree.specs.Edges.{Edges, label, joined}
use Rattle.tree.specs.Component.{without, part, heavy, light, centre, neighbour, side}
use Rattle.plan.specs.Plan.{Plan}
use Rattle.plan.specs.Positions.{edges_of}
use Rattle.component.specs.Component.{size_of, degree_of, side_of}
use Rattle.plan_levels.specs.Levels.{levels_from}
use Rattle.plan_levels.specs.Examples.{star_edges}
use Rattle.plan_levels.proofs.Levels.{greatest_none, of_sides, levels_three, levels_few}

-- ---- without vertex 0 no edge is left

star_label : (S : Set) → S 0 ≡ false → (k x : ℕ) → label S (star_edges k) x ≡ x
unfolding label star_edges
star_label S h zero x = refl
star_label S h (suc k) x = rw h (star_label S h k x)

star_joined : (S : Set) → S 0 ≡ false → (k x y : ℕ) → T (joined S (star_edges k) x y) → x ≡ y
unfolding joined
star_joined S h k x y j = sym (star_label S h k x) ∙ eqb→eq (label S (star_edges k) x) (label S (star_edges k) y) j ∙ star_label S h k y

zero_out : (S : Set) → without S 0 0 ≡ false
unfolding without
zero_out S = not-T→false (S 0 && not (eqb 0 0)) (λ h. T-right (S 0) (not (eqb 0 0)) h)

star_alone : (k : ℕ) (S : Set) (w x : ℕ) → T (part (star_edges k) S 0 w x) → x ≡ w
unfolding part
star_alone k S w x h = star_joined (without S 0) (zero_out S) k x w (T-right (without S 0 x) _ h)

-- so every part has one vertex at most
star_part : (k n : ℕ) (S : Set) (w : ℕ) → count n (part (star_edges k) S 0 w) ≤ 1
star_part k n S w = count_one n (part (star_edges k) S 0 w) w (star_alone k S w)

-- ---- vertex 0 is the centre

module _ (k n : ℕ) (S : Set) (some : 0 < n) (zero_in : T (S 0)) (three : 3 ≤ count n S) where
  star_heavy : (x : ℕ) → T (heavy (star_edges k) n S 0 x) → ⊥
  unfolding heavy
  star_heavy x h = omega (arith, ltb→lt (count n S) (count n (part (star_edges k) S 0 x) * 2) (T-right (without S 0 x) _ h), star_part k n S x)

  star_light : T (light (star_edges k) n S 0)
  unfolding light
  star_light = T_and (S 0) _ zero_in (subst (λ (c : ℕ). T (eqb c 0)) (sym (count_none n (heavy (star_edges k) n S 0) (λ x _. star_heavy x))) (eqb_refl 0))

  star_centre : centre (star_edges k) n S ≡ 0
  unfolding centre
  star_centre = smallest_is n (light (star_edges k) n S) 0 some star_light (λ i l _. omega arith)

  star_side : (j : ℕ) → count n (side (star_edges k) n S j) ≤ 1
  unfolding side
  star_side j = subst (λ (c : ℕ). count n (part (star_edges k) S c (neighbour (star_edges k) n S j)) ≤ 1) (sym star_centre) (star_part k n S (neighbour (star_edges k) n S j))

-- ---- its levels

pub star_levels : (p : Plan) (k f : ℕ) (S : Set) → edges_of p ≡ star_edges k → 0 < p.count → T (S 0) → 3 ≤ size_of p S → levels_from (suc f) p S ≡ 1
star_levels p k f S e some zero_in three = levels_three p S f three ∙ ap suc (greatest_none (degree_of p S) (of_sides p S f) (λ j. levels_few p (side_of p S j) f (few j)))
  where
    few : (j : ℕ) → size_of p (side_of p S j) < 3
    few j = let one : count p.count (side (edges_of p) p.count S j) ≤ 1 = subst (λ (E : Edges). count p.count (side E p.count S j) ≤ 1) (sym e) (star_side k p.count S some zero_in three j) in omega arith
