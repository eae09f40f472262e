-- The number of levels is that of the deepest component, and only this number is.
use mathlib.Core.Path.{◌≡◌, sym, subst}
use Prim.Native.Nat.{ℕ, zero, suc, ◌-◌, ◌≤◌, ◌<◌}
use native.Mathlib.Decide.{dec_lt}
use native.Mathlib.Omega.{arith}
use lib.Dec.{T}
use Rattle.base.specs.Sets.{Set}
use Rattle.base.specs.Limits.{sending_levels}
use Rattle.base.proofs.Counts.{member}
use Rattle.plan.specs.Plan.{Plan}
use Rattle.plan.specs.Valid.{plan_valid}
use Rattle.component.specs.Component.{whole_of, size_of, degree_of, port_of, side_of}
use Rattle.component.specs.Inner.{OfPlan}
use Rattle.component_laws.proofs.Laws.{whole_plan, side_plan, side_half, Nested, nested_plan}
use Rattle.plan_levels.specs.Levels.{greatest, levels_from, levels_of}
use Rattle.plan_levels.specs.Statement.{chain_at, Deep, Deepest, Statement}
use Rattle.plan_levels.proofs.Levels.{greatest_most, greatest_taken, of_sides, levels_three, three_levels}
use Rattle.plan_levels.proofs.Chains.{side_range, side_port, chain_from, chain_whole, chain_in, deep_level, nested_chain}

-- ---- of every component

-- as `Deep`, by the chain from S
record DeepFrom (p : Plan) (S : Set) (x L : ℕ) : Type 0 where
  pub lies : T (chain_from p S x L x)
  pub three : 3 ≤ size_of p (chain_from p S x L)

module _ (p : Plan) where
  -- a component of three or more that x still lies in after L sides is counted
  deep_levels : (L f : ℕ) (S : Set) → OfPlan p S → (x : ℕ) → DeepFrom p S x L → L < f → L < levels_from f p S
  unfolding chain_from
  deep_levels L zero S O x d l = absurd (omega arith)
  deep_levels zero (suc f) S O x d l = omega (arith, levels_three p S f d.three)
  deep_levels (suc L) (suc f) S O x d l =
      let k : ℕ = port_of p S x in
      let D : Set = side_of p S k in
      let r = side_range p S O k x (chain_in p D x L x d.lies) in
      let deep : L < of_sides p S f k = deep_levels L f D (side_plan p S O k r.0 r.1) x (record { lies = d.lies; three = d.three }) (omega arith) in
      let three : 3 ≤ size_of p S = omega (arith, three_levels p D f (omega arith), side_half p S O k r.0 r.1) in
      omega (arith, levels_three p S f three, greatest_most (degree_of p S) (of_sides p S f) k r.0 r.1)

  -- the chain of a position of side k goes through that side
  deep_side : (S : Set) → OfPlan p S → (k x L : ℕ) → DeepFrom p (side_of p S k) x L → DeepFrom p S x (suc L)
  unfolding chain_from
  deep_side S O k x L d =
      let port : k ≡ port_of p S x = sym (side_port p S O k x (chain_in p (side_of p S k) x L x d.lies)) in
      record {
        lies = subst (λ (j : ℕ). T (chain_from p (side_of p S j) x L x)) port d.lies;
        three = subst (λ (j : ℕ). 3 ≤ size_of p (chain_from p (side_of p S j) x L)) port d.three;
      }

  -- and the last that is counted is there
  levels_deep : (L f : ℕ) (S : Set) → OfPlan p S → levels_from f p S ≡ suc L → (x : ℕ) × DeepFrom p S x L
  unfolding levels_from chain_from
  levels_deep L zero S O e = absurd (omega arith)
  levels_deep zero (suc f) S O e =
      let m = member p.count S O.some in
      (m.0, record { lies = m.2; three = three_levels p S (suc f) (omega arith) })
  levels_deep (suc L) (suc f) S O e =
      let g : greatest (degree_of p S) (of_sides p S f) ≡ suc L = omega (arith, levels_three p S f (three_levels p S (suc f) (omega arith))) in
      let t = greatest_taken (degree_of p S) (of_sides p S f) L g in
      let k : ℕ = t.0 in
      let D : Set = side_of p S k in
      let r = levels_deep L f D (side_plan p S O k t.1 t.2) t.3 in
      (r.0, deep_side S O k r.0 L r.1)

-- ---- of all positions

pub deepest : Statement
deepest p h = record {
  most = λ x L d. deep_levels p L sending_levels (whole_of p) (whole_plan p h) x (from x L d) (deep_level p h x L d);
  reached = λ L e. let r = levels_deep p L sending_levels (whole_of p) (whole_plan p h) (sym e) in (r.0, to r.0 L r.1);
}
  where
    from : (x L : ℕ) → Deep p x L → DeepFrom p (whole_of p) x L
    from x L d = record {
      lies = subst (λ (S : Set). T (S x)) (chain_whole p x L) d.lies;
      three = subst (λ (S : Set). 3 ≤ size_of p S) (chain_whole p x L) d.three;
    }

    to : (x L : ℕ) → DeepFrom p (whole_of p) x L → Deep p x L
    to x L d = record {
      lies = subst (λ (S : Set). T (S x)) (sym (chain_whole p x L)) d.lies;
      three = subst (λ (S : Set). 3 ≤ size_of p S) (sym (chain_whole p x L)) d.three;
    }

-- so a nested component of three or more, level i of each of its positions, is counted
pub nested_levels : (p : Plan) → T (plan_valid p) → {i : ℕ} {S : Set} → Nested p i S → 3 ≤ size_of p S → i < levels_of p
nested_levels p h {i} {S} n three =
    let m = member p.count S (nested_plan p h n).some in
    let e : S ≡ chain_at p m.0 i = sym (nested_chain p h n m.0 m.2) in
    (deepest p h).most m.0 i (record { lies = subst (λ (D : Set). T (D m.0)) e m.2; three = subst (λ (D : Set). 3 ≤ size_of p D) e three })

-- ---- only one number is that of the deepest component

no_deeper : {p : Plan} {j k : ℕ} → Deepest p j → Deepest p k → j < k → ⊥
no_deeper {k = k} a b l = let r = b.reached (k - 1) (omega arith) in omega (arith, a.most r.0 (k - 1) r.1)

pub deepest_unique : {p : Plan} {j k : ℕ} → Deepest p j → Deepest p k → j ≡ k
deepest_unique {j = j} {k = k} a b = go (dec_lt j k) (dec_lt k j)
  where
    go : Dec (j < k) → Dec (k < j) → j ≡ k
    go (yes l) d = absurd (no_deeper a b l)
    go (no l) (yes m) = absurd (no_deeper b a m)
    go (no l) (no m) = omega arith
