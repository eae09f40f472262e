-- The chain of sides of a position, from any component.
use mathlib.Core.Path.{◌≡◌, refl, sym, ap, ◌∙◌}
use Prim.Native.Nat.{ℕ, zero, suc, ◌≤◌, ◌<◌}
use native.Mathlib.Omega.{arith}
use lib.Dec.{T}
use Rattle.base.specs.Sets.{Set}
use Rattle.base.specs.Limits.{sending_levels}
use Rattle.base.proofs.Bools.{T-left}
use Rattle.base.proofs.Counts.{count_mono}
use Rattle.tree.specs.Component.{without, part, side}
use Rattle.tree.proofs.Laws as tree
use Rattle.plan.specs.Plan.{Plan}
use Rattle.plan.specs.Positions.{edges_of}
use Rattle.plan.specs.Valid.{plan_valid}
use Rattle.component.specs.Component.{whole_of, degree_of, port_of, side_of}
use Rattle.component.specs.Inner.{OfPlan}
use Rattle.component_laws.proofs.Laws as component
use Rattle.plan_levels.specs.Statement.{chain_at, Deep}

-- ---- sides

-- the side of S that holds x
abbrev next : Plan → ℕ → Set → Set
next p x S = side_of p S (port_of p S x)

-- what lies in a side lies in S, whatever set S is
side_in : (p : Plan) (S : Set) (k x : ℕ) → T (side_of p S k x) → T (S x)
unfolding side part without
side_in p S k x h = T-left (S x) _ (T-left (without S _ x) _ h)

module _ (p : Plan) (S : Set) (O : OfPlan p S) (k x : ℕ) (h : T (side_of p S k x)) where
  -- only sides 1 to d have positions
  pub side_range : (1 ≤ k) × (k ≤ degree_of p S)
  side_range = tree.side_range (edges_of p) (component.acyclic p O.valid) p.count S (component.plan_component p S O) k x h

  -- and these have its number for their port
  pub side_port : port_of p S x ≡ k
  side_port = tree.side_port (edges_of p) (component.acyclic p O.valid) p.count S (component.plan_component p S O) k x h

-- ---- the chain from S

unfoldable pub chain_from : Plan → Set → ℕ → ℕ → Set
chain_from p S x zero = S
chain_from p S x (suc L) = chain_from p (next p x S) x L

chain_next : (p : Plan) (S : Set) (x L : ℕ) → chain_from p S x (suc L) ≡ next p x (chain_from p S x L)
unfolding chain_from
chain_next p S x zero = refl
chain_next p S x (suc L) = chain_next p (next p x S) x L

-- that from all positions
pub chain_whole : (p : Plan) (x L : ℕ) → chain_at p x L ≡ chain_from p (whole_of p) x L
unfolding chain_at chain_from
chain_whole p x zero = refl
chain_whole p x (suc L) = ap (next p x) (chain_whole p x L) ∙ sym (chain_next p (whole_of p) x L)

-- it stays in S
pub chain_in : (p : Plan) (S : Set) (x L y : ℕ) → T (chain_from p S x L y) → T (S y)
unfolding chain_from
chain_in p S x zero y h = h
chain_in p S x (suc L) y h = side_in p S (port_of p S x) y (chain_in p (next p x S) x L y h)

-- ---- how deep it goes

module _ (p : Plan) (h : T (plan_valid p)) where
  -- a component, as long as the chain holds x
  pub chain_plan : (x L : ℕ) → T (chain_at p x L x) → OfPlan p (chain_at p x L)
  unfolding chain_at
  chain_plan x zero q = component.whole_plan p h
  chain_plan x (suc L) q =
      let S : Set = chain_at p x L in
      let k : ℕ = port_of p S x in
      let O = chain_plan x L (side_in p S k x q) in
      let r = side_range p S O k x q in
      component.side_plan p S O k r.0 r.1

  -- x is not its centre where the next one holds it too
  pub chain_port : (x L : ℕ) → T (chain_at p x (suc L) x) → (1 ≤ port_of p (chain_at p x L) x) × (port_of p (chain_at p x L) x ≤ degree_of p (chain_at p x L))
  unfolding chain_at
  chain_port x L q =
      let S : Set = chain_at p x L in
      let k : ℕ = port_of p S x in
      side_range p S (chain_plan x L (side_in p S k x q)) k x q

  -- three or more positions at a level are so before
  pub deep_before : (x L : ℕ) → Deep p x (suc L) → Deep p x L
  unfolding chain_at
  deep_before x L d =
      let S : Set = chain_at p x L in
      let k : ℕ = port_of p S x in
      record { lies = side_in p S k x d.lies; three = omega (arith, d.three, count_mono p.count (side_of p S k) S (λ y _. side_in p S k y)) }

  -- so the components of the chain are nested
  pub deep_nested : (x L : ℕ) → Deep p x L → component.Nested p L (chain_at p x L)
  unfolding chain_at
  deep_nested x zero d = component.whole
  deep_nested x (suc L) d =
      let b = deep_before x L d in
      let r = chain_port x L d.lies in
      component.side (deep_nested x L b) b.three (port_of p (chain_at p x L) x) r.0 r.1

  -- at most 15 of them send
  pub deep_level : (x L : ℕ) → Deep p x L → L < sending_levels
  deep_level x L d = omega (arith, component.nested_level p h (deep_nested x L d) d.three)

  -- and every nested component is one of the chain of each of its positions
  pub nested_chain : {i : ℕ} {S : Set} → component.Nested p i S → (x : ℕ) → T (S x) → chain_at p x i ≡ S
  unfolding chain_at
  nested_chain component.whole x q = refl
  nested_chain (component.side {S = S} n three k low high) x q =
      ap (next p x) (nested_chain n x (side_in p S k x q)) ∙ ap (side_of p S) (side_port p S (component.nested_plan p h n) k x q)
