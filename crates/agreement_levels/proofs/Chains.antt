-- The chain of sides of the last position of a range.
use mathlib.Core.Path.{◌≡◌, refl, sym, subst}
use Prim.Native.Nat.{ℕ, zero, suc, ◌-◌, ◌*◌, ◌^◌, ◌≤◌, ◌<◌}
use native.Mathlib.Nat.{pow-le-pow_right}
use native.Mathlib.Omega.{arith}
use lib.Dec.{T}
use Rattle.base.specs.Sets.{Set}
use Rattle.plan.specs.Plan.{Plan}
use Rattle.plan.specs.Valid.{plan_valid}
use Rattle.component.specs.Component.{size_of, port_of, side_of}
use Rattle.component_laws.proofs.Laws.{whole_in, port_in}
use Rattle.component_laws.proofs.Ranges.{upper, upper_wide}
use Rattle.plan_levels.specs.Statement.{chain_at, Deep}
use Rattle.plan_levels.proofs.Chains.{chain_plan}

-- the chain is side 2 every time, while there are positions enough
module _ (p : Plan) (range : p.kind ≡ 2) (valid : T (plan_valid p)) where
  abbrev x : ℕ
  x = p.count - 1

  smaller : (i : ℕ) → 3 * 2 ^ suc i ≤ p.count → 3 * 2 ^ i ≤ p.count
  smaller i k = let z : 0 < 2 = omega arith in let l : i ≤ suc i = omega arith in omega (arith, pow-le-pow_right {n = 2} z {i = i} {j = suc i} l)

  upper_chain : (i : ℕ) → 3 * 2 ^ i ≤ p.count → (chain_at p (p.count - 1) i ≡ upper p i) × T (chain_at p (p.count - 1) i (p.count - 1))
  unfolding chain_at upper
  upper_chain zero big = (refl, whole_in p x (omega arith))
  upper_chain (suc i) big =
      let S : Set = chain_at p x i in
      let r = upper_chain i (smaller i big) in
      let two : port_of p S x ≡ 2 = subst (λ (D : Set). port_of p D x ≡ 2) (sym r.0) (upper_wide p range valid i (smaller i big)).port in
      ((λ z. side_of p (r.0 z) (two z)), port_in p S (chain_plan p valid x i r.1) x (port_of p S x) r.1 (omega arith) refl)

  pub range_deep : (i : ℕ) → 3 * 2 ^ i ≤ p.count → Deep p (p.count - 1) i
  range_deep i big =
      let r = upper_chain i big in
      record { lies = r.1; three = subst (λ (S : Set). 3 ≤ size_of p S) (sym r.0) (upper_wide p range valid i big).three }
