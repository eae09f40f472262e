-- The components of a party's levels: how many positions each has at most.
use mathlib.Core.Path.{◌≡◌, sym, ap, ◌∙◌, subst}
use Prim.Native.Nat.{ℕ, zero, suc, ◌*◌, ◌^◌, ◌≤◌}
use native.Mathlib.Nat.{pow-suc, mul_assoc, mul_comm, mul-le-mul_right}
use native.Mathlib.Omega.{arith}
use lib.Dec.{T}
use Rattle.base.specs.Sets.{Set}
use Rattle.component.specs.Component.{size_of}
use Rattle.component_laws.proofs.Laws.{whole_size, side_half}
use Rattle.party.specs.Party.{Party, level_at, component_of, sending}
use Rattle.party_laws.proofs.Laws.{Formed, sending_before, sending_level, whole_component, next_component}

-- level i's component has at most one 2 ^ i-th of the positions
pub size_at_lem : (p : Party) → Formed p → (i : ℕ) → T (sending p i) → size_of p.plan (component_of p i) * 2 ^ i ≤ p.plan.count
size_at_lem p w zero h = omega (arith, ap (size_of p.plan) (whole_component p), whole_size p.plan)
size_at_lem p w (suc i) h =
    let S : Set = component_of p i in
    let k : ℕ = (level_at p (suc i)).side in
    let b = sending_before p w i h in
    let e = (sending_level p w (suc i) h).level.entry in
    let s : ℕ = size_of p.plan (component_of p (suc i)) in
    let half : s * 2 ≤ size_of p.plan S = subst (λ (D : Set). size_of p.plan D * 2 ≤ size_of p.plan S) (sym (next_component p i))
    (side_half p.plan S (sending_level p w i b).level.plan k e.1 e.2) in
    let c : s * 2 ^ suc i ≡ s * 2 * 2 ^ i = ap (λ (z : ℕ). s * z) (pow-suc 2 i ∙ mul_comm (2 ^ i) 2) ∙ sym (mul_assoc s 2 (2 ^ i)) in
    omega (arith, mul-le-mul_right (2 ^ i) half, size_at_lem p w i b)
