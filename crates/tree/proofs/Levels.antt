-- Levels: a component by the sides that lead to it. Each step at least halves it.
use mathlib.Core.Path.{◌≡◌, sym, ap, ◌∙◌}
use mathlib.Core.List.{List, [], ◌∷◌}
use Prim.Native.Nat.{ℕ, suc, ◌*◌, ◌^◌, ◌≤◌, ◌<◌, zero-le}
use native.Mathlib.Nat.{pow-suc, mul_assoc, mul_comm, mul-le-mul_right, pow-le-pow_right}
use native.Mathlib.Decide.{dec_lt}
use native.Mathlib.Omega.{arith}
use lib.ListN.{length}
use Rattle.base.specs.Sets.{Set, count}
use Rattle.tree.specs.Edges.{Edges}
use Rattle.tree.specs.Inner.{Acyclic}
use Rattle.tree.specs.Component.{degree, side}
use Rattle.tree.proofs.Components.{Component}
use Rattle.tree.proofs.Sides.{side_component, side_halves}

-- the component that the side numbers ks lead to from S, the latest first
unfoldable pub inner : Edges → ℕ → Set → List ℕ → Set
inner E n S [] = S
inner E n S (k ∷ ks) = side E n (inner E n S ks) k

-- each number names a side of a component of three positions or more
abbrev pub Entered : Edges → ℕ → Set → List ℕ → Type 0
Entered E n S [] = Unit {0}
Entered E n S (k ∷ ks) = (3 ≤ count n (inner E n S ks)) × (1 ≤ k) × (k ≤ degree E n (inner E n S ks)) × Entered E n S ks

-- three times 2 ^ l does not fit into 2 ^ (L + 1), unless l is below L
few : (s l L : ℕ) → 3 ≤ s → s * 2 ^ l ≤ 2 ^ suc L → l < L
few s l L three h = go (dec_lt l L)
  where
    go : Dec (l < L) → l < L
    go (yes k) = k
    go (no k) =
        let a : 3 * 2 ^ l ≤ s * 2 ^ l = mul-le-mul_right (2 ^ l) three in
        let i : L ≤ l = omega arith in
        let z : 0 < 2 = omega arith in
        let p : 2 ^ L ≤ 2 ^ l = pow-le-pow_right {n = 2} z {i = L} {j = l} i in
        let o : 2 ^ 0 ≤ 2 ^ L = pow-le-pow_right {n = 2} z {i = 0} {j = L} zero-le in
        absurd (omega (arith, pow-suc 2 L))

module _ (E : Edges) (ok : Acyclic E) (n : ℕ) (S : Set) (C : Component E n S) where
  -- it is a component
  pub inner_component : (ks : List ℕ) → Entered E n S ks → Component E n (inner E n S ks)
  unfolding inner
  inner_component [] t = C
  inner_component (k ∷ ks) t = side_component E ok n (inner E n S ks) (inner_component ks t.3) k t.1 t.2

  -- level l has at most one 2 ^ l-th of the positions
  pub inner_halves : (ks : List ℕ) → Entered E n S ks → count n (inner E n S ks) * 2 ^ length ks ≤ count n S
  unfolding inner
  inner_halves [] t = omega arith
  inner_halves (k ∷ ks) t =
      let D : Set = inner E n S ks in
      let s : ℕ = count n (side E n D k) in
      let h : s * 2 ≤ count n D = side_halves E ok n D (inner_component ks t.3) k t.1 t.2 in
      let b : s * 2 * 2 ^ length ks ≤ count n D * 2 ^ length ks = mul-le-mul_right (2 ^ length ks) h in
      let c : s * 2 ^ suc (length ks) ≡ s * 2 * 2 ^ length ks = ap (λ z. s * z) (pow-suc 2 (length ks) ∙ mul_comm (2 ^ length ks) 2) ∙ sym (mul_assoc s 2 (2 ^ length ks)) in
      omega (arith, inner_halves ks t.3)

  -- so three or more at level l are left only of 3 · 2 ^ l or more
  pub three_needs : (ks : List ℕ) → Entered E n S ks → 3 ≤ count n (inner E n S ks) → 3 * 2 ^ length ks ≤ count n S
  three_needs ks t three = omega (arith, mul-le-mul_right (2 ^ length ks) three, inner_halves ks t)

  -- of at most 2 ^ (L + 1) positions, a component of three or more is at a level below L
  pub three_level : (L : ℕ) (ks : List ℕ) → Entered E n S ks → count n S ≤ 2 ^ suc L → 3 ≤ count n (inner E n S ks) → length ks < L
  three_level L ks t top three = few (count n (inner E n S ks)) (length ks) L three (omega (arith, inner_halves ks t))

  -- and any component at level L at most
  pub last_level_lem : (L : ℕ) (ks : List ℕ) → Entered E n S ks → count n S ≤ 2 ^ suc L → length ks ≤ L
  last_level_lem L [] t top = omega arith
  last_level_lem L (k ∷ ks) t top = omega (arith, three_level L ks t.3 top t.0)
