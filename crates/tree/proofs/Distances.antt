-- Distances 0 and 1.
use mathlib.Core.Path.{◌≡◌, refl, subst}
use mathlib.Core.Logic.{◌⊎◌, inl, inr}
use Prim.Native.Nat.{ℕ, ◌≤◌}
use native.Mathlib.Omega.{arith}
use Rattle.tree.specs.Walk.{Walk, here, step, edges_in, Distance}
use Rattle.tree.specs.Inner.{Acyclic}
use Rattle.tree.specs.Edges.{Edges, Adjacent}
use Rattle.tree.proofs.Acyclic.{irreflexive}

module _ (Adj : ℕ → ℕ → Type 0) where
  -- there is one distance only
  pub distance_one : (a b j k : ℕ) → Distance Adj a b j → Distance Adj a b k → j ≡ k
  distance_one a b j k p q = omega (arith, p.least q.walk, q.least p.walk, p.long, q.long)

  -- a walk of no edge goes nowhere, one of one edge to a neighbour
  short : {P : ℕ → Type 0} {a b : ℕ} (w : Walk Adj P a b) → edges_in w ≤ 1 → (a ≡ b) ⊎ Adj a b
  unfolding edges_in
  short (here p) l = inl refl
  short (step p e (here q)) l = inr e
  short (step p e (step q f w)) l = absurd (omega arith)

  shorter : {P : ℕ → Type 0} {a b : ℕ} (w : Walk Adj P a b) → edges_in w ≡ 0 → a ≡ b
  unfolding edges_in
  shorter (here p) l = refl
  shorter (step p e w) l = absurd (omega arith)

  -- distance 0: the same position
  pub distance_zero→ : (a b : ℕ) → Distance Adj a b 0 → a ≡ b
  distance_zero→ a b d = shorter d.walk d.long

  pub distance_zero← : (a b : ℕ) → a ≡ b → Distance Adj a b 0
  unfolding edges_in
  distance_zero← a b e = subst (λ z. Distance Adj a z 0) e (record { walk = here tt; long = refl; least = λ w. omega arith })

  -- at most 1 apart: the same or adjacent
  pub distance_near→ : (a b k : ℕ) → k ≤ 1 → Distance Adj a b k → (a ≡ b) ⊎ Adj a b
  distance_near→ a b k l d = short d.walk (omega (arith, d.long))

-- and neighbours are 1 apart
pub distance_adjacent : (E : Edges) → Acyclic E → (a b : ℕ) → Adjacent E a b → Distance (Adjacent E) a b 1
unfolding edges_in
distance_adjacent E ok a b h = record { walk = step tt h (here tt); long = refl; least = λ w. far h w }
  where
    far : {x y : ℕ} → Adjacent E x y → (w : Walk (Adjacent E) (λ _. Unit {0}) x y) → 1 ≤ edges_in w
    far {x} h (here p) = absurd (irreflexive E ok x h)
    far h (step p e w) = omega arith

pub distance_near← : (E : Edges) → Acyclic E → (a b : ℕ) → (a ≡ b) ⊎ Adjacent E a b → (k : ℕ) × (k ≤ 1) × Distance (Adjacent E) a b k
distance_near← E ok a b (inl e) = (0, omega arith, distance_zero← (Adjacent E) a b e)
distance_near← E ok a b (inr h) = (1, omega arith, distance_adjacent E ok a b h)
