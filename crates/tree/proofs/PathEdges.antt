-- The edges of a path numbered along itself.
use mathlib.Core.Path.{◌≡◌, refl, ap}
use mathlib.Core.Logic.{◌⊎◌, inl, inr, ◌↔◌}
use mathlib.Core.Bool.{Bool, true, false, ◌||◌}
use Prim.Native.Nat.{ℕ, zero, suc, ◌+◌, ◌≤◌, ◌<◌}
use native.Mathlib.Decide.{ℕ_discrete}
use native.Mathlib.Omega.{arith}
use lib.Dec.{T, eqb, eqb→eq}
use lib.ListN.{length}
use Rattle.base.specs.Sets.{bit}
use Rattle.base.proofs.Bools.{or_split}
use Rattle.tree.specs.Walk.{Walk, here, step}
use Rattle.tree.specs.Edges.{Edges, Adjacent, all, edges_at, Below}
use Rattle.tree.specs.Inner.{In, Acyclic}
use Rattle.tree.specs.Path.{path_edges}
use Rattle.tree.proofs.Edges.{flip, below_more}
use Rattle.tree.proofs.Labels.{joined_walk}

-- x and y are neighbouring numbers
abbrev pub Next : ℕ → ℕ → Type 0
Next x y = (y ≡ suc x) ⊎ (x ≡ suc y)

-- Edges numbered along a path: they join none but neighbouring numbers, and all such below n.
pub record Along (n : ℕ) (E : Edges) : Type 0 where
  pub near : (x y : ℕ) → Adjacent E x y → Next x y
  pub link : (x : ℕ) → suc x < n → Adjacent E x (suc x)

-- both are at most k, and they are neighbouring numbers
path_adjacent→ : (k x y : ℕ) → Adjacent (path_edges k) x y → Next x y × (x ≤ k) × (y ≤ k)
unfolding path_edges
path_adjacent→ zero x y h = absurd h
path_adjacent→ (suc k) x y (inl (inl (i, j))) = (inl (omega arith), omega arith, omega arith)
path_adjacent→ (suc k) x y (inl (inr (i, j))) = (inr (omega arith), omega arith, omega arith)
path_adjacent→ (suc k) x y (inr h) = let r = path_adjacent→ k x y h in (r.0, omega (arith, r.1), omega (arith, r.2))

path_link : (k x : ℕ) → x < k → Adjacent (path_edges k) x (suc x)
unfolding path_edges
path_link zero x l = absurd (omega arith)
path_link (suc k) x l = go (ℕ_discrete x k) (path_link k x)
  where
    go : Dec (x ≡ k) → (x < k → Adjacent (path_edges k) x (suc x)) → Adjacent (path_edges (suc k)) x (suc x)
    go (yes e) ih = inl (inl (e, ap suc e))
    go (no d) ih = inr (ih (omega arith))

path_adjacent← : (k x y : ℕ) → Next x y × (x ≤ k) × (y ≤ k) → Adjacent (path_edges k) x y
path_adjacent← k x y (inl e, l, m) = rw e (path_link k x (omega arith))
path_adjacent← k x y (inr e, l, m) = rw e (flip (path_edges k) y (suc y) (path_link k y (omega arith)))

-- the path 0 .. k joins neighbouring numbers that are at most k, and no others
pub path_adjacent : (k x y : ℕ) → Adjacent (path_edges k) x y ↔ (Next x y × (x ≤ k) × (y ≤ k))
path_adjacent k x y = (path_adjacent→ k x y, path_adjacent← k x y)

pub path_along : (k : ℕ) → Along (suc k) (path_edges k)
path_along k = record { near = λ x y h. (path_adjacent→ k x y h).0; link = λ x l. path_link k x (omega arith) }

-- every end is at most k
pub path_below : (k : ℕ) → Below (suc k) (path_edges k)
unfolding path_edges
path_below zero = tt
path_below (suc k) = (omega arith, omega arith, below_more (suc k) (suc (suc k)) (path_edges k) (omega arith) (path_below k))

-- it has k edges
pub path_length : (k : ℕ) → length (path_edges k) ≡ k
unfolding path_edges
path_length zero = refl
path_length (suc k) = ap suc (path_length k)

path_stays : (k : ℕ) {x y : ℕ} → Walk (Adjacent (path_edges k)) (In all) x y → x ≤ k → y ≤ k
path_stays k (here p) l = l
path_stays k (step {x = x} {y = y} p e w) l = path_stays k w (path_adjacent→ k x y e).2

-- it has no ring
pub path_acyclic : (k : ℕ) → Acyclic (path_edges k)
unfolding path_edges
path_acyclic zero = tt
path_acyclic (suc k) = (λ h. omega (arith, path_stays k (joined_walk all (path_edges k) k (suc k) tt tt h) (omega arith)), path_acyclic k)

-- an edge's ends count one each
end_bit : (c k : ℕ) → ((c ≡ k) ⊎ (c ≡ suc k) → ⊥) → bit (eqb c k || eqb c (suc k)) ≡ 0
end_bit c k d = go (eqb c k || eqb c (suc k)) (λ h. d (elim (or_split (eqb c k) (eqb c (suc k)) h) [ inl p ↦ inl (eqb→eq c k p) | inr p ↦ inr (eqb→eq c (suc k) p) ]))
  where
    go : (b : Bool) → (T b → ⊥) → bit b ≡ 0
    go true f = absurd (f tt)
    go false f = refl

bit_le : (b : Bool) → bit b ≤ 1
bit_le true = omega arith
bit_le false = omega arith

-- no edge ends above k, at most one at k and at most two at the others
path_ends : (k c : ℕ) → (edges_at (path_edges k) c ≤ 2) × (k ≤ c → edges_at (path_edges k) c ≤ 1) × (k < c → edges_at (path_edges k) c ≤ 0)
unfolding path_edges edges_at
path_ends zero c = (omega arith, λ _. omega arith, λ _. omega arith)
path_ends (suc k) c = go (path_ends k c) (ℕ_discrete c k) (ℕ_discrete c (suc k))
  where
    n : ℕ
    n = edges_at (path_edges k) c

    b : ℕ
    b = bit (eqb c k || eqb c (suc k))

    go : (n ≤ 2) × (k ≤ c → n ≤ 1) × (k < c → n ≤ 0) → Dec (c ≡ k) → Dec (c ≡ suc k) → (b + n ≤ 2) × (suc k ≤ c → b + n ≤ 1) × (suc k < c → b + n ≤ 0)
    go ih (yes i) j = (omega (arith, bit_le (eqb c k || eqb c (suc k)), ih.1 (omega arith)), λ l. absurd (omega arith), λ l. absurd (omega arith))
    go ih (no i) (yes j) = let h : n ≤ 0 = ih.2 (omega arith) in (omega (arith, bit_le (eqb c k || eqb c (suc k))), λ l. omega (arith, bit_le (eqb c k || eqb c (suc k))), λ l. absurd (omega arith))
    go ih (no i) (no j) =
        let z : b ≡ 0 = end_bit c k (elim [ inl e ↦ i e | inr e ↦ j e ]) in
        (omega (arith, ih.0), λ l. omega (arith, ih.1 (omega arith)), λ l. omega (arith, ih.2 (omega arith)))

-- each position has at most two edges
pub path_degree : (k c : ℕ) → edges_at (path_edges k) c ≤ 2
path_degree k c = (path_ends k c).0
