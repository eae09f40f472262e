-- Walks along a path numbered along itself, and which positions lie between two others.
use mathlib.Core.Path.{◌≡◌, subst}
use mathlib.Core.Logic.{inl, inr, ◌↔◌}
use Prim.Native.Nat.{ℕ, zero, suc, ◌+◌, ◌-◌, min, max, ◌≤◌, ◌<◌}
use native.Mathlib.Decide.{ℕ_discrete, dec_le, dec_lt}
use native.Mathlib.Omega.{arith}
use Rattle.tree.specs.Walk.{Walk, here, step, Not, OnPath}
use Rattle.tree.specs.Edges.{Edges, Adjacent}
use Rattle.tree.proofs.Walks.{first, back}
use Rattle.tree.proofs.Edges.{flip}
use Rattle.tree.proofs.PathEdges.{Next, Along}

module _ (n : ℕ) (E : Edges) (path : Along n E) where
  -- upwards by k
  climb : {P : ℕ → Type 0} (x k : ℕ) → x + k < n → ((z : ℕ) → x ≤ z → z ≤ x + k → P z) → Walk (Adjacent E) P x (x + k)
  climb {P} x zero l h = subst (Walk (Adjacent E) P x) e (here (h x (omega arith) (omega arith)))
    where
      e : x ≡ x + 0
      e = omega arith
  climb {P} x (suc k) l h = subst (Walk (Adjacent E) P x) e (step (h x (omega arith) (omega arith)) (path.link x (omega arith)) (climb (suc x) k (omega arith) (λ z p q. h z (omega arith) (omega arith))))
    where
      e : suc x + k ≡ x + suc k
      e = omega arith

  upward : {P : ℕ → Type 0} (x y : ℕ) → x ≤ y → y < n → ((z : ℕ) → x ≤ z → z ≤ y → P z) → Walk (Adjacent E) P x y
  upward {P} x y l m h = subst (Walk (Adjacent E) P x) e (climb x (y - x) (omega arith) (λ z p q. h z p (omega arith)))
    where
      e : x + (y - x) ≡ y
      e = omega arith

  -- a walk from x to y through what lies between them
  pub straight : {P : ℕ → Type 0} (x y : ℕ) → x < n → y < n → ((z : ℕ) → min x y ≤ z → z ≤ max x y → P z) → Walk (Adjacent E) P x y
  straight {P} x y l m h = go (dec_le x y)
    where
      go : Dec (x ≤ y) → Walk (Adjacent E) P x y
      go (yes k) = upward x y k m (λ z p q. h z (omega arith) (omega arith))
      go (no k) = back (Adjacent E) (flip E) (upward y x (omega arith) l (λ z p q. h z (omega arith) (omega arith)))

  -- a walk that avoids c stays below it, or above it
  pub stays_below : (c : ℕ) {x y : ℕ} → Walk (Adjacent E) (Not c) x y → x < c → y < c
  stays_below c (here p) l = l
  stays_below c (step {x = x} {y = z} p e w) l = stays_below c w (go (path.near x z e) (first (Adjacent E) w))
    where
      go : Next x z → Not c z → z < c
      go (inl i) d = omega arith
      go (inr i) d = omega arith

  pub stays_above : (c : ℕ) {x y : ℕ} → Walk (Adjacent E) (Not c) x y → c < x → c < y
  stays_above c (here p) l = l
  stays_above c (step {x = x} {y = z} p e w) l = stays_above c w (go (path.near x z e) (first (Adjacent E) w))
    where
      go : Next x z → Not c z → c < z
      go (inl i) d = omega arith
      go (inr i) d = omega arith

  -- the path between a and b has the positions from the smaller to the larger of them
  pub between : (a b y : ℕ) → a < n → b < n → OnPath (Adjacent E) a b y ↔ ((min a b ≤ y) × (y ≤ max a b))
  between a b y l m = (λ h. inside h (dec_le (min a b) y) (dec_le y (max a b)), λ r w. blocked r w (ℕ_discrete a y) (dec_lt a y))
    where
      inside : OnPath (Adjacent E) a b y → Dec (min a b ≤ y) → Dec (y ≤ max a b) → (min a b ≤ y) × (y ≤ max a b)
      inside h (yes p) (yes q) = (p, q)
      inside h (yes p) (no q) = absurd (h (straight a b l m (λ z i j e. omega arith)))
      inside h (no p) q = absurd (h (straight a b l m (λ z i j e. omega arith)))

      blocked : (min a b ≤ y) × (y ≤ max a b) → Walk (Adjacent E) (Not y) a b → Dec (a ≡ y) → Dec (a < y) → ⊥
      blocked r w (yes e) k = first (Adjacent E) w e
      blocked r w (no e) (yes k) = omega (arith, stays_below y w k)
      blocked r w (no e) (no k) = omega (arith, stays_above y w (omega arith))
