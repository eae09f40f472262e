-- Laws of walks along any relation of adjacency.
use mathlib.Core.Path.{◌≡◌, refl, subst}
use mathlib.Core.Logic.{◌⊎◌, inl, inr}
use Prim.Native.Nat.{ℕ}
use native.Mathlib.Decide.{ℕ_discrete}
use Rattle.tree.specs.Walk.{Walk, here, step, Not, OnPath}

module _ (Adj : ℕ → ℕ → Type 0) where
  -- a walk meets what its test implies
  pub mono : {P Q : ℕ → Type 0} {x y : ℕ} → ((z : ℕ) → P z → Q z) → Walk Adj P x y → Walk Adj Q x y
  mono f (here {x = x} p) = here (f x p)
  mono f (step {x = x} p e w) = step (f x p) e (mono f w)

  -- its first and its last position meet the test
  pub first : {P : ℕ → Type 0} {x y : ℕ} → Walk Adj P x y → P x
  first (here p) = p
  first (step p e w) = p

  pub last : {P : ℕ → Type 0} {x y : ℕ} → Walk Adj P x y → P y
  last (here p) = p
  last (step p e w) = last w

  -- one walk after another
  pub join : {P : ℕ → Type 0} {x y z : ℕ} → Walk Adj P x y → Walk Adj P y z → Walk Adj P x z
  join (here p) v = v
  join (step p e w) v = step p e (join w v)

  module _ (flip : (x y : ℕ) → Adj x y → Adj y x) where
    -- the walk back
    pub back : {P : ℕ → Type 0} {x y : ℕ} → Walk Adj P x y → Walk Adj P y x
    back (here p) = here p
    back (step {x = x} {y = y} p e w) = join (back w) (step (first w) (flip x y e) (here p))

  -- a walk passes z or avoids it
  pub cut : {P : ℕ → Type 0} {x y : ℕ} (z : ℕ) → Walk Adj P x y → (Walk Adj P x z × Walk Adj P z y) ⊎ Walk Adj (λ v. P v × Not z v) x y
  cut {P} z (here {x = x} p) = go (ℕ_discrete x z)
    where
      go : Dec (x ≡ z) → (Walk Adj P x z × Walk Adj P z x) ⊎ Walk Adj (λ v. P v × Not z v) x x
      go (yes e) = inl (subst (λ v. Walk Adj P x v × Walk Adj P v x) e (here p, here p))
      go (no d) = inr (here (p, d))
  cut {P} z (step {x = x} {y = u} {z = y} p e w) = go (ℕ_discrete x z) (cut z w)
    where
      go : Dec (x ≡ z) → (Walk Adj P u z × Walk Adj P z y) ⊎ Walk Adj (λ v. P v × Not z v) u y → (Walk Adj P x z × Walk Adj P z y) ⊎ Walk Adj (λ v. P v × Not z v) x y
      go (yes q) r = inl (subst (λ v. Walk Adj P x v × Walk Adj P v y) q (here p, step p e w))
      go (no d) (inl (a, b)) = inl (step p e a, b)
      go (no d) (inr a) = inr (step (p, d) e a)

  -- a walk to c from elsewhere comes by a neighbour of c, and avoids c up to there
  pub gate : {P : ℕ → Type 0} {x c : ℕ} → Walk Adj P x c → Not c x → (w : ℕ) × Adj w c × Walk Adj (λ v. P v × Not c v) x w
  gate (here p) d = absurd (d refl)
  gate {P} {c = c} (step {x = x} {y = u} p e w) d = go (ℕ_discrete u c) (gate w)
    where
      go : Dec (u ≡ c) → (Not c u → (w : ℕ) × Adj w c × Walk Adj (λ v. P v × Not c v) u w) → (w : ℕ) × Adj w c × Walk Adj (λ v. P v × Not c v) x w
      go (yes q) ih = (x, subst (Adj x) q e, here (p, d))
      go (no q) ih = let r = ih q in (r.0, r.1, step (p, d) e r.2)

  -- x is on the path from a to b: a walk from a to b that avoids z leads to x
  pub to_point : {a b x : ℕ} (z : ℕ) → OnPath Adj a b x → Walk Adj (Not z) a b → Walk Adj (Not z) a x
  to_point {a} {b} {x} z h w = go (cut x w)
    where
      go : (Walk Adj (Not z) a x × Walk Adj (Not z) x b) ⊎ Walk Adj (λ v. Not z v × Not x v) a b → Walk Adj (Not z) a x
      go (inl (p, q)) = p
      go (inr v) = absurd (h (mono (λ u r. r.1) v))
