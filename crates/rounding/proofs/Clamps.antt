-- The count answer is the count clamped to half a step around the answer's step, and no other number is.
use mathlib.Core.Path.{◌≡◌, sym, ap, ◌∙◌}
use mathlib.Core.Logic.{◌⊎◌, inl, inr}
use Prim.Native.Nat.{ℕ, ◌+◌, ◌-◌, ◌/◌, ◌≤◌, ◌<◌}
use native.Mathlib.Nat.{le_refl}
use native.Mathlib.Decide.{dec_le}
use native.Mathlib.Omega.{arith}
use lib.Dec.{T}
use lib.IntN.{ℤ, pos, nat_abs, ◌+ℤ◌, ◌-ℤ◌, ◌*ℤ◌}
use lib.Signed.{◌≤ℤ◌}
use Rattle.rounding.specs.Rounding.{size_passes, nearest_step, count_answer}
use Rattle.rounding.specs.Statement.{ClampedTo, Clamps}
use Rattle.integers.proofs.Offsets.{Within, order_of, distance_of}
use Rattle.rounding.proofs.Answers.{step_near, Placed, Placing, placing, answer_near}

-- ---- natural numbers

-- w lies between x and z, whichever is the lesser
abbrev Amid : ℕ → ℕ → ℕ → Type 0
Amid x z w = ((x ≤ w) × (w ≤ z)) ⊎ ((z ≤ w) × (w ≤ x))

-- just h apart
abbrev Exactly : ℕ → ℕ → ℕ → Type 0
Exactly h x w = (w + h ≡ x) ⊎ (x + h ≡ w)

module _ {s c h a : ℕ} (p : Placed s c h a) where
  at_least : s ≤ c → s ≤ a
  at_least l = go p.low
    where
      go : (s + h ≤ a) ⊎ (c ≤ a) → s ≤ a
      go (inl m) = omega arith
      go (inr m) = omega arith

  at_most : c ≤ s → a ≤ s
  at_most l = go p.high
    where
      go : (a + h ≤ s) ⊎ (a ≤ c) → a ≤ s
      go (inl m) = omega arith
      go (inr m) = omega arith

  below_own : s ≤ c → a ≤ c
  below_own l = go p.high
    where
      go : (a + h ≤ s) ⊎ (a ≤ c) → a ≤ c
      go (inl m) = omega arith
      go (inr m) = m

  above_own : c ≤ s → c ≤ a
  above_own l = go p.low
    where
      go : (s + h ≤ a) ⊎ (c ≤ a) → c ≤ a
      go (inl m) = omega arith
      go (inr m) = m

  amid : Amid s c a
  amid = go (dec_le s c)
    where
      go : Dec (s ≤ c) → Amid s c a
      go (yes l) = inl (at_least l, below_own l)
      go (no l) = inr (above_own (omega arith), at_most (omega arith))

  inside : Within h c s → a ≡ c
  inside (u, w) = go p.low p.high
    where
      go : (s + h ≤ a) ⊎ (c ≤ a) → (a + h ≤ s) ⊎ (a ≤ c) → a ≡ c
      go (inl m) (inl n) = omega arith
      go (inl m) (inr n) = omega arith
      go (inr m) (inl n) = omega arith
      go (inr m) (inr n) = omega arith

  outside : (Within h c s → ⊥) → Exactly h a s
  outside f = go p.low p.high
    where
      n : Within h a s
      n = p.near

      go : (s + h ≤ a) ⊎ (c ≤ a) → (a + h ≤ s) ⊎ (a ≤ c) → Exactly h a s
      go (inl m) r = inl (omega (arith, n.0))
      go (inr m) (inl r) = inr (omega (arith, n.1))
      go (inr m) (inr r) = absurd (f (omega (arith, n.0), omega (arith, n.1)))

-- two numbers on c's side of s, as far from it
same : (s c h x a : ℕ) → (Within h c s → ⊥) → Amid s c x → Amid s c a → Exactly h x s → Exactly h a s → x ≡ a
same s c h x a f = go
  where
    up : (w : ℕ) → s ≤ w → Exactly h w s → s + h ≡ w
    up w m (inl k) = k
    up w m (inr k) = omega arith

    down : (w : ℕ) → w ≤ s → Exactly h w s → w + h ≡ s
    down w m (inl k) = omega arith
    down w m (inr k) = k

    go : Amid s c x → Amid s c a → Exactly h x s → Exactly h a s → x ≡ a
    go (inl i) (inl j) k l = omega (arith, up x i.0 k, up a j.0 l)
    go (inr i) (inr j) k l = omega (arith, down x i.1 k, down a j.1 l)
    go (inl i) (inr j) k l = absurd (f (omega (arith, i.0, i.1, j.0, j.1), omega (arith, i.0, i.1, j.0, j.1)))
    go (inr i) (inl j) k l = absurd (f (omega (arith, i.0, i.1, j.0, j.1), omega (arith, i.0, i.1, j.0, j.1)))

-- ---- integers by their offsets

module _ (low a b : ℤ) (x w : ℕ) (e : a ≡ low +ℤ pos x) (f : b ≡ low +ℤ pos w) where
  exactly : (h : ℕ) → nat_abs (a -ℤ b) ≡ h → Exactly h x w
  exactly h k = go (dec_le w x)
    where
      n : Within h x w
      n = (distance_of low a b h x w e f).0 (omega arith)

      far : (d : ℕ) → Within d x w → h ≤ d
      far d i = let m : nat_abs (a -ℤ b) ≤ d = (distance_of low a b d x w e f).1 i in omega arith

      go : Dec (w ≤ x) → Exactly h x w
      go (yes l) = inl (omega (arith, n.0, far (x - w) (omega arith, omega arith)))
      go (no l) = inr (omega (arith, n.1, far (w - x) (omega arith, omega arith)))

  of_exactly : (h : ℕ) → nat_abs (a -ℤ b) ≤ h → Exactly h x w → nat_abs (a -ℤ b) ≡ h
  of_exactly h l k = go k
    where
      n : Within (nat_abs (a -ℤ b)) x w
      n = (distance_of low a b (nat_abs (a -ℤ b)) x w e f).0 (le_refl (nat_abs (a -ℤ b)))

      go : Exactly h x w → nat_abs (a -ℤ b) ≡ h
      go (inl m) = omega (arith, n.0)
      go (inr m) = omega (arith, n.1)

-- ---- the count answer

module _ (g : ℕ) (c y : ℤ) where
  abbrev step : ℤ
  step = pos g *ℤ y

  module _ (p : ℤ) (o : Placing g c y p) where
    -- where the count is further away
    away : g / 2 < nat_abs (c -ℤ step) → Within (g / 2) o.own o.step → ⊥
    away l w =
        let m : nat_abs (c -ℤ step) ≤ g / 2 = (distance_of o.low c step (g / 2) o.own o.step o.own_is o.step_is).1 w in
        omega arith

    -- a number between step and count
    between_of : (a : ℤ) (x : ℕ) → a ≡ o.low +ℤ pos x → Amid o.step o.own x → ((step ≤ℤ a) × (a ≤ℤ c)) ⊎ ((c ≤ℤ a) × (a ≤ℤ step))
    between_of a x e (inl i) =
        inl ((order_of o.low step a o.step x o.step_is e).1 i.0, (order_of o.low a c x o.own e o.own_is).1 i.1)
    between_of a x e (inr i) =
        inr ((order_of o.low c a o.own x o.own_is e).1 i.0, (order_of o.low a step x o.step e o.step_is).1 i.1)

    amid_of : (a : ℤ) (x : ℕ) → a ≡ o.low +ℤ pos x → ((step ≤ℤ a) × (a ≤ℤ c)) ⊎ ((c ≤ℤ a) × (a ≤ℤ step)) → Amid o.step o.own x
    amid_of a x e (inl i) =
        inl ((order_of o.low step a o.step x o.step_is e).0 i.0, (order_of o.low a c x o.own e o.own_is).0 i.1)
    amid_of a x e (inr i) =
        inr ((order_of o.low c a o.own x o.own_is e).0 i.0, (order_of o.low a step x o.step e o.step_is).0 i.1)

  clamped_to : ClampedTo g c y (count_answer g c y)
  clamped_to =
      let o = placing g c y c in
      record {
        near = answer_near g c y;
        between = between_of c o (count_answer g c y) o.answer o.answer_is (amid o.placed);
        own = λ l.
            let w = (distance_of o.low c step (g / 2) o.own o.step o.own_is o.step_is).0 l in
            o.answer_is ∙ ap (λ (n : ℕ). o.low +ℤ pos n) (inside o.placed w) ∙ sym o.own_is;
        half = λ l.
            of_exactly o.low (count_answer g c y) step o.answer o.step o.answer_is o.step_is (g / 2) (answer_near g c y)
            (outside o.placed (away c o l));
      }

  only_clamped : (a : ℤ) → ClampedTo g c y a → a ≡ count_answer g c y
  only_clamped a k = go (dec_le (nat_abs (c -ℤ step)) (g / 2))
    where
      o : Placing g c y a
      o = placing g c y a

      go : Dec (nat_abs (c -ℤ step) ≤ g / 2) → a ≡ count_answer g c y
      go (yes l) = k.own l ∙ sym (clamped_to.own l)
      go (no l) =
          let m : g / 2 < nat_abs (c -ℤ step) = omega arith in
          let f = away a o m in
          let e = same o.step o.own (g / 2) o.other o.answer f (amid_of a o a o.other o.other_is k.between) (amid o.placed)
          (exactly o.low a step o.other o.step o.other_is o.step_is (g / 2) (k.half m)) (outside o.placed f) in
          o.other_is ∙ ap (λ (n : ℕ). o.low +ℤ pos n) e ∙ sym o.answer_is

pub clamps : Clamps
clamps g c y ok = record { clamped = clamped_to g c y; only = only_clamped g c y }

-- at its own step the count answer is the count itself
pub own_step : (g : ℕ) → T (size_passes g) → (c : ℤ) → count_answer g c (nearest_step g c) ≡ c
own_step g ok c = (clamps g c (nearest_step g c) ok).clamped.own (step_near g ok c)
