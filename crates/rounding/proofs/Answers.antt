-- The count answer lies at most half a step from g × y, and no further out than the own count or a count whose step lies no further out than y.
use mathlib.Core.Path.{◌≡◌, ap, ap₂, ◌∙◌}
use mathlib.Core.Logic.{◌⊎◌, inl, inr}
use mathlib.Core.Bool.{true, false}
use Prim.Native.Nat.{ℕ, ◌+◌, ◌-◌, ◌*◌, ◌/◌, min, max, ◌≤◌}
use native.Mathlib.Decide.{dec_le}
use native.Mathlib.Omega.{arith}
use lib.Dec.{T}
use lib.IntN.{ℤ, pos, neg_ℤ, nat_abs, ◌+ℤ◌, ◌-ℤ◌, ◌*ℤ◌}
use lib.Signed.{le_z, ◌≤ℤ◌}
use Rattle.base.specs.Pick.{pick}
use Rattle.base.proofs.Bools.{T→true, not-T→false}
use Rattle.rounding.specs.Rounding.{size_passes, nearest_step, remainder, lesser, greater, count_answer}
use Rattle.rounding.proofs.Steps.{even}
use Rattle.rounding.proofs.Theorem.{rounds}
use Rattle.integers.proofs.Offsets.{order, Within, raised, lowered, offset, order_of, distance_of, apart_sym, apart_trans, reach_up, reach_below, multiples_order, multiples_apart}

-- "at most g/2 either way"
pub step_near : (g : ℕ) → T (size_passes g) → (c : ℤ) → nat_abs (c -ℤ pos g *ℤ nearest_step g c) ≤ g / 2
unfolding remainder
step_near g ok c = (rounds g c ok).goes.half

-- ---- the count answer by offsets

-- what the test of order finds
at_most : (low : ℤ) (x w : ℕ) → x ≤ w → le_z (low +ℤ pos x) (low +ℤ pos w) ≡ true
at_most low x w l = T→true (le_z (low +ℤ pos x) (low +ℤ pos w)) ((order low x w).1 l).le

above : (low : ℤ) (x w : ℕ) → (x ≤ w → ⊥) → le_z (low +ℤ pos x) (low +ℤ pos w) ≡ false
above low x w l = not-T→false (le_z (low +ℤ pos x) (low +ℤ pos w)) (λ t. l ((order low x w).0 (record { le = t })))

lesser_at : (low : ℤ) (x w : ℕ) → lesser (low +ℤ pos x) (low +ℤ pos w) ≡ low +ℤ pos (min x w)
lesser_at low x w = go (dec_le x w)
  where
    go : Dec (x ≤ w) → lesser (low +ℤ pos x) (low +ℤ pos w) ≡ low +ℤ pos (min x w)
    go (yes l) = let e : x ≡ min x w = omega arith in rw (at_most low x w l) (ap (λ (n : ℕ). low +ℤ pos n) e)
    go (no l) =
        let e : w ≡ min x w = omega arith in
        rw (above low x w l) (ap (λ (n : ℕ). low +ℤ pos n) e)

greater_at : (low : ℤ) (x w : ℕ) → greater (low +ℤ pos x) (low +ℤ pos w) ≡ low +ℤ pos (max x w)
greater_at low x w = go (dec_le x w)
  where
    go : Dec (x ≤ w) → greater (low +ℤ pos x) (low +ℤ pos w) ≡ low +ℤ pos (max x w)
    go (yes l) = let e : w ≡ max x w = omega arith in rw (at_most low x w l) (ap (λ (n : ℕ). low +ℤ pos n) e)
    go (no l) =
        let e : x ≡ max x w = omega arith in
        rw (above low x w l) (ap (λ (n : ℕ). low +ℤ pos n) e)

-- where a lies for a step at s, an own count at c and half a step h
pub record Placed (s c h a : ℕ) : Type 0 where
  pub near : Within h a s
  pub low : (s + h ≤ a) ⊎ (c ≤ a)
  pub high : (a + h ≤ s) ⊎ (a ≤ c)

abbrev answer_by : ℕ → ℤ → ℤ → ℤ
answer_by h c s = pick (le_z s c) (lesser (s +ℤ pos h) c) (greater (s -ℤ pos h) c)

answer_at : (low : ℤ) (s c h : ℕ) → h ≤ s → (a : ℕ) × (answer_by h (low +ℤ pos c) (low +ℤ pos s) ≡ low +ℤ pos a) × Placed s c h a
answer_at low s c h fits = go (dec_le s c)
  where
    first : s ≤ c → Dec (s + h ≤ c) → Placed s c h (min (s + h) c)
    first l (yes m) = record { near = (omega arith, omega arith); low = inl (omega arith); high = inr (omega arith) }
    first l (no m) = record { near = (omega arith, omega arith); low = inr (omega arith); high = inr (omega arith) }

    second : (s ≤ c → ⊥) → Dec (s ≤ c + h) → Placed s c h (max (s - h) c)
    second l (yes m) = record { near = (omega arith, omega arith); low = inr (omega arith); high = inr (omega arith) }
    second l (no m) = record { near = (omega arith, omega arith); low = inr (omega arith); high = inl (omega arith) }

    go : Dec (s ≤ c) → (a : ℕ) × (answer_by h (low +ℤ pos c) (low +ℤ pos s) ≡ low +ℤ pos a) × Placed s c h a
    go (yes l) = (
      min (s + h) c,
      rw (at_most low s c l)
          (ap (λ (z : ℤ). lesser z (low +ℤ pos c)) (raised low s h) ∙ lesser_at low (s + h) c),
      first l (dec_le (s + h) c),
    )
    go (no l) = (
      max (s - h) c,
      rw (above low s c l)
          (ap (λ (z : ℤ). greater z (low +ℤ pos c)) (lowered low s h fits) ∙ greater_at low (s - h) c),
      second l (dec_le s (c + h)),
    )

-- ---- what the count answer promises

-- a count answer, its step, its own count and another count p, from one low on
pub record Placing (g : ℕ) (c y p : ℤ) : Type 0 where
  pub low : ℤ
  pub answer : ℕ
  pub step : ℕ
  pub own : ℕ
  pub other : ℕ
  pub answer_is : count_answer g c y ≡ low +ℤ pos answer
  pub step_is : pos g *ℤ y ≡ low +ℤ pos step
  pub own_is : c ≡ low +ℤ pos own
  pub other_is : p ≡ low +ℤ pos other
  pub placed : Placed step own (g / 2) answer

pub placing : (g : ℕ) (c y p : ℤ) → Placing g c y p
unfolding count_answer
placing g c y p =
    let s = pos g *ℤ y in
    let k = nat_abs s + nat_abs c + nat_abs p + g / 2 in
    let low = neg_ℤ (pos k) in
    let os = offset k s (omega arith) in
    let oc = offset k c (omega arith) in
    let op = offset k p (omega arith) in
    let fits : g / 2 ≤ os.0 = omega (arith, os.2) in
    let a = answer_at low os.0 oc.0 (g / 2) fits in
    record {
      low = low;
      answer = a.0;
      step = os.0;
      own = oc.0;
      other = op.0;
      answer_is = ap₂ (answer_by (g / 2)) oc.1 os.1 ∙ a.1;
      step_is = os.1;
      own_is = oc.1;
      other_is = op.1;
      placed = a.2;
    }

-- It is at most half a step from its step.
pub answer_near : (g : ℕ) (c y : ℤ) → nat_abs (count_answer g c y -ℤ pos g *ℤ y) ≤ g / 2
answer_near g c y =
    let o = placing g c y c in
    (distance_of o.low (count_answer g c y) (pos g *ℤ y) (g / 2) o.answer o.step o.answer_is o.step_is).1 o.placed.near

module _ (g : ℕ) (ok : T (size_passes g)) where
  -- "at most 2g apart": half a step, one step and half a step
  pub answers_near : (c d y z : ℤ) → nat_abs (y -ℤ z) ≤ 1 → nat_abs (count_answer g c y -ℤ count_answer g d z) ≤ 2 * g
  answers_near c d y z h =
      let a = count_answer g c y in
      let b = count_answer g d z in
      let s = pos g *ℤ y in
      let r = pos g *ℤ z in
      let half = apart_sym b r (g / 2) (answer_near g d z) in
      let all : nat_abs (a -ℤ b) ≤ g / 2 + g + g / 2 =
      apart_trans a r b (g / 2 + g) (g / 2) (apart_trans a s r (g / 2) g (answer_near g c y) (multiples_apart g y z h)) half in
      omega (arith, even g ok)

  -- Not below a count whose step is at most y, or not below the own count; not above one, or the own, from the other side.
  pub answer_low : (c y p : ℤ) → nearest_step g p ≤ℤ y → (p ≤ℤ count_answer g c y) ⊎ (c ≤ℤ count_answer g c y)
  answer_low c y p h = go o.placed.low
    where
      o : Placing g c y p
      o = placing g c y p

      reached : o.other ≤ o.step + g / 2
      reached =
          (order_of o.low p (pos g *ℤ y +ℤ pos (g / 2)) o.other (o.step + g / 2) o.other_is
          (ap (λ (z : ℤ). z +ℤ pos (g / 2)) o.step_is ∙ raised o.low o.step (g / 2))).0
          (reach_up p (pos g *ℤ nearest_step g p) (pos g *ℤ y) (g / 2) (step_near g ok p) (multiples_order g (nearest_step g p) y h))

      go : (o.step + g / 2 ≤ o.answer) ⊎ (o.own ≤ o.answer) → (p ≤ℤ count_answer g c y) ⊎ (c ≤ℤ count_answer g c y)
      go (inl l) = let r = reached in inl ((order_of o.low p (count_answer g c y) o.other o.answer o.other_is o.answer_is).1 (omega arith))
      go (inr l) = inr ((order_of o.low c (count_answer g c y) o.own o.answer o.own_is o.answer_is).1 l)

  pub answer_high : (c y q : ℤ) → y ≤ℤ nearest_step g q → (count_answer g c y ≤ℤ q) ⊎ (count_answer g c y ≤ℤ c)
  answer_high c y q h = go o.placed.high
    where
      o : Placing g c y q
      o = placing g c y q

      reached : o.step ≤ o.other + g / 2
      reached =
          (order_of o.low (pos g *ℤ y) (q +ℤ pos (g / 2)) o.step (o.other + g / 2) o.step_is
          (ap (λ (z : ℤ). z +ℤ pos (g / 2)) o.other_is ∙ raised o.low o.other (g / 2))).0
          (reach_below (pos g *ℤ y) (pos g *ℤ nearest_step g q) q (g / 2) (multiples_order g y (nearest_step g q) h) (step_near g ok q))

      go : (o.answer + g / 2 ≤ o.step) ⊎ (o.answer ≤ o.own) → (count_answer g c y ≤ℤ q) ⊎ (count_answer g c y ≤ℤ c)
      go (inl l) = let r = reached in inl ((order_of o.low (count_answer g c y) q o.answer o.other o.answer_is o.other_is).1 (omega arith))
      go (inr l) = inr ((order_of o.low (count_answer g c y) c o.answer o.own o.answer_is o.own_is).1 l)
