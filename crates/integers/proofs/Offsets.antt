-- Integers by offsets: where each integer of an argument is low + x for one low, their order, sums and distances are those of the natural numbers x, which
-- omega reads.
use mathlib.Core.Path.{◌≡◌, refl, sym, ap, ◌∙◌, subst, subst₂}
use mathlib.Core.Logic.{◌↔◌}
use mathlib.Core.Bool.{Bool, true, false, cond}
use Prim.Native.Nat.{ℕ, zero, suc, ◌+◌, ◌-◌, ◌*◌, ◌≤◌}
use native.Mathlib.Nat.{mul-suc, mul-zero, mul-add, mul-one, mul-le-mul_left}
use native.Mathlib.Omega.{arith}
use borrow.Author.Tests.{ltb-true, ltb-false}
use lib.Dec.{T, ltb, leb→le, le→leb}
use lib.IntN.{ℤ, pos, negsuc, neg_ℤ, nat_abs, suc_ℤ, ◌+ℤ◌, ◌-ℤ◌, ◌*ℤ◌, +ℤ_comm, +ℤ_assoc, +ℤ_idr, +ℤ-suc_ℤ, +ℤ-neg_ℤ_cancel, neg_ℤ-+ℤ, *ℤ_comm, suc_ℤ-*ℤ}
use lib.Signed.{le_z, ◌≤ℤ◌}

-- ---- order and distance

-- they are in the order of their offsets
pub order : (low : ℤ) (x w : ℕ) → ((low +ℤ pos x) ≤ℤ (low +ℤ pos w)) ↔ (x ≤ w)
order (pos l) x w = (λ h. omega (arith, leb→le (l + x) (l + w) h.le), λ h. record { le = le→leb (l + x) (l + w) (omega arith) })
order (negsuc l) x w = let r = go (ltb x (suc l)) refl (ltb w (suc l)) refl in (λ h. r.0 h.le, λ h. record { le = r.1 h })
  where
    go : (b : Bool) → ltb x (suc l) ≡ b → (c : Bool) → ltb w (suc l) ≡ c
        → T (le_z (cond b (negsuc (suc l - suc x)) (pos (x - suc l))) (cond c (negsuc (suc l - suc w)) (pos (w - suc l)))) ↔ (x ≤ w)
    go true e true f =
        let i = ltb-true x (suc l) e in
        let j = ltb-true w (suc l) f in
        (λ h. omega (arith, leb→le (suc l - suc w) (suc l - suc x) h), λ h. le→leb (suc l - suc w) (suc l - suc x) (omega arith))
    go true e false f = let i = ltb-true x (suc l) e in let j = ltb-false w (suc l) f in (λ h. omega arith, λ h. tt)
    go false e true f = let i = ltb-false x (suc l) e in let j = ltb-true w (suc l) f in (λ h. absurd h, λ h. omega arith)
    go false e false f =
        let i = ltb-false x (suc l) e in
        let j = ltb-false w (suc l) f in
        (λ h. omega (arith, leb→le (x - suc l) (w - suc l) h), λ h. le→leb (x - suc l) (w - suc l) (omega arith))

-- two naturals at most d apart
abbrev pub Within : ℕ → ℕ → ℕ → Type 0
Within d x w = (x ≤ w + d) × (w ≤ x + d)

pub within : (d x w : ℕ) → (nat_abs (pos x -ℤ pos w) ≤ d) ↔ Within d x w
within d x zero = (λ h. (omega arith, omega arith), λ h. omega (arith, h.0))
within d x (suc w) = go (ltb x (suc w)) refl
  where
    go : (b : Bool) → ltb x (suc w) ≡ b → (nat_abs (cond b (negsuc (suc w - suc x)) (pos (x - suc w))) ≤ d) ↔ Within d x (suc w)
    go true e = let l = ltb-true x (suc w) e in (λ h. (omega arith, omega arith), λ h. omega (arith, h.1))
    go false e = let l = ltb-false x (suc w) e in (λ h. (omega arith, omega arith), λ h. omega (arith, h.0))

-- two integers differ as their offsets do
pub difference : (low : ℤ) (x w : ℕ) → (low +ℤ pos x) -ℤ (low +ℤ pos w) ≡ pos x -ℤ pos w
difference low x w =
    ap (λ (z : ℤ). (low +ℤ pos x) +ℤ z) (neg_ℤ-+ℤ low (pos w))
    ∙ sym (+ℤ_assoc (low +ℤ pos x) (neg_ℤ low) (neg_ℤ (pos w)))
    ∙ ap (λ (z : ℤ). z +ℤ neg_ℤ (pos w)) (ap (λ (z : ℤ). z -ℤ low) (+ℤ_comm low (pos x)) ∙ +ℤ-neg_ℤ_cancel (pos x) low)

-- at most d apart
pub distance : (low : ℤ) (d x w : ℕ) → (nat_abs ((low +ℤ pos x) -ℤ (low +ℤ pos w)) ≤ d) ↔ Within d x w
distance low d x w = subst (λ (z : ℤ). (nat_abs z ≤ d) ↔ Within d x w) (sym (difference low x w)) (within d x w)

-- ---- sums

pub raised : (low : ℤ) (x d : ℕ) → (low +ℤ pos x) +ℤ pos d ≡ low +ℤ pos (x + d)
raised low x d = +ℤ_assoc low (pos x) (pos d)

pub lowered : (low : ℤ) (x d : ℕ) → d ≤ x → (low +ℤ pos x) -ℤ pos d ≡ low +ℤ pos (x - d)
lowered low x d l =
    let e : x ≡ (x - d) + d = omega arith in
    ap (λ (n : ℕ). (low +ℤ pos n) -ℤ pos d) e
    ∙ ap (λ (z : ℤ). z -ℤ pos d) (sym (raised low (x - d) d))
    ∙ +ℤ-neg_ℤ_cancel (low +ℤ pos (x - d)) (pos d)

-- g times such an integer is one from g × low on
pub scaled : (g : ℕ) (low : ℤ) (x : ℕ) → pos g *ℤ (low +ℤ pos x) ≡ pos g *ℤ low +ℤ pos (g * x)
scaled g low zero =
    ap (λ (z : ℤ). pos g *ℤ z) (+ℤ_idr low) ∙ sym (+ℤ_idr (pos g *ℤ low)) ∙ ap (λ (n : ℕ). pos g *ℤ low +ℤ pos n) (sym (mul-zero g))
scaled g low (suc x) =
    let w = low +ℤ pos x in
    ap (λ (z : ℤ). pos g *ℤ z) (+ℤ-suc_ℤ low (pos x))
    ∙ *ℤ_comm (pos g) (suc_ℤ w)
    ∙ suc_ℤ-*ℤ w (pos g)
    ∙ ap (λ (z : ℤ). z +ℤ pos g) (*ℤ_comm w (pos g) ∙ scaled g low x)
    ∙ raised (pos g *ℤ low) (g * x) g
    ∙ ap (λ (n : ℕ). pos g *ℤ low +ℤ pos n) (sym (mul-suc g x))

-- ---- offsets

-- from -k on, each integer of magnitude at most k has one
pub offset : (k : ℕ) (z : ℤ) → nat_abs z ≤ k → (x : ℕ) × (z ≡ neg_ℤ (pos k) +ℤ pos x) × (k ≤ x + nat_abs z)
offset k z l = ((up z l).0, sym (+ℤ-neg_ℤ_cancel z (pos k)) ∙ ap (λ (y : ℤ). y -ℤ pos k) (up z l).1 ∙ +ℤ_comm (pos (up z l).0) (neg_ℤ (pos k)), (up z l).2)
  where
    above : (n : ℕ) → suc n ≤ k → (b : Bool) → ltb k (suc n) ≡ b → cond b (negsuc (suc n - suc k)) (pos (k - suc n)) ≡ pos (k - suc n)
    above n l true e = let o = ltb-true k (suc n) e in absurd (omega arith)
    above n l false e = refl

    up : (z : ℤ) → nat_abs z ≤ k → (x : ℕ) × (z +ℤ pos k ≡ pos x) × (k ≤ x + nat_abs z)
    up (pos n) l = (n + k, refl, omega arith)
    up (negsuc n) l = (k - suc n, above n l (ltb k (suc n)) refl, omega arith)

-- three integers from one low on
pub record From (a b c : ℤ) : Type 0 where
  pub low : ℤ
  pub first : ℕ
  pub second : ℕ
  pub third : ℕ
  pub first_is : a ≡ low +ℤ pos first
  pub second_is : b ≡ low +ℤ pos second
  pub third_is : c ≡ low +ℤ pos third

pub from : (a b c : ℤ) → From a b c
from a b c =
    let k = nat_abs a + nat_abs b + nat_abs c in
    let oa = offset k a (omega arith) in
    let ob = offset k b (omega arith) in
    let oc = offset k c (omega arith) in
    record {
      low = neg_ℤ (pos k);
      first = oa.0;
      second = ob.0;
      third = oc.0;
      first_is = oa.1;
      second_is = ob.1;
      third_is = oc.1;
    }

-- ---- on integers themselves

-- orders and distances of integers that have offsets
pub order_of : (low a b : ℤ) (x w : ℕ) → a ≡ low +ℤ pos x → b ≡ low +ℤ pos w → (a ≤ℤ b) ↔ (x ≤ w)
order_of low a b x w e f = subst₂ (λ (i j : ℤ). (i ≤ℤ j) ↔ (x ≤ w)) (sym e) (sym f) (order low x w)

pub distance_of : (low a b : ℤ) (d x w : ℕ) → a ≡ low +ℤ pos x → b ≡ low +ℤ pos w → (nat_abs (a -ℤ b) ≤ d) ↔ Within d x w
distance_of low a b d x w e f = subst₂ (λ (i j : ℤ). (nat_abs (i -ℤ j) ≤ d) ↔ Within d x w) (sym e) (sym f) (distance low d x w)

pub apart_sym : (a b : ℤ) (d : ℕ) → nat_abs (a -ℤ b) ≤ d → nat_abs (b -ℤ a) ≤ d
apart_sym a b d h =
    let o = from a b a in
    let n = (distance_of o.low a b d o.first o.second o.first_is o.second_is).0 h in
    (distance_of o.low b a d o.second o.first o.second_is o.first_is).1 (n.1, n.0)

pub apart_trans : (a b c : ℤ) (d e : ℕ) → nat_abs (a -ℤ b) ≤ d → nat_abs (b -ℤ c) ≤ e → nat_abs (a -ℤ c) ≤ d + e
apart_trans a b c d e h k =
    let o = from a b c in
    let m = (distance_of o.low a b d o.first o.second o.first_is o.second_is).0 h in
    let n = (distance_of o.low b c e o.second o.third o.second_is o.third_is).0 k in
    (distance_of o.low a c (d + e) o.first o.third o.first_is o.third_is).1 (omega (arith, m.0, n.0), omega (arith, m.1, n.1))

-- a lies at most h above b, which is at most c
pub reach_up : (a b c : ℤ) (h : ℕ) → nat_abs (a -ℤ b) ≤ h → b ≤ℤ c → a ≤ℤ (c +ℤ pos h)
reach_up a b c h m l =
    let o = from a b c in
    let n = (distance_of o.low a b h o.first o.second o.first_is o.second_is).0 m in
    let k = (order_of o.low b c o.second o.third o.second_is o.third_is).0 l in
    let e : c +ℤ pos h ≡ o.low +ℤ pos (o.third + h) = ap (λ (z : ℤ). z +ℤ pos h) o.third_is ∙ raised o.low o.third h in
    (order_of o.low a (c +ℤ pos h) o.first (o.third + h) o.first_is e).1 (omega (arith, n.0))

-- a is at most b, which lies at most h from c
pub reach_below : (a b c : ℤ) (h : ℕ) → a ≤ℤ b → nat_abs (c -ℤ b) ≤ h → a ≤ℤ (c +ℤ pos h)
reach_below a b c h l m =
    let o = from a b c in
    let n = (distance_of o.low c b h o.third o.second o.third_is o.second_is).0 m in
    let k = (order_of o.low a b o.first o.second o.first_is o.second_is).0 l in
    let e : c +ℤ pos h ≡ o.low +ℤ pos (o.third + h) = ap (λ (z : ℤ). z +ℤ pos h) o.third_is ∙ raised o.low o.third h in
    (order_of o.low a (c +ℤ pos h) o.first (o.third + h) o.first_is e).1 (omega (arith, n.1))

-- multiples of g: in the order of their factors, and at most g apart where those are at most 1 apart
module _ (g : ℕ) (a b : ℤ) where
  by_factors : (x w : ℕ) (low : ℤ) → a ≡ low +ℤ pos x → b ≡ low +ℤ pos w
      → (pos g *ℤ a ≡ pos g *ℤ low +ℤ pos (g * x)) × (pos g *ℤ b ≡ pos g *ℤ low +ℤ pos (g * w))
  by_factors x w low e f = (ap (λ (z : ℤ). pos g *ℤ z) e ∙ scaled g low x, ap (λ (z : ℤ). pos g *ℤ z) f ∙ scaled g low w)

  pub multiples_order : a ≤ℤ b → (pos g *ℤ a) ≤ℤ (pos g *ℤ b)
  multiples_order h =
      let o = from a b a in
      let l : o.first ≤ o.second = (order_of o.low a b o.first o.second o.first_is o.second_is).0 h in
      let m = by_factors o.first o.second o.low o.first_is o.second_is in
      (order_of (pos g *ℤ o.low) (pos g *ℤ a) (pos g *ℤ b) (g * o.first) (g * o.second) m.0 m.1).1 (mul-le-mul_left g l)

  pub multiples_apart : nat_abs (a -ℤ b) ≤ 1 → nat_abs (pos g *ℤ a -ℤ pos g *ℤ b) ≤ g
  multiples_apart h =
      let o = from a b a in
      let l = (distance_of o.low a b 1 o.first o.second o.first_is o.second_is).0 h in
      let m = by_factors o.first o.second o.low o.first_is o.second_is in
      (distance_of (pos g *ℤ o.low) (pos g *ℤ a) (pos g *ℤ b) g (g * o.first) (g * o.second) m.0 m.1).1
      (step o.first o.second l.0, step o.second o.first l.1)
    where
      step : (x w : ℕ) → x ≤ w + 1 → g * x ≤ g * w + g
      step x w l = subst (λ (n : ℕ). g * x ≤ n) (mul-add g w 1 ∙ ap (λ (n : ℕ). g * w + n) (mul-one g)) (mul-le-mul_left g l)
