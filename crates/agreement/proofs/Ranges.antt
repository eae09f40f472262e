-- On a range, at most one edge apart is readings at most 1 apart, and on the path between two positions is between their readings.
use mathlib.Core.Path.{◌≡◌, sym, ◌∙◌}
use mathlib.Core.Logic.{◌⊎◌, inl, inr, ◌↔◌}
use Prim.Native.Nat.{ℕ, suc, ◌+◌, min, max, ◌≤◌, ◌<◌}
use native.Mathlib.Decide.{ℕ_discrete, dec_le}
use native.Mathlib.Omega.{arith}
use lib.IntN.{ℤ, pos, ◌+ℤ◌}
use lib.Signed.{◌≤ℤ◌}
use Rattle.base.specs.Sets.{Set}
use Rattle.integers.proofs.Offsets.{Within, order_of, distance_of}
use Rattle.signed.specs.Signed.{from_offset}
use Rattle.tree.specs.Walk.{OnPath}
use Rattle.tree.specs.Edges.{Adjacent}
use Rattle.plan.specs.Plan.{Plan}
use Rattle.plan.specs.Positions.{edges_of}
use Rattle.plan_laws.proofs.Readings.{reading_sum}
use Rattle.component_laws.proofs.Ranges.{range_adjacent, range_between}
use Rattle.agreement.specs.History.{Instance, History}
use Rattle.agreement.specs.Demand.{Near, Stands, Holds, Premises}
use Rattle.agreement.specs.Ranges.{apart, Between, Input, HoldsOnRange}
use Rattle.agreement.proofs.Theorem.{demand3}

-- ---- positions and readings of a range

module _ (p : Plan) (k : p.kind ≡ 2) where
  -- a reading is low + its position
  stands_sum : (x : ℕ) (z : ℤ) → Stands p x z → z ≡ from_offset p.low +ℤ pos x
  stands_sum x z s = sym s.1 ∙ reading_sum p k x

  -- one edge apart at most
  near_close : (x w : ℕ) → x < p.count → w < p.count → Near p x w ↔ Within 1 x w
  near_close x w l m = (to, λ h. back h.0 h.1 (ℕ_discrete x w))
    where
      next : (w ≡ suc x) ⊎ (x ≡ suc w) → Within 1 x w
      next (inl e) = (omega arith, omega arith)
      next (inr e) = (omega arith, omega arith)

      to : Near p x w → Within 1 x w
      to (inl e) = (omega arith, omega arith)
      to (inr h) = next ((range_adjacent p k x w l m).0 h)

      beside : x ≤ w + 1 → w ≤ x + 1 → (x ≡ w → ⊥) → Dec (x ≤ w) → (w ≡ suc x) ⊎ (x ≡ suc w)
      beside a b d (yes i) = inl (omega arith)
      beside a b d (no i) = inr (omega arith)

      back : x ≤ w + 1 → w ≤ x + 1 → Dec (x ≡ w) → Near p x w
      back a b (yes e) = inl e
      back a b (no d) = inr ((range_adjacent p k x w l m).1 (beside a b d (dec_le x w)))

  -- At most one edge apart on a range is readings at most 1 apart.
  pub near_readings : (x w : ℕ) (y z : ℤ) → Stands p x y → Stands p w z → Near p x w ↔ (apart y z ≤ 1)
  near_readings x w y z s t =
      let n = near_close x w s.0 t.0 in
      let d = distance_of (from_offset p.low) y z 1 x w (stands_sum x y s) (stands_sum w z t) in
      (λ h. d.1 (n.0 h), λ h. n.1 (d.0 h))

  -- readings are in the order of their positions
  pub readings_order : (x w : ℕ) (y z : ℤ) → Stands p x y → Stands p w z → (y ≤ℤ z) ↔ (x ≤ w)
  readings_order x w y z s t = order_of (from_offset p.low) y z x w (stands_sum x y s) (stands_sum w z t)

  -- On the path between two positions of a range is between their readings.
  pub path_readings : (a b x : ℕ) (c d y : ℤ) → Stands p a c → Stands p b d → Stands p x y → OnPath (Adjacent (edges_of p)) a b x ↔ Between c d y
  path_readings a b x c d y s t u = (λ h. to (inside.0 h) (dec_le a b), λ h. inside.1 (from h))
    where
      inside : OnPath (Adjacent (edges_of p)) a b x ↔ ((min a b ≤ x) × (x ≤ max a b))
      inside = range_between p k a b x s.0 t.0

      to : (min a b ≤ x) × (x ≤ max a b) → Dec (a ≤ b) → Between c d y
      to h (yes l) = inl ((readings_order a x c y s u).1 (omega (arith, h.0)), (readings_order x b y d u t).1 (omega (arith, h.1)))
      to h (no l) = inr ((readings_order b x d y t u).1 (omega (arith, h.0)), (readings_order x a y c u s).1 (omega (arith, h.1)))

      from : Between c d y → (min a b ≤ x) × (x ≤ max a b)
      from (inl (i, j)) = let l = (readings_order a x c y s u).0 i in let m = (readings_order x b y d u t).0 j in (omega arith, omega arith)
      from (inr (i, j)) = let l = (readings_order b x d y t u).0 i in let m = (readings_order x a y c u s).0 j in (omega arith, omega arith)

-- ---- demand 3 on a range

module _ (v : Instance) (plan : Plan) (bad : Set) (h : History) (k : plan.kind ≡ 2) where
  -- what demand 3 promises, by readings
  pub on_range_lem : Holds v plan bad h → HoldsOnRange v plan bad h
  on_range_lem o = record {
    near = λ i j y z gi gj p q.
        let r = o.near i j y z gi gj p q in
        (near_readings plan k r.0 r.1 y z r.2 r.3).0 r.4;
    validity = λ i y g p.
        let r = o.validity i y g p in
        let b = r.2 in
        ordered b.4 b.5 y (b.0, b.2, b.6, b.8) (b.1, b.3, b.7, b.9)
        ((path_readings plan k b.2 b.3 r.0 b.4 b.5 y b.8.stands b.9.stands r.1).0 b.11);
  }
    where
      -- the smaller of the two first
      ordered : (p q y : ℤ) → Input v plan bad h p → Input v plan bad h q → Between p q y
          → (p : ℤ) × (q : ℤ) × Input v plan bad h p × Input v plan bad h q × (p ≤ℤ y) × (y ≤ℤ q)
      ordered p q y m n (inl (a, b)) = (p, q, m, n, a, b)
      ordered p q y m n (inr (a, b)) = (q, p, n, m, a, b)

-- Demand 3 on a range.
pub demand3_range : (v : Instance) (plan : Plan) (bad : Set) (h : History) → Premises v plan bad h → plan.kind ≡ 2 → HoldsOnRange v plan bad h
demand3_range v plan bad h given k = on_range_lem v plan bad h k (demand3 v plan bad h given)
