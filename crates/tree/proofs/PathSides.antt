-- An interval of three or more positions of a path numbered along itself: the neighbours of its centre, its sides and ports.
use mathlib.Core.Path.{◌≡◌, refl, sym, ap, ◌∙◌, subst}
use mathlib.Core.Logic.{◌⊎◌, inl, inr}
use mathlib.Core.Bool.{Bool, true, false, ◌&&◌}
use Prim.Native.Nat.{ℕ, zero, suc, ◌+◌, ◌-◌, ◌≤◌, ◌<◌}
use native.Mathlib.Decide.{ℕ_discrete}
use native.Mathlib.Omega.{arith}
use lib.Dec.{T, eqb, eqb→eq, eqb_refl}
use Rattle.base.specs.Pick.{pick}
use Rattle.base.specs.Sets.{Set, bit, count}
use Rattle.base.proofs.Bools.{T_and, T-left, T-right, T→true, not-T→false}
use Rattle.base.proofs.Smallest.{smallest_is}
use Rattle.tree.specs.Edges.{Edges, Adjacent}
use Rattle.tree.specs.Component.{part, centre, neighbours, degree, rank, neighbour, side, gateway, port}
use Rattle.tree.specs.Inner.{interval, middle}
use Rattle.tree.proofs.Edges.{flip, adjacent→, adjacent←}
use Rattle.tree.proofs.PathEdges.{Next, Along}
use Rattle.tree.proofs.PathInterval.{to_interval, from_interval}
use Rattle.tree.proofs.PathCentre.{part_below, part_above, interval_centre}

-- a set of two numbers p < q has none below p, one up to q, two above
abbrev Two : ℕ → ℕ → ℕ → ℕ → Type 0
Two p q k c = (k ≤ p → c ≡ 0) × (p < k → k ≤ q → c ≡ 1) × (q < k → c ≡ 2)

count_two : (f : Set) (p q : ℕ) → p < q → T (f p) → T (f q) → ((i : ℕ) → T (f i) → (i ≡ p) ⊎ (i ≡ q)) → (k : ℕ) → Two p q k (count k f)
unfolding count
count_two f p q l hp hq d zero = (λ i. refl, λ i j. absurd (omega arith), λ i. absurd (omega arith))
count_two f p q l hp hq d (suc k) = go (ℕ_discrete k p) (ℕ_discrete k q) (f k) refl (count_two f p q l hp hq d k)
  where
    go : Dec (k ≡ p) → Dec (k ≡ q) → (b : Bool) → f k ≡ b → Two p q k (count k f) → Two p q (suc k) (bit b + count k f)
    go (yes i) j true e ih = (λ x. absurd (omega arith), λ x y. omega (arith, ih.0 (omega arith)), λ x. absurd (omega arith))
    go (yes i) j false e ih = absurd (subst T (ap f (sym i) ∙ e) hp)
    go (no i) (yes j) true e ih = (λ x. absurd (omega arith), λ x y. absurd (omega arith), λ x. omega (arith, ih.1 (omega arith) (omega arith)))
    go (no i) (yes j) false e ih = absurd (subst T (ap f (sym j) ∙ e) hq)
    go (no i) (no j) true e ih = absurd (elim (d k (subst T (sym e) tt)) [ inl x ↦ i x | inr x ↦ j x ])
    go (no i) (no j) false e ih = (λ x. omega (arith, ih.0 (omega arith)), λ x y. omega (arith, ih.1 (omega arith) (omega arith)), λ x. omega (arith, ih.2 (omega arith)))

module _ (n : ℕ) (E : Edges) (path : Along n E) (a b : ℕ) (bn : b < n) (wide : 3 ≤ b + 1 - a) where
  abbrev S : Set
  S = interval a b

  abbrev m : ℕ
  m = middle a b

  abbrev N : Set
  N = neighbours E n S

  mid : centre E n S ≡ m
  mid = interval_centre n E path a b bn (omega arith)

  -- the neighbours of the centre are the positions right before and right after it
  only : (w : ℕ) → T (N w) → (w ≡ m - 1) ⊎ (w ≡ m + 1)
  unfolding neighbours
  only w h = go (path.near (centre E n S) w (adjacent→ E (centre E n S) w (T-right (S w) _ h)))
    where
      go : Next (centre E n S) w → (w ≡ m - 1) ⊎ (w ≡ m + 1)
      go (inl i) = inr (omega (arith, mid))
      go (inr i) = inl (omega (arith, mid))

  beside : (w : ℕ) → a ≤ w → w ≤ b → Adjacent E m w → T (N w)
  unfolding neighbours
  beside w l k h = T_and (S w) _ (to_interval a b w l k) (adjacent← E (centre E n S) w (subst (λ (c : ℕ). Adjacent E c w) (sym mid) h))

  before : T (N (m - 1))
  before = beside (m - 1) (omega arith) (omega arith) (flip E (m - 1) m (subst (Adjacent E (m - 1)) e (path.link (m - 1) (omega arith))))
    where
      e : suc (m - 1) ≡ m
      e = omega arith

  after : T (N (m + 1))
  after = beside (m + 1) (omega arith) (omega arith) (subst (Adjacent E m) e (path.link m (omega arith)))
    where
      e : suc m ≡ m + 1
      e = omega arith

  counted : (k : ℕ) → Two (m - 1) (m + 1) k (count k N)
  counted k = count_two N (m - 1) (m + 1) (omega arith) before after only k

  -- there are two
  pub interval_degree : degree E n (interval a b) ≡ 2
  unfolding degree
  interval_degree = (counted n).2 (omega arith)

  rank_before : rank E n S (m - 1) ≡ 1
  unfolding rank
  rank_before = (counted (suc (m - 1))).1 (omega arith) (omega arith)

  rank_after : rank E n S (m + 1) ≡ 2
  unfolding rank
  rank_after = (counted (suc (m + 1))).2 (omega arith)

  -- the first is right before the centre, the second right after it
  pub interval_neighbour_one : neighbour E n (interval a b) 1 ≡ middle a b - 1
  unfolding neighbour
  interval_neighbour_one = smallest_is n (λ w. N w && eqb (rank E n S w) 1) (m - 1) (omega arith)
      (T_and (N (m - 1)) _ before (rw rank_before (eqb_refl 1)))
      (λ i l h. elim (only i (T-left (N i) _ h)) [ inl e ↦ omega arith | inr e ↦ omega arith ])

  pub interval_neighbour_two : neighbour E n (interval a b) 2 ≡ middle a b + 1
  unfolding neighbour
  interval_neighbour_two = smallest_is n (λ w. N w && eqb (rank E n S w) 2) (m + 1) (omega arith)
      (T_and (N (m + 1)) _ after (rw rank_after (eqb_refl 2)))
      (λ i l h. elim (only i (T-left (N i) _ h)) [ inl e ↦ first i e (eqb→eq (rank E n S i) 2 (T-right (N i) _ h)) | inr e ↦ omega arith ])
    where
      first : (i : ℕ) → i ≡ m - 1 → rank E n S i ≡ 2 → ⊥
      first i e h = omega (arith, ap (rank E n S) e, rank_before)

  low : (w : ℕ) → a ≤ w → w < m → part E S (centre E n S) w ≡ interval a (m - 1)
  low w l k = ap (λ (c : ℕ). part E S c w) mid ∙ part_below n E path a b bn m w l k (omega arith)

  high : (w : ℕ) → m < w → w ≤ b → part E S (centre E n S) w ≡ interval (m + 1) b
  high w l k = ap (λ (c : ℕ). part E S c w) mid ∙ part_above n E path a b bn m w (omega arith) l k ∙ ap (λ (x : ℕ). interval x b) e
    where
      e : suc m ≡ m + 1
      e = omega arith

  -- side 1 is what lies below the centre, side 2 what lies above
  pub interval_side_one : side E n (interval a b) 1 ≡ interval a (middle a b - 1)
  unfolding side
  interval_side_one = ap (part E S (centre E n S)) interval_neighbour_one ∙ low (m - 1) (omega arith) (omega arith)

  pub interval_side_two : side E n (interval a b) 2 ≡ interval (middle a b + 1) b
  unfolding side
  interval_side_two = ap (part E S (centre E n S)) interval_neighbour_two ∙ high (m + 1) (omega arith) (omega arith)

  -- the neighbour through which a member is reached
  gateway_below : (x : ℕ) → a ≤ x → x < m → gateway E n S x ≡ m - 1
  unfolding gateway
  gateway_below x l k = smallest_is n (λ w. N w && part E S (centre E n S) w x) (m - 1) (omega arith)
      (T_and (N (m - 1)) _ before (rw (low (m - 1) (omega arith) (omega arith)) (to_interval a (m - 1) x l (omega arith))))
      (λ i j h. elim (only i (T-left (N i) _ h)) [ inl e ↦ omega arith | inr e ↦ omega arith ])

  gateway_above : (x : ℕ) → m < x → x ≤ b → gateway E n S x ≡ m + 1
  unfolding gateway
  gateway_above x l k = smallest_is n (λ w. N w && part E S (centre E n S) w x) (m + 1) (omega arith)
      (T_and (N (m + 1)) _ after (rw (high (m + 1) (omega arith) (omega arith)) (to_interval (m + 1) b x (omega arith) k)))
      (λ i j h. elim (only i (T-left (N i) _ h)) [ inl e ↦ other i e (T-right (N i) _ h) | inr e ↦ omega arith ])
    where
      other : (i : ℕ) → i ≡ m - 1 → T (part E S (centre E n S) i x) → ⊥
      other i e h = omega (arith, from_interval a (m - 1) x (rw (low i (omega arith) (omega arith)) at h))

  -- the port is 1 below the centre, 0 at it and 2 above it
  pub interval_port_below : (x : ℕ) → a ≤ x → x < middle a b → port E n (interval a b) x ≡ 1
  unfolding port
  interval_port_below x l k =
      ap (λ (t : Bool). pick t 0 (rank E n S (gateway E n S x))) (not-T→false (eqb x (centre E n S)) (λ h. omega (arith, mid, eqb→eq x (centre E n S) h)))
      ∙ ap (rank E n S) (gateway_below x l k) ∙ rank_before

  pub interval_port_middle : port E n (interval a b) (middle a b) ≡ 0
  unfolding port
  interval_port_middle = ap (λ (t : Bool). pick t 0 (rank E n S (gateway E n S m))) (T→true (eqb m (centre E n S)) (rw mid (eqb_refl m)))

  pub interval_port_above : (x : ℕ) → middle a b < x → x ≤ b → port E n (interval a b) x ≡ 2
  unfolding port
  interval_port_above x l k =
      ap (λ (t : Bool). pick t 0 (rank E n S (gateway E n S x))) (not-T→false (eqb x (centre E n S)) (λ h. omega (arith, mid, eqb→eq x (centre E n S) h)))
      ∙ ap (rank E n S) (gateway_above x l k) ∙ rank_after
