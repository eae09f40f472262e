-- An interval of a path numbered along itself: its parts, and its centre in the middle.
use mathlib.Core.Path.{◌≡◌, ap, ◌∙◌}
use Prim.Native.Nat.{ℕ, suc, ◌-◌, ◌*◌, ◌≤◌, ◌<◌}
use native.Mathlib.Decide.{dec_lt}
use native.Mathlib.Omega.{arith}
use lib.Dec.{T, eqb, eqb→eq, eqb_refl, ltb→lt, lt→ltb}
use Rattle.base.specs.Sets.{Set, count}
use Rattle.base.proofs.Bools.{T_and, T-left, T-right}
use Rattle.base.proofs.Counts.{count_none, count_pos}
use Rattle.base.proofs.Smallest.{smallest_is}
use Rattle.tree.specs.Walk.{Walk, Not}
use Rattle.tree.specs.Edges.{Edges, Adjacent}
use Rattle.tree.specs.Inner.{In, interval, middle}
use Rattle.tree.specs.Component.{without, part, heavy, light, centre}
use Rattle.tree.proofs.Walks.{mono, back}
use Rattle.tree.proofs.Edges.{flip}
use Rattle.tree.proofs.Without.{to_without, without_in, without_not}
use Rattle.tree.proofs.Components.{Component}
use Rattle.tree.proofs.Parts.{part_without, part_walk, walk_part}
use Rattle.tree.proofs.PathEdges.{Along}
use Rattle.tree.proofs.PathInterval.{to_interval, from_interval, interval_ext, interval_size}
use Rattle.tree.proofs.PathWalk.{straight, stays_below, stays_above}

module _ (n : ℕ) (E : Edges) (path : Along n E) (a b : ℕ) (bn : b < n) where
  abbrev S : Set
  S = interval a b

  -- what is joined to x without c is on x's side of c
  off : (c x z : ℕ) → T (without S c x) → T (part E S c x z) → (a ≤ z) × (z ≤ b) × Walk (Adjacent E) (Not c) x z
  off c x z p h =
      let r = from_interval a b z (without_in S c z (part_without E S c x z h)) in
      (r.0, r.1, mono (Adjacent E) (without_not S c) (back (Adjacent E) (flip E) (part_walk E S c x z p h)))

  inside : (c x : ℕ) → a ≤ x → x ≤ b → Not c x → T (without S c x)
  inside c x l m d = to_without S c x (to_interval a b x l m) d

  -- the part below c, and the part above it
  pub part_below : (c x : ℕ) → a ≤ x → x < c → c ≤ b → part E (interval a b) c x ≡ interval a (c - 1)
  part_below c x l m k = interval_ext (part E S c x) a (c - 1) from to
    where
      from : (z : ℕ) → T (part E S c x z) → (a ≤ z) × (z ≤ c - 1)
      from z h =
          let r = off c x z (inside c x l (omega arith) (λ e. omega arith)) h in
          let k : z < c = stays_below n E path c r.2 m in
          (r.0, omega arith)

      to : (z : ℕ) → a ≤ z → z ≤ c - 1 → T (part E S c x z)
      to z p q = walk_part E S c x z (straight n E path z x (omega arith) (omega arith) (λ v i j. inside c v (omega arith) (omega arith) (λ e. omega arith)))

  pub part_above : (c x : ℕ) → a ≤ c → c < x → x ≤ b → part E (interval a b) c x ≡ interval (suc c) b
  part_above c x l m k = interval_ext (part E S c x) (suc c) b from to
    where
      from : (z : ℕ) → T (part E S c x z) → (suc c ≤ z) × (z ≤ b)
      from z h =
          let r = off c x z (inside c x (omega arith) k (λ e. omega arith)) h in
          (stays_above n E path c r.2 m, r.1)

      to : (z : ℕ) → suc c ≤ z → z ≤ b → T (part E S c x z)
      to z p q = walk_part E S c x z (straight n E path z x (omega arith) (omega arith) (λ v i j. inside c v (omega arith) (omega arith) (λ e. omega arith)))

  -- their sizes
  size_below : (c x : ℕ) → a ≤ x → x < c → c ≤ b → count n (part E S c x) ≡ c - a
  size_below c x l m k = ap (count n) (part_below c x l m k) ∙ omega (arith, interval_size n a (c - 1) (omega arith))

  size_above : (c x : ℕ) → a ≤ c → c < x → x ≤ b → count n (part E S c x) ≡ b - c
  size_above c x l m k = ap (count n) (part_above c x l m k) ∙ omega (arith, interval_size n (suc c) b bn)

  module _ (ab : a ≤ b) where
    -- an interval is a component
    pub interval_component : Component E n (interval a b)
    interval_component = record {
      member = (a, to_interval a b a (omega arith) ab);
      below = λ x p. let r = from_interval a b x p in omega (arith, r.1);
      connected = λ x y p q. joins x y (from_interval a b x p) (from_interval a b y q);
    }
      where
        joins : (x y : ℕ) → (a ≤ x) × (x ≤ b) → (a ≤ y) × (y ≤ b) → Walk (Adjacent E) (In S) x y
        joins x y p q = straight n E path x y (omega arith) (omega arith) (λ v i j. to_interval a b v (omega arith) (omega arith))

    -- no part of the middle has more than half
    even : (x : ℕ) → T (heavy E n S (middle a b) x) → ⊥
    unfolding heavy
    even x h =
        let p : T (without S (middle a b) x) = T-left (without S (middle a b) x) _ h in
        let k : count n S < count n (part E S (middle a b) x) * 2 = ltb→lt (count n S) (count n (part E S (middle a b) x) * 2) (T-right (without S (middle a b) x) _ h) in
        go (dec_lt x (middle a b)) (from_interval a b x (without_in S (middle a b) x p)) (without_not S (middle a b) x p) k
      where
        go : Dec (x < middle a b) → (a ≤ x) × (x ≤ b) → Not (middle a b) x → count n S < count n (part E S (middle a b) x) * 2 → ⊥
        go (yes l) r d k = omega (arith, interval_size n a b bn, size_below (middle a b) x r.0 l (omega arith))
        go (no l) r d k = omega (arith, interval_size n a b bn, size_above (middle a b) x (omega arith) (omega arith) r.1)

    -- what lies above an earlier position is more than half
    uneven : (c : ℕ) → a ≤ c → c < middle a b → T (heavy E n S c b)
    unfolding heavy
    uneven c l m =
        T_and (without S c b) _ (inside c b ab (omega arith) (λ e. omega arith))
        (lt→ltb (count n S) (count n (part E S c b) * 2) (omega (arith, interval_size n a b bn, size_above c b l (omega arith) (omega arith))))

    -- "On a path from a to b the centre is a + (b-a)/2 rounded down."
    pub interval_centre : centre E n (interval a b) ≡ middle a b
    unfolding centre light
    interval_centre = smallest_is n (light E n S) (middle a b) (omega arith)
        (T_and (S (middle a b)) _ (to_interval a b (middle a b) (omega arith) (omega arith)) (none (count_none n (heavy E n S (middle a b)) (λ i l h. even i h))))
        (λ c l h. some c l (from_interval a b c (T-left (S c) _ h)) (eqb→eq (count n (heavy E n S c)) 0 (T-right (S c) _ h)))
      where
        none : {k : ℕ} → k ≡ 0 → T (eqb k 0)
        none e = rw e (eqb_refl 0)

        some : (c : ℕ) → c < middle a b → (a ≤ c) × (c ≤ b) → count n (heavy E n S c) ≡ 0 → ⊥
        some c l r e = omega (arith, count_pos n (heavy E n S c) b bn (uneven c r.0 l))
