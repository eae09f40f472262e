-- The centre of a component: it exists, and it is the smallest light member.
use mathlib.Core.Path.{◌≡◌, refl, sym, subst}
use mathlib.Core.Logic.{◌⊎◌, inl, inr}
use mathlib.Core.Bool.{◌&&◌, ◌||◌}
use Prim.Native.Nat.{ℕ, zero, suc, ◌*◌, ◌≤◌, ◌<◌}
use native.Mathlib.Decide.{ℕ_discrete, dec_lt}
use native.Mathlib.Omega.{arith}
use lib.Dec.{T, eqb, eqb→eq, eqb_refl, not_T, ltb→lt, lt→ltb}
use Rattle.base.specs.Sets.{Set, count}
use Rattle.base.proofs.Bools.{T_and, T-left, T-right, or_split}
use Rattle.base.proofs.Counts.{count_mono, count_none, member, count_pos, count_lt, count_or_and}
use Rattle.base.proofs.Smallest.{found}
use Rattle.tree.specs.Walk.{Walk, here, step, Not}
use Rattle.tree.specs.Edges.{Edges, Adjacent}
use Rattle.tree.specs.Inner.{In, Acyclic}
use Rattle.tree.specs.Component.{without, part, heavy, light, centre}
use Rattle.tree.proofs.Walks.{mono, first, last, join, back, cut}
use Rattle.tree.proofs.Edges.{flip}
use Rattle.tree.proofs.Without.{to_without, without_in, without_not}
use Rattle.tree.proofs.Acyclic.{irreflexive, bridge}
use Rattle.tree.proofs.Components.{Component}
use Rattle.tree.proofs.Parts.{part_without, part_walk, walk_part, beside}

-- c is a member whose removal leaves parts of at most half the positions
pub record Light (E : Edges) (n : ℕ) (S : Set) (c : ℕ) : Type 0 where
  pub member : T (S c)
  pub halves : (x : ℕ) → T (S x) → Not c x → count n (part E S c x) * 2 ≤ count n S

module _ (E : Edges) (ok : Acyclic E) (n : ℕ) (S : Set) (C : Component E n S) where
  abbrev W : (ℕ → Type 0) → ℕ → ℕ → Type 0
  W P x y = Walk (Adjacent E) P x y

  -- the test tells the members in a part of more than half
  heavy→ : (c x : ℕ) → T (heavy E n S c x) → T (without S c x) × (count n S < count n (part E S c x) * 2)
  unfolding heavy
  heavy→ c x h = let p = T-right (without S c x) _ h in (T-left (without S c x) _ h, omega (arith, ltb→lt))

  heavy← : (c x : ℕ) → T (without S c x) → count n S < count n (part E S c x) * 2 → T (heavy E n S c x)
  unfolding heavy
  heavy← c x b h = T_and (without S c x) _ b (lt→ltb _ _ h)

  -- where no member is in such a part
  halves_of : (c : ℕ) → count n (heavy E n S c) ≡ 0 → (x : ℕ) → T (S x) → Not c x → count n (part E S c x) * 2 ≤ count n S
  halves_of c z x q d = go (dec_lt (count n S) (count n (part E S c x) * 2))
    where
      go : Dec (count n S < count n (part E S c x) * 2) → count n (part E S c x) * 2 ≤ count n S
      go (yes h) = absurd (omega (arith, count_pos n (heavy E n S c) x (C.below x q) (heavy← c x (to_without S c x q d) h)))
      go (no h) = omega arith

  -- the test tells the light members
  pub light→ : (c : ℕ) → T (light E n S c) → Light E n S c
  unfolding light
  light→ c p = record { member = T-left (S c) _ p; halves = halves_of c (eqb→eq (count n (heavy E n S c)) 0 (T-right (S c) _ p)) }

  pub light← : (c : ℕ) → Light E n S c → T (light E n S c)
  unfolding light
  light← c h = T_and (S c) _ h.member (subst (λ z. T (eqb (count n (heavy E n S c)) z)) (count_none n (heavy E n S c) none) (eqb_refl (count n (heavy E n S c))))
    where
      none : (x : ℕ) → x < n → T (heavy E n S c x) → ⊥
      none x l q =
          let (b, k) = heavy→ c x q in
          omega (arith, h.halves x (without_in S c x b) (without_not S c x b))

  -- v has a part of more than half beside it, that of its neighbour w
  record Heavy (v w : ℕ) : Type 0 where
    edge : Adjacent E v w
    from : T (S v)
    at : T (without S v w)
    much : count n S < count n (part E S v w) * 2

  look : (v : ℕ) → T (S v) → Light E n S v ⊎ ((w : ℕ) × Heavy v w)
  look v p = go (dec_lt 0 (count n (heavy E n S v)))
    where
      go : Dec (0 < count n (heavy E n S v)) → Light E n S v ⊎ ((w : ℕ) × Heavy v w)
      go (no d) = inl (record { member = p; halves = halves_of v (omega arith) })
      go (yes k) =
          let (x, l, h) = member n (heavy E n S v) k in
          let (b, m) = heavy→ v x h in
          let (w, e, bw, q) = beside E ok n S C v x p b in
          let a : W (In (without S v)) x w = part_walk E S v w x bw q in
          let g : count n (part E S v x) ≤ count n (part E S v w) = count_mono n _ _ (λ z k r. walk_part E S v w z (join (Adjacent E) (part_walk E S v x z b r) a)) in
          inr (w, record { edge = e; from = p; at = bw; much = omega arith })

  -- the two sides of an edge have no common member
  pub disjoint : (v w z : ℕ) → Adjacent E v w → T (without S v w) → T (without S w v) → T (part E S v w z) → T (part E S w v z) → ⊥
  disjoint v w z e b b' p q = bridge E ok v w z e (mono (Adjacent E) (λ u r. without_not S v u r) (part_walk E S v w z b p)) (mono (Adjacent E) (λ u r. without_not S w u r) (part_walk E S w v z b' q))

  -- the heavy part does not lie back
  forth : (v w : ℕ) → Heavy v w → Heavy w v → ⊥
  forth v w h k =
      let A : Set = part E S v w in
      let B : Set = part E S w v in
      let m : count n (λ i. A i || B i) ≤ count n S = count_mono n _ _ (λ z l r. elim (or_split (A z) (B z) r) [ inl p ↦ without_in S v z (part_without E S v w z p) | inr p ↦ without_in S w z (part_without E S w v z p) ]) in
      let z : count n (λ i. A i && B i) ≡ 0 = count_none n _ (λ z l r. disjoint v w z h.edge h.at k.at (T-left (part E S v w z) _ r) (T-right (part E S v w z) _ r)) in
      omega (arith, h.much, k.much, count_or_and n A B)

  -- it lies within the one before, and is smaller
  smaller : (v w w' : ℕ) → Heavy v w → Heavy w w' → count n (part E S w w') < count n (part E S v w)
  smaller v w w' h k = go (ℕ_discrete w' v)
    where
      go : Dec (w' ≡ v) → count n (part E S w w') < count n (part E S v w)
      go (yes e) = absurd (forth v w h (subst (Heavy w) e k))
      go (no d) = count_lt n _ _ (λ z l p. within z (cut (Adjacent E) v (part_walk E S w w' z k.at p))) w (C.below w k.from) (walk_part E S v w w (here h.at)) (not_T (part E S w w' w) (λ p. without_not S w w (part_without E S w w' w p) refl))
        where
          within : (z : ℕ) → (W (In (without S w)) z v × W (In (without S w)) v w') ⊎ W (λ u. T (without S w u) × Not v u) z w' → T (part E S v w z)
          within z (inl (a, b)) = absurd (bridge E ok v w w' h.edge (step d (flip E w w' k.edge) (here (without_not S v w h.at))) (mono (Adjacent E) (λ u r. without_not S w u r) (back (Adjacent E) (flip E) b)))
          within z (inr a) = walk_part E S v w z (join (Adjacent E) (mono (Adjacent E) (λ u r. to_without S v u (without_in S w u r.0) r.1) a) (step (to_without S v w' (without_in S w w' k.at) d) (flip E w w' k.edge) (here h.at)))

  descend : (k v w : ℕ) → Heavy v w → count n (part E S v w) ≤ k → (c : ℕ) × Light E n S c
  descend zero v w h l = absurd (omega (arith, h.much))
  descend (suc k) v w h l = go (look w (without_in S v w h.at)) (descend k)
    where
      go : Light E n S w ⊎ ((w' : ℕ) × Heavy w w') → ((v w : ℕ) → Heavy v w → count n (part E S v w) ≤ k → (c : ℕ) × Light E n S c) → (c : ℕ) × Light E n S c
      go (inl r) ih = (w, r)
      go (inr (w', j)) ih = ih w w' j (omega (arith, smaller v w w' h j))

  -- some member is light: go into the heavy part until there is none
  pub some_light : (c : ℕ) × Light E n S c
  some_light = go (look C.member.0 C.member.1)
    where
      go : Light E n S C.member.0 ⊎ ((w : ℕ) × Heavy C.member.0 w) → (c : ℕ) × Light E n S c
      go (inl r) = (C.member.0, r)
      go (inr (w, h)) = descend (count n (part E S C.member.0 w)) C.member.0 w h (omega arith)

  -- the centre is light
  pub centre_light : Light E n S (centre E n S)
  unfolding centre
  centre_light =
      let l = some_light in
      light→ (centre E n S) (found n (light E n S) l.0 (C.below l.0 l.1.member) (light← l.0 l.1)).0

  -- and no smaller member is
  pub centre_least : (y : ℕ) → Light E n S y → centre E n S ≤ y
  unfolding centre
  centre_least y h = (found n (light E n S) y (C.below y h.member) (light← y h)).2

  -- three different members make three
  three : (x y z : ℕ) → T (S x) → T (S y) → T (S z) → Not x y → Not x z → Not y z → 3 ≤ count n S
  three x y z p q r a b c =
      let h : count n (without S x) < count n S = less S x C.below p in
      let k : count n (without (without S x) y) < count n (without S x) = less (without S x) y (λ v i. C.below v (without_in S x v i)) (to_without S x y q a) in
      omega (arith, count_pos n (without (without S x) y) z (C.below z r) (to_without (without S x) y z (to_without S x z r b) c))
    where
      less : (R : Set) (x : ℕ) → ((v : ℕ) → T (R v) → v < n) → T (R x) → count n (without R x) < count n R
      less R x bd p = count_lt n (without R x) R (λ i l q. without_in R x i q) x (bd x p) p (not_T (without R x x) (λ q. without_not R x x q refl))

  -- of one or two positions, any two are equal or neighbours
  pub small : count n S ≤ 2 → (x y : ℕ) → T (S x) → T (S y) → (x ≡ y) ⊎ Adjacent E x y
  small l x y p q = go (C.connected x y p q)
    where
      near : (x y u : ℕ) → T (S x) → T (S y) → T (S u) → Adjacent E x u → Dec (x ≡ y) → Dec (u ≡ y) → (x ≡ y) ⊎ Adjacent E x y
      near x y u p q s e (yes i) j = inl i
      near x y u p q s e (no i) (yes j) = inr (subst (Adjacent E x) j e)
      near x y u p q s e (no i) (no j) = absurd (omega (arith, three x y u p q s (λ k. i (sym k)) (λ k. irreflexive E ok x (subst (Adjacent E x) k e)) j))

      go : {x y : ℕ} → W (In S) x y → (x ≡ y) ⊎ Adjacent E x y
      go (here r) = inl refl
      go (step {x = x} {y = u} {z = y} r e w) = near x y u r (last (Adjacent E) w) (first (Adjacent E) w) e (ℕ_discrete x y) (ℕ_discrete u y)
