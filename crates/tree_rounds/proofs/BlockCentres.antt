-- Light members and centres of all components of a forest at once, found by one pass over edges in growth order.
use mathlib.Core.Path.{◌≡◌, refl, sym, ap, ap₂, ◌∙◌, subst}
use mathlib.Core.Logic.{◌⊎◌, inl, inr}
use mathlib.Core.List.{[], ◌∷◌}
use mathlib.Core.Bool.{Bool, true, false, not, ◌&&◌, ◌||◌}
use Prim.Native.Nat.{ℕ, ◌-◌, ◌*◌, ◌<◌}
use native.Mathlib.Decide.{ℕ_discrete}
use native.Mathlib.Omega.{arith}
use lib.Dec.{T, eqb, ltb, leb, eqb→eq, eqb_refl, T_not, not_T}
use Rattle.base.specs.Pick.{smallest}
use Rattle.base.specs.Sets.{Set, count}
use Rattle.base.specs.Inner.{any_below}
use Rattle.base.proofs.Any.{below_some, some_below, any_same}
use Rattle.base.proofs.Bools.{T_and, T-left, T-right, T-dec, T→true, T-ext, not-T→false, not_not}
use Rattle.base.proofs.Smallest.{Sought, sought, smallest_is, smallest_same}
use Rattle.tree.specs.Edges.{Edge, Edges, label}
use Rattle.tree.specs.Component.{light, centre}
use Rattle.tree.specs.Inner.{inside, subtree, shows, bad, unshown}
use Rattle.tree.proofs.Labels.{label_inside}
use Rattle.tree.proofs.GrowthLight.{Leads, leads_adjacent, light_unshown}
use Rattle.tree.proofs.Edges.{flip}
use Rattle.tree_rounds.specs.Inner.{block_of, in_large, split, bad_in, Forest}
use Rattle.tree_rounds.proofs.Blocks.{block_in, block_label, to_block, block_own, block_same, block_edge, block_component}
use Rattle.tree_rounds.proofs.BlockSizes.{subtree_block, block_size}

-- some edge shows that c is not light in its component, by the sizes as they are
abbrev pub shown_in : Edges → ℕ → Set → ℕ → Bool
shown_in F n A c = bad_in A (subtree A F) (λ v. count n (block_of F A v)) F c

-- the same by sizes that a pass found, where a component's size is read at its label
abbrev pub labelled : Set → Edges → (ℕ → ℕ) → ℕ → Bool
labelled A F sub c = bad_in A sub (λ v. sub (label A F v)) F c

-- the members of label l that the test passes
abbrev pub passing : Edges → ℕ → Set → ℕ → Set
passing F n A l y = (A y && eqb (label A F y) l) && not (shown_in F n A y)

-- the test passes x, and no smaller member of the same label
pub record First (F : Edges) (n : ℕ) (A : Set) (x : ℕ) : Type 0 where
  pub passes : T (shown_in F n A x) → ⊥
  pub least : (y : ℕ) → y < x → T (A y) → label A F y ≡ label A F x → T (shown_in F n A y)

-- ---- the test reads sizes of members of A only

shows_given : (A : Set) (sub sub' : ℕ → ℕ) (s s' : ℕ) (e : Edge) (c : ℕ) → (T (A e.two) → (sub e.two ≡ sub' e.two) × (s ≡ s')) → shows A sub s e c ≡ shows A sub' s' e c
unfolding shows
shows_given A sub sub' s s' e c h = go (T-dec (inside A e))
  where
    go : Dec (T (inside A e))
        → inside A e && ((eqb c e.one && ltb s (sub e.two * 2)) || (eqb c e.two && ltb s ((s - sub e.two) * 2)))
        ≡ inside A e && ((eqb c e.one && ltb s' (sub' e.two * 2)) || (eqb c e.two && ltb s' ((s' - sub' e.two) * 2)))
    go (yes k) = let r = h (T-right (A e.one) (A e.two) k) in rw (r.0, r.1)
    go (no k) = rw (not-T→false (inside A e) k)

pub shown_given : (A : Set) (sub sub' size size' : ℕ → ℕ) → ((x : ℕ) → T (A x) → sub x ≡ sub' x) → ((x : ℕ) → T (A x) → size x ≡ size' x)
    → (F : Edges) (c : ℕ) → bad_in A sub size F c ≡ bad_in A sub' size' F c
unfolding bad_in
shown_given A sub sub' size size' h k [] c = refl
shown_given A sub sub' size size' h k (e ∷ F) c =
    ap₂ ◌||◌ (shows_given A sub sub' (size e.two) (size' e.two) e c (λ p. (h e.two p, k e.two p))) (shown_given A sub sub' size size' h k F c)

-- ---- at a member of the part S of A it is the test for S

-- one edge: if it lies inside A and c is one of its ends, it lies inside S, and the sizes are those in S
shows_part : (A S : Set) (sub sub' : ℕ → ℕ) (s s' : ℕ) (e : Edge) (c : ℕ) → ((x : ℕ) → T (S x) → T (A x))
    → (T (inside A e) → (c ≡ e.one) ⊎ (c ≡ e.two) → T (inside S e) × (sub e.two ≡ sub' e.two) × (s ≡ s'))
    → shows S sub s e c ≡ shows A sub' s' e c
unfolding shows
shows_part A S sub sub' s s' e c m h = go (T-dec (inside A e)) (ℕ_discrete c e.one) (ℕ_discrete c e.two)
  where
    p : ℕ
    p = e.one

    u : ℕ
    u = e.two

    none : (a b : Bool) → a && false ≡ b && false
    none true true = refl
    none true false = refl
    none false true = refl
    none false false = refl

    near : T (inside A e) → (c ≡ p) ⊎ (c ≡ u)
        → inside S e && ((eqb c p && ltb s (sub u * 2)) || (eqb c u && ltb s ((s - sub u) * 2)))
        ≡ inside A e && ((eqb c p && ltb s' (sub' u * 2)) || (eqb c u && ltb s' ((s' - sub' u) * 2)))
    near k i = let r = h k i in rw (T→true (inside A e) k, T→true (inside S e) r.0, r.1, r.2)

    go : Dec (T (inside A e)) → Dec (c ≡ p) → Dec (c ≡ u)
        → inside S e && ((eqb c p && ltb s (sub u * 2)) || (eqb c u && ltb s ((s - sub u) * 2)))
        ≡ inside A e && ((eqb c p && ltb s' (sub' u * 2)) || (eqb c u && ltb s' ((s' - sub' u) * 2)))
    go (yes k) (yes i) j = near k (inl i)
    go (yes k) (no i) (yes j) = near k (inr j)
    go (yes k) (no i) (no j) = rw (not-T→false (eqb c p) (λ q. i (eqb→eq c p q)), not-T→false (eqb c u) (λ q. j (eqb→eq c u q))) (none (inside S e) (inside A e))
    go (no k) i j =
        rw (not-T→false (inside A e) k, not-T→false (inside S e) (λ q. k (T_and (A p) (A u) (m p (T-left (S p) (S u) q)) (m u (T-right (S p) (S u) q)))))

bad_part : (A S : Set) (sub sub' size : ℕ → ℕ) (s c : ℕ) → ((x : ℕ) → T (S x) → T (A x)) → (F : Edges)
    → ((p u : ℕ) → Leads F p u → T (A p) → T (A u) → (c ≡ p) ⊎ (c ≡ u) → T (S p) × T (S u) × (sub u ≡ sub' u) × (s ≡ size u))
    → bad S sub s F c ≡ bad_in A sub' size F c
unfolding bad bad_in
bad_part A S sub sub' size s c m [] h = refl
bad_part A S sub sub' size s c m (e ∷ F) h =
    ap₂ ◌||◌ (shows_part A S sub sub' s (size e.two) e c m edge) (bad_part A S sub sub' size s c m F (λ p u r. h p u (inr r)))
  where
    edge : T (inside A e) → (c ≡ e.one) ⊎ (c ≡ e.two) → T (inside S e) × (sub e.two ≡ sub' e.two) × (s ≡ size e.two)
    edge k i =
        let r = h e.one e.two (inl (refl, refl)) (T-left (A e.one) _ k) (T-right (A e.one) _ k) i in
        (T_and (S e.one) _ r.0 r.1, r.2, r.3)

module _ (F : Edges) (n : ℕ) (A : Set) where
  -- the test by sizes that a pass found
  pub shown_by : (sub size : ℕ → ℕ) → ((x : ℕ) → T (A x) → sub x ≡ subtree A F x) → ((x : ℕ) → T (A x) → size x ≡ count n (block_of F A x))
      → (c : ℕ) → bad_in A sub size F c ≡ shown_in F n A c
  shown_by sub size h k c = shown_given A sub (subtree A F) size (λ v. count n (block_of F A v)) h k F c

  -- an edge at c inside A lies in c's component
  at_block : (c p u : ℕ) → Leads F p u → T (A p) → T (A u) → (c ≡ p) ⊎ (c ≡ u) → T (block_of F A c p) × T (block_of F A c u)
  at_block c p u r a b (inl i) =
      let h : T (block_of F A c p) = subst (λ z. T (block_of F A z p)) (sym i) (block_own F A p a) in
      (h, block_edge F A c p u (leads_adjacent F p u r) h b)
  at_block c p u r a b (inr i) =
      let h : T (block_of F A c u) = subst (λ z. T (block_of F A z u)) (sym i) (block_own F A u b) in
      (block_edge F A c u p (flip F p u (leads_adjacent F p u r)) h a, h)

  bad_block : (c : ℕ) → bad (block_of F A c) (subtree (block_of F A c) F) (count n (block_of F A c)) F c ≡ shown_in F n A c
  bad_block c =
      bad_part A (block_of F A c) (subtree (block_of F A c) F) (subtree A F) (λ v. count n (block_of F A v)) (count n (block_of F A c)) c (block_in F A c) F
      (λ p u r a b i. let k = at_block c p u r a b i in (k.0, k.1, subtree_block F A c u k.1, ap (count n) (sym (block_same F A c u k.1))))

module _ (F : Edges) (n : ℕ) (A : Set) (forest : Forest F n A) where
  -- a component's size read at its label
  pub shown_labels : (sub : ℕ → ℕ) → ((x : ℕ) → T (A x) → sub x ≡ subtree A F x) → (c : ℕ) → labelled A F sub c ≡ shown_in F n A c
  shown_labels sub h c = shown_by F n A sub (λ v. sub (label A F v)) h (λ x p. h (label A F x) (label_inside A F x p) ∙ block_size F n A forest x p) c

  -- the test passes exactly the light members of each component
  pub block_light : (c : ℕ) → T (A c) → light F n (block_of F A c) c ≡ not (shown_in F n A c)
  unfolding unshown
  block_light c p =
      light_unshown n (block_of F A c) F forest.grown forest.ends forest.some (block_component F A n forest.below c p) c
      ∙ rw (T→true (block_of F A c c) (block_own F A c p), bad_block F n A c)

  -- so the centre of a component is its smallest member that the test passes
  pub block_centre : (x : ℕ) → T (A x) → centre F n (block_of F A x) ≡ smallest n (λ c. block_of F A x c && not (shown_in F n A c))
  unfolding centre light
  block_centre x p = smallest_same n (light F n (block_of F A x)) _ (λ c l. go c (T-dec (block_of F A x c)))
    where
      go : (c : ℕ) → Dec (T (block_of F A x c)) → light F n (block_of F A x) c ≡ block_of F A x c && not (shown_in F n A c)
      go c (yes s) =
          ap (λ (S : Set). light F n S c) (sym (block_same F A x c s)) ∙ block_light c (block_in F A x c s)
          ∙ ap (λ (b : Bool). b && not (shown_in F n A c)) (sym (T→true (block_of F A x c) s))
      go c (no d) = rw (not-T→false (block_of F A x c) d)

  pub centre_first : (x : ℕ) → T (A x) → centre F n (block_of F A x) ≡ x → First F n A x
  centre_first x p i = record {
    passes = T_not (shown_in F n A x) (T-right (block_of F A x x) _ hit);
    least = λ y l a h. not_not (shown_in F n A y) (λ k. s.none y (omega (arith, at)) (T_and (block_of F A x y) _ (to_block F A x y a h) k));
  }
    where
      f : Set
      f c = block_of F A x c && not (shown_in F n A c)

      at : smallest n f ≡ x
      at = sym (block_centre x p) ∙ i

      s : Sought n f (smallest n f)
      s = sought n f

      hit : T (f x)
      hit = subst (λ z. T (f z)) at (s.hit (omega (arith, at, forest.below x p)))

  pub first_centre : (x : ℕ) → T (A x) → First F n A x → centre F n (block_of F A x) ≡ x
  first_centre x p h =
      block_centre x p
      ∙ smallest_is n _ x (forest.below x p) (T_and (block_of F A x x) _ (block_own F A x p) (not_T (shown_in F n A x) h.passes))
      (λ y l k. T_not (shown_in F n A y) (T-right (block_of F A x y) _ k) (h.least y l (block_in F A x y (T-left (block_of F A x y) _ k)) (block_label F A x y (T-left (block_of F A x y) _ k))))

  -- the same as a test
  pub centre_test : (x : ℕ) → T (A x) → eqb x (centre F n (block_of F A x)) ≡ not (shown_in F n A x) && not (any_below x (passing F n A (label A F x)))
  centre_test x p = T-ext (eqb x (centre F n (block_of F A x))) _ fore rear
    where
      fore : T (eqb x (centre F n (block_of F A x))) → T (not (shown_in F n A x) && not (any_below x (passing F n A (label A F x))))
      fore h =
          let r : First F n A x = centre_first x p (sym (eqb→eq x (centre F n (block_of F A x)) h)) in
          T_and (not (shown_in F n A x)) _ (not_T (shown_in F n A x) r.passes) (not_T (any_below x _) (λ k. at r (below_some x _ k)))
        where
          at : First F n A x → (y : ℕ) × (y < x) × T (passing F n A (label A F x) y) → ⊥
          at r (y, l, k) =
              let j : T (A y && eqb (label A F y) (label A F x)) = T-left (A y && eqb (label A F y) (label A F x)) _ k in
              T_not (shown_in F n A y) (T-right (A y && eqb (label A F y) (label A F x)) _ k) (r.least y l (T-left (A y) _ j) (eqb→eq (label A F y) (label A F x) (T-right (A y) _ j)))

      rear : T (not (shown_in F n A x) && not (any_below x (passing F n A (label A F x)))) → T (eqb x (centre F n (block_of F A x)))
      rear h = subst (λ z. T (eqb x z)) (sym (first_centre x p (record { passes = T_not (shown_in F n A x) (T-left (not (shown_in F n A x)) _ h); least = least }))) (eqb_refl x)
        where
          least : (y : ℕ) → y < x → T (A y) → label A F y ≡ label A F x → T (shown_in F n A y)
          least y l a i = not_not (shown_in F n A y) (λ k. T_not (any_below x _) (T-right (not (shown_in F n A x)) _ h)
              (some_below x _ y l (T_and (A y && eqb (label A F y) (label A F x)) _ (T_and (A y) _ a (subst (λ z. T (eqb (label A F y) z)) i (eqb_refl (label A F y)))) k)))

  -- one round by the sizes that a pass found: `sub` are the subtrees' sizes, and a component's size is read at its label
  pub split_labels : (sub : ℕ → ℕ) → ((x : ℕ) → T (A x) → sub x ≡ subtree A F x) → (x : ℕ)
      → split F n A x ≡ A x && not (leb 3 (sub (label A F x)) && (not (labelled A F sub x) && not (any_below x (λ y. (A y && eqb (label A F y) (label A F x)) && not (labelled A F sub y)))))
  unfolding split in_large
  split_labels sub h x = go (T-dec (A x))
    where
      test : Bool
      test = not (labelled A F sub x) && not (any_below x (λ y. (A y && eqb (label A F y) (label A F x)) && not (labelled A F sub y)))

      large : T (A x) → A x && leb 3 (count n (block_of F A x)) ≡ leb 3 (sub (label A F x))
      large p = rw (T→true (A x) p, h (label A F x) (label_inside A F x p), block_size F n A forest x p)

      tested : T (A x) → eqb x (centre F n (block_of F A x)) ≡ test
      tested p =
          centre_test x p
          ∙ ap₂ (λ (a b : Bool). not a && not b) (sym (shown_labels sub h x))
          (any_same x _ _ (λ y l. ap (λ (b : Bool). (A y && eqb (label A F y) (label A F x)) && not b) (sym (shown_labels sub h y))))

      go : Dec (T (A x)) → A x && not ((A x && leb 3 (count n (block_of F A x))) && eqb x (centre F n (block_of F A x))) ≡ A x && not (leb 3 (sub (label A F x)) && test)
      go (yes p) = ap₂ (λ (a b : Bool). A x && not (a && b)) (large p) (tested p)
      go (no d) = rw (not-T→false (A x) d)
