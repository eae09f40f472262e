-- The two parts of an edge in growth order: their sizes, and light members found from them.
use mathlib.Core.Path.{◌≡◌, refl, sym, ap, ◌∙◌, subst}
use mathlib.Core.Logic.{◌⊎◌, inl, inr}
use mathlib.Core.List.{[], ◌∷◌}
use mathlib.Core.Bool.{Bool, true, false, not, ◌&&◌, ◌||◌}
use Prim.Native.Nat.{ℕ, ◌+◌, ◌-◌, ◌*◌, ◌≤◌, ◌<◌}
use native.Mathlib.Decide.{ℕ_discrete, dec_lt}
use native.Mathlib.Omega.{arith}
use lib.Dec.{T, eqb, ltb, eqb→eq, eqb_refl, T_not, not_T, lt→ltb, ltb→lt}
use Rattle.base.specs.Pick.{pick, smallest}
use Rattle.base.specs.Sets.{Set, bit, count}
use Rattle.base.proofs.Bools.{T_and, T-left, T-right, or_split, or_left, or_right, true→T, false→not-T, not-T→false, T-ext}
use Rattle.base.proofs.Counts.{count_mono, count_split}
use Rattle.base.proofs.Smallest.{smallest_same}
use Rattle.tree.specs.Walk.{here, step, Not}
use Rattle.tree.specs.Edges.{Edge, Edges, Adjacent, label, joined, Below}
use Rattle.tree.specs.Inner.{In, Acyclic, Grown, inside, up, subtree, shows, bad, unshown}
use Rattle.tree.specs.Component.{without, part, light, centre}
use Rattle.tree.specs.Growth.{reached}
use Rattle.tree.proofs.Walks.{mono, join, cut}
use Rattle.tree.proofs.Edges.{flip}
use Rattle.tree.proofs.Without.{to_without, without_in, without_not}
use Rattle.tree.proofs.Labels.{joined_label, label_joined}
use Rattle.tree.proofs.Acyclic.{irreflexive}
use Rattle.tree.proofs.Components.{Component}
use Rattle.tree.proofs.Parts.{part_without, part_walk, walk_part, beside, one_neighbour}
use Rattle.tree.proofs.Centres.{Light, light→, light←, disjoint}
use Rattle.tree.proofs.Growth.{reached_new, reached_old, reached_apart, alone, label_new, label_old, grown_acyclic}
use Rattle.tree.proofs.GrowthSizes.{weigh, total_same, count_total, under, under_new, under_leaf, under_deep, up_sum}

-- F has the edge that leads from p to u
abbrev pub Leads : Edges → ℕ → ℕ → Type 0
Leads [] p u = ⊥
Leads (e ∷ F) p u = ((p ≡ e.one) × (u ≡ e.two)) ⊎ Leads F p u

pub leads_adjacent : (F : Edges) (p u : ℕ) → Leads F p u → Adjacent F p u
leads_adjacent [] p u h = h
leads_adjacent (e ∷ F) p u (inl h) = inl (inl h)
leads_adjacent (e ∷ F) p u (inr h) = inr (leads_adjacent F p u h)

pub adjacent_leads : (F : Edges) (x y : ℕ) → Adjacent F x y → Leads F x y ⊎ Leads F y x
adjacent_leads [] x y h = absurd h
adjacent_leads (e ∷ F) x y (inl (inl h)) = inl (inl h)
adjacent_leads (e ∷ F) x y (inl (inr h)) = inr (inl (h.1, h.0))
adjacent_leads (e ∷ F) x y (inr h) = elim (adjacent_leads F x y h) [ inl r ↦ inl (inr r) | inr r ↦ inr (inr r) ]

leads_reached : (F : Edges) → Grown F → (p u : ℕ) → Leads F p u → T (reached F p) × T (reached F u)
leads_reached [] g p u h = absurd h
leads_reached (e ∷ F) g p u (inl (i, j)) =
    (subst (λ z. T (reached (e ∷ F) z)) (sym i) (reached_old e F e.one g.0), subst (λ z. T (reached (e ∷ F) z)) (sym j) (reached_new e F))
leads_reached (e ∷ F) g p u (inr h) = let r = leads_reached F g.2 p u h in (reached_old e F p r.0, reached_old e F u r.1)

-- an old end does not hang below its new end
under_old : (S : Set) (F : Edges) → Grown F → (p u : ℕ) → Leads F p u → under S F u p ≡ false
under_old S [] g p u h = absurd h
under_old S (e ∷ F) g p u (inl (i, j)) = under_new S e F u p j ∙ not-T→false (eqb p u) (λ h. reached_apart e F g e.one g.0 (sym i ∙ eqb→eq p u h ∙ j))
under_old S (e ∷ F) g p u (inr h) =
    let r = leads_reached F g.2 p u h in
    under_deep S e F u p (reached_apart e F g u r.1) (reached_apart e F g p r.0) ∙ under_old S F g.2 p u h

under_self : (S : Set) (F : Edges) → Grown F → (p u : ℕ) → Leads F p u → T (under S F u u)
under_self S [] g p u h = absurd h
under_self S (e ∷ F) g p u (inl (i, j)) = rw (under_new S e F u u j) (eqb_refl u)
under_self S (e ∷ F) g p u (inr h) =
    let d : u ≡ e.two → ⊥ = reached_apart e F g u (leads_reached F g.2 p u h).1 in
    rw (under_deep S e F u u d d) (under_self S F g.2 p u h)

-- with the old end p taken out, what hangs below the new end u is what has the label u
leads_label : (S : Set) (F : Edges) → Grown F → (p u : ℕ) → Leads F p u → (x : ℕ) → T (S x)
    → (label (without S p) F x ≡ u → T (under S F u x)) × (T (under S F u x) → label (without S p) F x ≡ u)
leads_label S [] g p u h x s = absurd h
leads_label S (e ∷ F) g p u (inl (i, j)) x s =
    (λ k. rw (under_new S e F u x j) (fore (ℕ_discrete x e.two) k), λ k. rear (ℕ_discrete x e.two) (eqb→eq x u (rw (under_new S e F u x j) at k)))
  where
    A : Set
    A = without S p

    shut : (b : Bool) → A e.one && b ≡ false
    shut b = not-T→false (A e.one && b) (λ h. without_not S p e.one (T-left (A e.one) b h) (sym i))

    mine : label A (e ∷ F) e.two ≡ e.two
    mine = label_new A e F g ∙ ap (λ b. pick b (label A F e.one) e.two) (shut (A e.two))

    fore : Dec (x ≡ e.two) → label A (e ∷ F) x ≡ u → T (eqb x u)
    fore (yes k) l = rw (k, j) (eqb_refl e.two)
    fore (no k) l = absurd (k (alone A F g.2 e.two g.1 x (sym (label_old A e F g x k) ∙ l ∙ j)))

    rear : Dec (x ≡ e.two) → x ≡ u → label A (e ∷ F) x ≡ u
    rear (yes k) l = ap (label A (e ∷ F)) k ∙ mine ∙ sym j
    rear (no k) l = absurd (k (l ∙ j))
leads_label S (e ∷ F) g p u (inr h) x s = go (ℕ_discrete x e.two) (leads_label S F g.2 p u h)
  where
    A : Set
    A = without S p

    v : ℕ
    v = e.two

    q : ℕ
    q = e.one

    u≠ : u ≡ v → ⊥
    u≠ = reached_apart e F g u (leads_reached F g.2 p u h).1

    p≠ : p ≡ v → ⊥
    p≠ = reached_apart e F g p (leads_reached F g.2 p u h).0

    -- the new end v
    leaf : T (S v) → (a b c : Bool) → S q ≡ a → S v ≡ b → A q && A v ≡ c
        → ((x : ℕ) → T (S x) → (label A F x ≡ u → T (under S F u x)) × (T (under S F u x) → label A F x ≡ u))
        → (pick c (label A F q) v ≡ u → T ((a && b) && under S F u q)) × (T ((a && b) && under S F u q) → pick c (label A F q) v ≡ u)
    leaf sv true false c i j k ih = absurd (false→not-T j sv)
    leaf sv true true true i j k ih = ih q (true→T i)
    leaf sv true true false i j k ih = (λ z. absurd (u≠ (sym z)), λ z. absurd (stuck (ℕ_discrete q p) z))
      where
        stuck : Dec (q ≡ p) → T (under S F u q) → ⊥
        stuck (yes m) z = false→not-T (ap (under S F u) m ∙ under_old S F g.2 p u h) z
        stuck (no m) z = false→not-T k (T_and (A q) (A v) (to_without S p q (true→T i) m) (to_without S p v sv (λ n. p≠ (sym n))))
    leaf sv false b true i j k ih = absurd (false→not-T i (without_in S p q (T-left (A q) (A v) (true→T k))))
    leaf sv false b false i j k ih = (λ z. absurd (u≠ (sym z)), λ z. absurd z)

    go : Dec (x ≡ v) → ((x : ℕ) → T (S x) → (label A F x ≡ u → T (under S F u x)) × (T (under S F u x) → label A F x ≡ u))
        → (label A (e ∷ F) x ≡ u → T (under S (e ∷ F) u x)) × (T (under S (e ∷ F) u x) → label A (e ∷ F) x ≡ u)
    go (yes k) ih = rw (k, label_new A e F g, under_leaf S e F u u≠) (leaf (subst (In S) k s) (S q) (S v) (A q && A v) refl refl refl ih)
    go (no k) ih = rw (label_old A e F g x k, under_deep S e F u x u≠ k) (ih x s)

-- what hangs below u in S is u's part without p
part_under : (S : Set) (F : Edges) → Grown F → (p u : ℕ) → Leads F p u → T (S u) → (x : ℕ) → part F S p u x ≡ S x && under S F u x
unfolding part
part_under S F g p u h su x = T-ext (A x && joined A F x u) (S x && under S F u x) fore rear
  where
    A : Set
    A = without S p

    self : label A F u ≡ u
    self = (leads_label S F g p u h u su).1 (under_self S F g p u h)

    fore : T (A x && joined A F x u) → T (S x && under S F u x)
    fore k =
        let s : T (S x) = without_in S p x (T-left (A x) _ k) in
        T_and (S x) _ s ((leads_label S F g p u h x s).0 (joined_label A F x u (T-right (A x) _ k) ∙ self))

    rear : T (S x && under S F u x) → T (A x && joined A F x u)
    rear k =
        let s : T (S x) = T-left (S x) _ k in
        let w : T (under S F u x) = T-right (S x) _ k in
        T_and (A x) _ (to_without S p x s (λ m. false→not-T (ap (under S F u) m ∙ under_old S F g p u h) w)) (label_joined A F x u ((leads_label S F g p u h x s).1 w ∙ sym self))

-- the pass finds the size of the new end's part
pub subtree_size : (n : ℕ) (S : Set) (F : Edges) → Grown F → Below n F → 0 < n → (p u : ℕ) → Leads F p u → T (S u) → subtree S F u ≡ count n (part F S p u)
unfolding subtree
subtree_size n S F g b l p u h su =
    up_sum n S F g b l (λ x. bit (S x)) u (leads_reached F g p u h).1
    ∙ total_same n _ _ (λ x k. at (S x) (under S F u x) ∙ ap bit (sym (part_under S F g p u h su x)))
    ∙ sym (count_total n (part F S p u))
  where
    at : (s w : Bool) → weigh w (bit s) ≡ bit (s && w)
    at true true = refl
    at true false = refl
    at false true = refl
    at false false = refl

-- ---- the two parts of an edge

module _ (E : Edges) (ok : Acyclic E) (n : ℕ) (S : Set) (C : Component E n S) where
  -- every member is in one of them
  pub cover : (p u x : ℕ) → Adjacent E p u → T (S p) → T (S u) → T (S x) → T (part E S p u x) ⊎ T (part E S u p x)
  cover p u x e sp su sx = go (ℕ_discrete x p)
    where
      p≠u : Not u p
      p≠u i = irreflexive E ok p (subst (Adjacent E p) (sym i) e)

      go : Dec (x ≡ p) → T (part E S p u x) ⊎ T (part E S u p x)
      go (yes i) = inr (subst (λ z. T (part E S u p z)) (sym i) (walk_part E S u p p (here (to_without S u p sp p≠u))))
      go (no d) = via (beside E ok n S C p x sp (to_without S p x sx d))
        where
          via : (w : ℕ) × Adjacent E p w × T (without S p w) × T (part E S p w x) → T (part E S p u x) ⊎ T (part E S u p x)
          via (w, a, b, h) = at (ℕ_discrete w u)
            where
              at : Dec (w ≡ u) → T (part E S p u x) ⊎ T (part E S u p x)
              at (yes i) = inl (subst (λ z. T (part E S p z x)) i h)
              at (no i) = elim (cut (Adjacent E) u (part_walk E S p w x b h)) [
                | inl r ↦ absurd (i (one_neighbour E ok n S C p w u a e b (walk_part E S p w u r.1)))
                | inr r ↦ inr (walk_part E S u p x (join (Adjacent E) (mono (Adjacent E) (λ z q. to_without S u z (without_in S p z q.0) q.1) r)
                    (step (to_without S u w (without_in S p w b) i) (flip E p w a) (here (to_without S u p sp p≠u)))))
              ]

  -- and their sizes add up
  pub two_parts : (p u : ℕ) → Adjacent E p u → T (S p) → T (S u) → count n (part E S p u) + count n (part E S u p) ≡ count n S
  two_parts p u e sp su =
      let A : Set = part E S p u in
      let B : Set = part E S u p in
      let p≠u : Not u p = λ i. irreflexive E ok p (subst (Adjacent E p) (sym i) e) in
      let a₁ : count n A ≤ count n (λ x. S x && A x) = count_mono n _ _ (λ x l h. T_and (S x) (A x) (without_in S p x (part_without E S p u x h)) h) in
      let a₂ : count n (λ x. S x && A x) ≤ count n A = count_mono n _ _ (λ x l h. T-right (S x) (A x) h) in
      let b₁ : count n B ≤ count n (λ x. S x && not (A x)) = count_mono n _ _ (λ x l h. T_and (S x) (not (A x)) (without_in S u x (part_without E S u p x h))
      (not_T (A x) (λ k. disjoint E ok n S C p u x e (to_without S p u su (λ i. p≠u (sym i))) (to_without S u p sp p≠u) k h))) in
      let b₂ : count n (λ x. S x && not (A x)) ≤ count n B
      = count_mono n _ _ (λ x l h. elim (cover p u x e sp su (T-left (S x) (not (A x)) h)) [ inl k ↦ absurd (T_not (A x) (T-right (S x) (not (A x)) h) k) | inr k ↦ k ]) in
      omega (arith, count_split n S A)

-- ---- what the test tells

-- the edge from p to u shows that c is not light
abbrev Shows : (ℕ → ℕ) → ℕ → ℕ → ℕ → ℕ → Type 0
Shows sub s p u c = ((c ≡ p) × (s < sub u * 2)) ⊎ ((c ≡ u) × (s < (s - sub u) * 2))

equal : (x y : ℕ) → x ≡ y → T (eqb x y)
equal x y e = subst (λ z. T (eqb x z)) e (eqb_refl x)

shows→ : (S : Set) (sub : ℕ → ℕ) (s : ℕ) (e : Edge) (c : ℕ) → T (shows S sub s e c) → T (S e.one) × T (S e.two) × Shows sub s e.one e.two c
unfolding shows
shows→ S sub s e c h =
    let a : T (inside S e) = T-left (inside S e) _ h in (
      T-left (S e.one) (S e.two) a,
      T-right (S e.one) (S e.two) a,
      elim (or_split (eqb c e.one && ltb s (sub e.two * 2)) _ (T-right (inside S e) _ h)) [
        | inl p ↦ inl (eqb→eq c e.one (T-left (eqb c e.one) _ p), ltb→lt s (sub e.two * 2) (T-right (eqb c e.one) _ p))
        | inr p ↦ inr (eqb→eq c e.two (T-left (eqb c e.two) _ p), ltb→lt s ((s - sub e.two) * 2) (T-right (eqb c e.two) _ p))
      ],
    )

shows← : (S : Set) (sub : ℕ → ℕ) (s : ℕ) (e : Edge) (c : ℕ) → T (S e.one) → T (S e.two) → Shows sub s e.one e.two c → T (shows S sub s e c)
unfolding shows
shows← S sub s e c sp su h = T_and (inside S e) _ (T_and (S e.one) (S e.two) sp su) (go h)
  where
    go : Shows sub s e.one e.two c → T ((eqb c e.one && ltb s (sub e.two * 2)) || (eqb c e.two && ltb s ((s - sub e.two) * 2)))
    go (inl (i, l)) = or_left (eqb c e.one && ltb s (sub e.two * 2)) _ (T_and (eqb c e.one) _ (equal c e.one i) (lt→ltb s (sub e.two * 2) l))
    go (inr (i, l)) = or_right (eqb c e.one && ltb s (sub e.two * 2)) _ (T_and (eqb c e.two) _ (equal c e.two i) (lt→ltb s ((s - sub e.two) * 2) l))

bad→ : (S : Set) (sub : ℕ → ℕ) (s : ℕ) (F : Edges) (c : ℕ) → T (bad S sub s F c) → (p : ℕ) × (u : ℕ) × Leads F p u × T (S p) × T (S u) × Shows sub s p u c
unfolding bad
bad→ S sub s [] c h = absurd h
bad→ S sub s (e ∷ F) c h = elim (or_split (shows S sub s e c) (bad S sub s F c) h) [
  | inl q ↦ (let r = shows→ S sub s e c q in (e.one, e.two, inl (refl, refl), r.0, r.1, r.2))
  | inr q ↦ (let r = bad→ S sub s F c q in (r.0, r.1, inr r.2, r.3, r.4, r.5))
]

bad← : (S : Set) (sub : ℕ → ℕ) (s : ℕ) (F : Edges) (c p u : ℕ) → Leads F p u → T (S p) → T (S u) → Shows sub s p u c → T (bad S sub s F c)
unfolding bad
bad← S sub s [] c p u h sp su k = absurd h
bad← S sub s (e ∷ F) c p u (inl (i, j)) sp su k = or_left (shows S sub s e c) _ (shows← S sub s e c (subst (In S) i sp) (subst (In S) j su) (rw (i, j) at k))
bad← S sub s (e ∷ F) c p u (inr h) sp su k = or_right (shows S sub s e c) _ (bad← S sub s F c p u h sp su k)

-- it reads the sizes of positions below n only
pub bad_same : (n : ℕ) (S : Set) (sub sub' : ℕ → ℕ) (s : ℕ) (F : Edges) → Below n F → ((x : ℕ) → x < n → sub x ≡ sub' x) → (c : ℕ) → bad S sub s F c ≡ bad S sub' s F c
unfolding bad shows
bad_same n S sub sub' s [] b h c = refl
bad_same n S sub sub' s (e ∷ F) b h c = rw (h e.two b.1, bad_same n S sub sub' s F b.2 h c)

module _ (n : ℕ) (S : Set) (F : Edges) (g : Grown F) (below : Below n F) (some : 0 < n) (C : Component F n S) where
  abbrev ok : Acyclic F
  ok = grown_acyclic F g

  -- a member is light when no edge shows the contrary
  pub unbad_light : (c : ℕ) → T (S c) → (T (bad S (subtree S F) (count n S) F c) → ⊥) → Light F n S c
  unbad_light c sc d = record { member = sc; halves = λ x sx x≠c. half x (to_without S c x sx x≠c) (beside F ok n S C c x sc (to_without S c x sx x≠c)) }
    where
      side : (w : ℕ) → T (S w) → Leads F c w ⊎ Leads F w c → Dec (count n S < count n (part F S c w) * 2) → count n (part F S c w) * 2 ≤ count n S
      side w sw h (no k) = omega arith
      side w sw (inl h) (yes k) = absurd (d (bad← S (subtree S F) (count n S) F c c w h sc sw (inl (refl, rw (subtree_size n S F g below some c w h sw) k))))
      side w sw (inr h) (yes k) = absurd (d (bad← S (subtree S F) (count n S) F c w c h sw sc
          (inr (refl, rw (subtree_size n S F g below some w c h sc) (omega (arith, two_parts F ok n S C w c (leads_adjacent F w c h) sw sc))))))

      half : (x : ℕ) → T (without S c x) → (w : ℕ) × Adjacent F c w × T (without S c w) × T (part F S c w x) → count n (part F S c x) * 2 ≤ count n S
      half x b (w, a, bw, h) =
          let m : count n (part F S c x) ≤ count n (part F S c w) = count_mono n _ _ (λ z l q. walk_part F S c w z (join (Adjacent F) (part_walk F S c x z b q) (part_walk F S c w x bw h))) in
          omega (arith, side w (without_in S c w bw) (adjacent_leads F c w a) (dec_lt (count n S) (count n (part F S c w) * 2)))

  -- and of a light one none does
  pub light_unbad : (c : ℕ) → Light F n S c → T (bad S (subtree S F) (count n S) F c) → ⊥
  light_unbad c h b = go (bad→ S (subtree S F) (count n S) F c b)
    where
      go : (p : ℕ) × (u : ℕ) × Leads F p u × T (S p) × T (S u) × Shows (subtree S F) (count n S) p u c → ⊥
      go (p, u, r, sp, su, k) = at k
        where
          a : Adjacent F p u
          a = leads_adjacent F p u r

          p≠u : p ≡ u → ⊥
          p≠u j = irreflexive F ok p (subst (Adjacent F p) (sym j) a)

          at : Shows (subtree S F) (count n S) p u c → ⊥
          at (inl (i, l)) = omega (arith, subtree_size n S F g below some p u r su, h.halves u su (λ j. p≠u (sym (j ∙ i))), ap (λ z. count n (part F S z u)) i)
          at (inr (i, l)) = omega (arith, subtree_size n S F g below some p u r su, two_parts F ok n S C p u a sp su, h.halves p sp (λ j. p≠u (j ∙ i)), ap (λ z. count n (part F S z p)) i)

  -- the test passes exactly the light members
  pub light_unshown : (c : ℕ) → light F n S c ≡ unshown F n S c
  unfolding unshown
  light_unshown c = T-ext (light F n S c) (S c && not (bad S (subtree S F) (count n S) F c))
      (λ h. let l = light→ F ok n S C c h in T_and (S c) _ l.member (not_T (bad S (subtree S F) (count n S) F c) (light_unbad c l)))
      (λ h. light← F ok n S C c (unbad_light c (T-left (S c) _ h) (T_not (bad S (subtree S F) (count n S) F c) (T-right (S c) _ h))))

  -- so the centre is the smallest that it passes
  pub centre_unshown : centre F n S ≡ smallest n (unshown F n S)
  unfolding centre
  centre_unshown = smallest_same n (light F n S) (unshown F n S) (λ i l. light_unshown i)
