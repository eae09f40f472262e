-- One edge is undone: which sets there are then, what is kept for them, and which edges are asked for.
use mathlib.Core.Path.{◌≡◌, refl, sym, ap, ap₂, ◌∙◌, subst}
use mathlib.Core.Logic.{◌⊎◌, inl, inr}
use mathlib.Core.List.{List, ◌∷◌}
use mathlib.Core.Bool.{Bool, true, false, not, ◌&&◌, ◌||◌}
use Prim.Native.Nat.{ℕ, ◌≤◌, ◌<◌}
use native.Mathlib.Decide.{ℕ_discrete}
use native.Mathlib.Omega.{arith}
use lib.Dec.{T, eqb}
use lib.ListN.{length, get_or, set, length-set}
use lib.Seq.{get_or-set_same, get_or-set_other, set-get_or}
use borrow.Author.Tests.{eq-eqb, ne_eqb}
use Rattle.base.specs.Pick.{pick}
use Rattle.base.specs.Sets.{bit}
use Rattle.base.proofs.Bools.{or_split, T-left, T-right}
use Rattle.tree.specs.Edges.{Edge, Edges, Ends, all, joined, Below}
use Rattle.tree.specs.Inner.{Acyclic}
use Rattle.tree.proofs.Labels.{edge_label, joined_label, label_joined}
use Rattle.tree.proofs.Relabel.{joined_more}
use Rattle.union_find.specs.Inner.{root, Top, together, Rooted}
use Rattle.union_find.proofs.Roots.{root_stays, above_root}
use Rattle.cycles.specs.Inner.{needed, numbered}
use Rattle.cycles.proofs.Joins.{join_later}
use Rattle.cycles.proofs.Steps.{needed_latest, needed_stays, needed_parts}
use Rattle.cycle_ends.specs.Inner.{pulled, projected, shifted}
use Rattle.cycle_search.specs.Inner.{Sets, cut, Undoes, Kept, SameNeed}
use Rattle.cycle_search.proofs.Sets.{sets_of, roots_joined, joined_roots, root_below, numbered_below, numbered_before, numbered_latest}

-- the latest edge, e, is undone
module _ (n : ℕ) (moved : List ℕ) (e : Edge) (E : Edges) (up' : List ℕ) (u : Undoes n moved (e ∷ E) up') (k : Acyclic (e ∷ E)) (b : Below n (e ∷ E)) (long : n ≤ length up') where
  abbrev l : ℕ
  l = get_or moved (length E) 0

  abbrev h : ℕ
  h = get_or up' l 0

  abbrev up : List ℕ
  up = cut l up'

  abbrev R' : ℕ → ℕ
  R' = root n up'

  abbrev R : ℕ → ℕ
  R = root n up

  S : Sets n E up
  S = sets_of n moved E up u.2

  pub l_below : l < n
  l_below = u.1.inside

  pub h_below : h < n
  h_below = u.0.rooted.inside l l_below

  pub cut_rooted : Rooted n up
  cut_rooted = S.rooted

  ends_apart_lem : R e.one ≡ R e.two → ⊥
  ends_apart_lem i = k.0 (roots_joined S e.one e.two b.0 b.1 i)

  e_joins : T (joined all (e ∷ E) e.one e.two)
  e_joins = label_joined all (e ∷ E) e.one e.two (edge_label all (e ∷ E) e.one e.two (inl (inl (refl, refl))) tt tt)

  roots_apart : l ≡ h → ⊥
  roots_apart i =
      let s : up ≡ up' = ap (set up' l) i ∙ set-get_or up' l 0 in
      ends_apart_lem (subst (λ (z : List ℕ). root n z e.one ≡ root n z e.two) (sym s) (joined_roots u.0 e.one e.two b.0 b.1 e_joins))

  top_l : Top up l
  top_l = get_or-set_same up' l l 0 (omega (arith, l_below))

  top_other : (r : ℕ) → (r ≡ l → ⊥) → get_or up r 0 ≡ get_or up' r 0
  top_other r d = get_or-set_other up' l r l 0 d

  top_h : Top up h
  top_h = top_other h (λ i. roots_apart (sym i)) ∙ u.1.above

  R-l : R l ≡ l
  R-l = root_stays n up l top_l

  R-h : R h ≡ h
  R-h = root_stays n up h top_h

  R'-h : R' h ≡ h
  R'-h = root_stays n up' h u.1.above

  R'-l : R' l ≡ h
  R'-l = sym (above_root n up' u.0.rooted l h l_below refl) ∙ R'-h

  -- the same root now, the same root before
  before : (x y : ℕ) → x < n → y < n → R x ≡ R y → R' x ≡ R' y
  before x y i j m = joined_roots u.0 x y i j (label_joined all (e ∷ E) x y (join_later e E x y (joined_label all E x y (roots_joined S x y i j m))))

  at_l : (x : ℕ) → x < n → R x ≡ l → R' x ≡ h
  at_l x i m = before x l i l_below (m ∙ sym R-l) ∙ R'-l

  at_h : (x : ℕ) → x < n → R x ≡ h → R' x ≡ h
  at_h x i m = before x h i h_below (m ∙ sym R-h) ∙ R'-h

  -- a root of the two sets that were one
  abbrev Part : ℕ → Type 0
  Part s = (s ≡ l) ⊎ (s ≡ h)

  at_part : (s : ℕ) → Part s → (x : ℕ) → x < n → R x ≡ s → R' x ≡ h
  at_part s (inl p) x i m = at_l x i (m ∙ p)
  at_part s (inr p) x i m = at_h x i (m ∙ p)

  pub part_dec : (s : ℕ) → Dec (Part s)
  part_dec s = go (ℕ_discrete s l) (ℕ_discrete s h)
    where
      go : Dec (s ≡ l) → Dec (s ≡ h) → Dec (Part s)
      go (yes p) q = yes (inl p)
      go (no p) (yes q) = yes (inr q)
      go (no p) (no q) = no (λ c. elim c [ inl i ↦ p i | inr i ↦ q i ])

  at_other : (x : ℕ) → x < n → (Part (R x) → ⊥) → R' x ≡ R x
  at_other x i d =
      let t : Top up (R x) = S.rooted.ends x i in
      let t' : Top up' (R x) = sym (top_other (R x) (λ p. d (inl p))) ∙ t in
      before x (R x) i (root_below S x i) (sym (root_stays n up (R x) t)) ∙ root_stays n up' (R x) t'

  -- a root of another set was one, and who was in its set is
  top_before : (r : ℕ) → (Part r → ⊥) → Top up r → Top up' r
  top_before r d t = sym (top_other r (λ p. d (inl p))) ∙ t

  still : (r : ℕ) → (Part r → ⊥) → (x : ℕ) → x < n → R' x ≡ r → R x ≡ r
  still r d x i m = go (part_dec (R x))
    where
      go : Dec (Part (R x)) → R x ≡ r
      go (yes p) = absurd (d (inr (sym m ∙ at_part (R x) p x i refl)))
      go (no p) = sym (at_other x i p) ∙ m

  -- one end of e is in each of the two sets
  abbrev Sides : Type 0
  Sides = ((R e.one ≡ l) × (R e.two ≡ h)) ⊎ ((R e.one ≡ h) × (R e.two ≡ l))

  ends_parted : Sides
  ends_parted = by (or_split (joined all E l h) (A && B) (subst T (joined_more all e E l h) (roots_joined u.0 l h l_below h_below (R'-l ∙ sym R'-h))))
    where
      l_at : (x : ℕ) → x < n → T (joined all E l x) → R x ≡ l
      l_at x i j = sym (joined_roots S l x l_below i j) ∙ R-l

      h_at : (x : ℕ) → x < n → T (joined all E h x) → R x ≡ h
      h_at x i j = sym (joined_roots S h x h_below i j) ∙ R-h

      two : T (joined all E l e.one) ⊎ T (joined all E l e.two) → T (joined all E h e.one) ⊎ T (joined all E h e.two) → Sides
      two (inl p) (inl q) = absurd (roots_apart (sym (l_at e.one b.0 p) ∙ h_at e.one b.0 q))
      two (inl p) (inr q) = inl (l_at e.one b.0 p, h_at e.two b.1 q)
      two (inr p) (inl q) = inr (h_at e.one b.0 q, l_at e.two b.1 p)
      two (inr p) (inr q) = absurd (roots_apart (sym (l_at e.two b.1 p) ∙ h_at e.two b.1 q))

      A : Bool
      A = joined all E l e.one || joined all E l e.two

      B : Bool
      B = joined all E h e.one || joined all E h e.two

      by : T (joined all E l h) ⊎ T (A && B) → Sides
      by (inl j) = absurd (roots_apart (sym R-l ∙ joined_roots S l h l_below h_below j ∙ R-h))
      by (inr j) =
          two (or_split (joined all E l e.one) (joined all E l e.two) (T-left A B j)) (or_split (joined all E h e.one) (joined all E h e.two) (T-right A B j))

  one_part : Part (R e.one)
  one_part = elim ends_parted [ inl p ↦ inl p.0 | inr p ↦ inr p.0 ]

  -- the end of e in the set of s, and the other one
  record End (s c : ℕ) : Type 0 where
    pub other : ℕ
    pub ends : Ends e c other
    pub here : R c ≡ s
    pub below : c < n

  end_of : (s : ℕ) → Part s → End s (pulled n up s e.one e.two)
  unfolding pulled
  end_of s p = go (ℕ_discrete (R e.one) s)
    where
      two_there : (R e.one ≡ s → ⊥) → Part s → Sides → R e.two ≡ s
      two_there d (inl p) (inl q) = absurd (d (q.0 ∙ sym p))
      two_there d (inl p) (inr q) = q.1 ∙ sym p
      two_there d (inr p) (inl q) = q.1 ∙ sym p
      two_there d (inr p) (inr q) = absurd (d (q.0 ∙ sym p))

      go : Dec (R e.one ≡ s) → End s (pick (eqb (R e.one) s) e.one e.two)
      go (yes i) = rw (eq-eqb (R e.one) s i) (record { other = e.two; ends = inl (refl, refl); here = i; below = b.0 })
      go (no d) = rw (ne_eqb (R e.one) s d) (record { other = e.one; ends = inr (refl, refl); here = two_there d p ends_parted; below = b.1 })

  -- ---- what is kept

  -- who is projected into the set of s lies there
  projected_here : (s : ℕ) → Part s → (x : ℕ) → x < n → (projected n up s e.one e.two x < n) × (R (projected n up s e.one e.two x) ≡ s)
  unfolding projected pulled
  projected_here s p x i = go (ℕ_discrete (R x) s)
    where
      c : ℕ
      c = pulled n up s e.one e.two

      go : Dec (R x ≡ s) → (pick (eqb (R x) s) x c < n) × (R (pick (eqb (R x) s) x c) ≡ s)
      go (yes j) = rw (eq-eqb (R x) s j) (i, j)
      go (no d) = rw (ne_eqb (R x) s d) ((end_of s p).below, (end_of s p).here)

  -- a column after both sets got theirs, projected from what was kept before
  abbrev after : List ℕ → List ℕ
  after f = shifted n up l h e.one e.two f

  module _ (f : List ℕ) (fits : n ≤ length f) where
    after_part : (s : ℕ) → Part s → get_or (after f) s 0 ≡ projected n up s e.one e.two (get_or f h 0)
    after_part s (inr p) = rw p (get_or-set_same (set f l _) h _ 0 (omega (arith, length-set f l (projected n up l e.one e.two (get_or f h 0)), h_below)))
    after_part s (inl p) = rw p (get_or-set_other (set f l _) h l _ 0 roots_apart ∙ get_or-set_same f l _ 0 (omega (arith, l_below)))

    after_other : (r : ℕ) → (Part r → ⊥) → get_or (after f) r 0 ≡ get_or f r 0
    after_other r d = get_or-set_other (set f l _) h r _ 0 (λ p. d (inr p)) ∙ get_or-set_other f l r _ 0 (λ p. d (inl p))

    abbrev Column : List ℕ → List ℕ → Type 0
    Column up f = (r : ℕ) → r < n → Top up r → (get_or f r 0 < n) × (root n up (get_or f r 0) ≡ r)

    kept_other : Column up' f → (r : ℕ) → r < n → Top up r → (Part r → ⊥) → (get_or f r 0 < n) × (R (get_or f r 0) ≡ r)
    kept_other c r i t d = let w = c r i (top_before r d t) in (w.0, still r d (get_or f r 0) w.0 w.1)

    kept_column : Column up' f → Column up (after f)
    kept_column c r i t = go (part_dec r)
      where
        go : Dec (Part r) → (get_or (after f) r 0 < n) × (R (get_or (after f) r 0) ≡ r)
        go (yes p) = rw (after_part r p) (projected_here r p (get_or f h 0) (c h h_below u.1.above).0)
        go (no d) = rw (after_other r d) (kept_other c r i t d)

  module _ (from to : List ℕ) (ff : n ≤ length from) (ft : n ≤ length to) (q : Kept n up' from to) where
    abbrev x₀ : ℕ
    x₀ = get_or from h 0

    abbrev y₀ : ℕ
    y₀ = get_or to h 0

    pub x_below : x₀ < n
    x_below = (q.first h h_below u.1.above).0

    pub y_below : y₀ < n
    y_below = (q.second h h_below u.1.above).0

    pub kept_after : Kept n up (after from) (after to)
    kept_after = record { first = kept_column from ff q.first; second = kept_column to ft q.second }

    -- an edge of one of the two sets
    need_in_part : (s : ℕ) → Part s → (j : ℕ) → j < length E → R (numbered E j).one ≡ s
        → needed (e ∷ E) x₀ y₀ j ≡ needed E (get_or (after from) s 0) (get_or (after to) s 0) j
    unfolding projected pulled
    need_in_part s p j i m =
        needed_parts e E k c w.other w.ends x₀ y₀ j i
        (roots_joined S _ c z_below w.below (m ∙ sym w.here))
        (roots_joined u.0 x₀ c x_below w.below ((q.first h h_below u.1.above).1 ∙ sym (at_part s p c w.below w.here)))
        (roots_joined u.0 y₀ c y_below w.below ((q.second h h_below u.1.above).1 ∙ sym (at_part s p c w.below w.here)))
        ∙ ap₂ (λ (x y : ℕ). needed E x y j) (same from ff x₀ x_below refl) (same to ft y₀ y_below refl)
      where
        c : ℕ
        c = pulled n up s e.one e.two

        w : End s c
        w = end_of s p

        z_below : (numbered E j).one < n
        z_below = numbered_below n E b.2 j i

        same : (f : List ℕ) → n ≤ length f → (x : ℕ) → x < n → x ≡ get_or f h 0 → pick (joined all E x c) x c ≡ get_or (after f) s 0
        same f ff x xb g =
            ap (λ (t : Bool). pick t x c) (sym (S.agree x c xb w.below) ∙ ap (eqb (R x)) w.here)
            ∙ ap (projected n up s e.one e.two) g
            ∙ sym (after_part f ff s p)

    -- an edge of another set
    need_elsewhere : (j : ℕ) → j < length E → (Part (R (numbered E j).one) → ⊥)
        → needed (e ∷ E) (get_or from (R' (numbered E j).one) 0) (get_or to (R' (numbered E j).one) 0) j
        ≡ needed E (get_or (after from) (R (numbered E j).one) 0) (get_or (after to) (R (numbered E j).one) 0) j
    need_elsewhere j i d =
        let z : ℕ = (numbered E j).one in
        let z_below : z < n = numbered_below n E b.2 j i in
        let r-below : R z < n = root_below S z z_below in
        let t : Top up (R z) = S.rooted.ends z z_below in
        let v = kept_other from ff q.first (R z) r-below t d in
        let w = kept_other to ft q.second (R z) r-below t d in
        rw (at_other z z_below d, after_other from ff (R z) d, after_other to ft (R z) d)
        (needed_stays e E k (get_or from (R z) 0) (get_or to (R z) 0) j (roots_joined S _ _ v.0 w.0 (v.1 ∙ sym w.1)) i)

    pub need_after : (G : Edges) (g g' : ℕ) → SameNeed n G g g' (e ∷ E) up' from to → SameNeed n G g g' E up (after from) (after to)
    need_after G g g' a j i = a j (omega arith) ∙ ap (λ (d : Edge). needed (e ∷ E) (get_or from (R' d.one) 0) (get_or to (R' d.one) 0) j) (numbered_before e E j i) ∙ go (part_dec (R (numbered E j).one))
      where
        z : ℕ
        z = (numbered E j).one

        go : Dec (Part (R z)) → needed (e ∷ E) (get_or from (R' z) 0) (get_or to (R' z) 0) j ≡ needed E (get_or (after from) (R z) 0) (get_or (after to) (R z) 0) j
        go (yes p) =
            ap (λ (r : ℕ). needed (e ∷ E) (get_or from r 0) (get_or to r 0) j) (at_part (R z) p z (numbered_below n E b.2 j i) refl)
            ∙ need_in_part (R z) p j i refl
        go (no d) = need_elsewhere j i d

    -- the mark of e
    pub mark_of : (G : Edges) (g g' : ℕ) → SameNeed n G g g' (e ∷ E) up' from to → pick (together n up x₀ y₀) 0 1 ≡ bit (needed G g g' (length E))
    mark_of G g g' a =
        flip (together n up x₀ y₀)
        ∙ ap (λ (t : Bool). bit (not t)) (S.agree x₀ y₀ x_below y_below)
        ∙ ap bit (sym (needed_latest e E x₀ y₀))
        ∙ ap (λ (r : ℕ). bit (needed (e ∷ E) (get_or from r 0) (get_or to r 0) (length E))) (sym (at_part (R e.one) one_part e.one b.0 refl))
        ∙ ap (λ (d : Edge). bit (needed (e ∷ E) (get_or from (R' d.one) 0) (get_or to (R' d.one) 0) (length E))) (sym (numbered_latest e E))
        ∙ ap bit (sym (a (length E) (omega arith)))
      where
        flip : (t : Bool) → pick t 0 1 ≡ bit (not t)
        flip true = refl
        flip false = refl
