-- Labels: two members of a set have the same label exactly when a walk inside the set joins them.
use mathlib.Core.Path.{◌≡◌, refl, sym, ap, ◌∙◌, subst}
use mathlib.Core.Logic.{◌⊎◌, inl, inr}
use mathlib.Core.List.{[], ◌∷◌}
use mathlib.Core.Bool.{Bool, true, false, ◌&&◌}
use Prim.Native.Nat.{ℕ}
use lib.Dec.{T, eqb, eqb→eq, eqb_refl}
use Rattle.base.specs.Pick.{pick}
use Rattle.base.specs.Sets.{Set}
use Rattle.base.proofs.Bools.{T_and, T-left, T-right, T→true}
use Rattle.tree.specs.Walk.{Walk, here, step}
use Rattle.tree.specs.Edges.{Edge, Edges, Adjacent, all, label, joined}
use Rattle.tree.specs.Inner.{In}
use Rattle.tree.proofs.Walks.{mono, first, join}
use Rattle.tree.proofs.Edges.{more}

-- the label z after an edge whose ends had labels p and q, if it lies inside: q becomes p
abbrev pub relabel : Bool → ℕ → ℕ → ℕ → ℕ
relabel b p q z = pick (b && eqb z q) p z

-- what it does
pub data Relabelled (p q z : ℕ) : ℕ → Type 0 where
  moved : z ≡ q → Relabelled p q z p
  kept : (z ≡ q → ⊥) → Relabelled p q z z

pub relabelled : (p q z : ℕ) → Relabelled p q z (relabel true p q z)
relabelled p q z = go (eqb z q) refl
  where
    go : (b : Bool) → eqb z q ≡ b → Relabelled p q z (pick b p z)
    go true e = moved (eqb→eq z q (subst T (sym e) tt))
    go false e = kept (λ i. subst T e (subst (λ y. T (eqb z y)) i (eqb_refl z)))

-- two labels that become equal
abbrev Merged : ℕ → ℕ → ℕ → ℕ → Type 0
Merged p q y z = (y ≡ z) ⊎ ((y ≡ q) × (z ≡ p)) ⊎ ((y ≡ p) × (z ≡ q))

merged : (p q y z : ℕ) → relabel true p q y ≡ relabel true p q z → Merged p q y z
merged p q y z h = go (relabel true p q y) (relabel true p q z) (relabelled p q y) (relabelled p q z) h
  where
    go : (a b : ℕ) → Relabelled p q y a → Relabelled p q z b → a ≡ b → Merged p q y z
    go a b (moved i) (moved j) h = inl (i ∙ sym j)
    go a b (moved i) (kept j) h = inr (inl (i, sym h))
    go a b (kept i) (moved j) h = inr (inr (h, j))
    go a b (kept i) (kept j) h = inl h

same : (p q : ℕ) → relabel true p q p ≡ relabel true p q q
same p q = go (relabel true p q p) (relabel true p q q) (relabelled p q p) (relabelled p q q)
  where
    go : (a b : ℕ) → Relabelled p q p a → Relabelled p q q b → a ≡ b
    go a b (moved i) (moved j) = refl
    go a b (moved i) (kept j) = absurd (j refl)
    go a b (kept i) (moved j) = refl
    go a b (kept i) (kept j) = absurd (j refl)

-- an edge inside S gives its ends one label
pub edge_label : (S : Set) (E : Edges) (x y : ℕ) → Adjacent E x y → T (S x) → T (S y) → label S E x ≡ label S E y
unfolding label
edge_label S [] x y h p q = absurd h
edge_label S (e ∷ E) x y (inr h) p q = ap (relabel (S e.one && S e.two) (label S E e.one) (label S E e.two)) (edge_label S E x y h p q)
edge_label S (e ∷ E) x y (inl (inl (i, j))) p q =
    let t : S e.one && S e.two ≡ true = T→true _ (T_and (S e.one) (S e.two) (subst (In S) i p) (subst (In S) j q)) in
    rw (i, j, t) (same (label S E e.one) (label S E e.two))
edge_label S (e ∷ E) x y (inl (inr (i, j))) p q =
    let t : S e.one && S e.two ≡ true = T→true _ (T_and (S e.one) (S e.two) (subst (In S) j q) (subst (In S) i p)) in
    rw (i, j, t) (sym (same (label S E e.one) (label S E e.two)))

-- a walk inside S gives its ends one label
pub walk_label : (S : Set) (E : Edges) {x y : ℕ} → Walk (Adjacent E) (In S) x y → label S E x ≡ label S E y
walk_label S E (here p) = refl
walk_label S E (step {x = x} {y = y} p h w) = edge_label S E x y h p (first (Adjacent E) w) ∙ walk_label S E w

-- members of one label are joined by a walk
pub label_walk : (S : Set) (E : Edges) (x y : ℕ) → T (S x) → T (S y) → label S E x ≡ label S E y → Walk (Adjacent E) (In S) x y
unfolding label
label_walk S [] x y p q h = subst (Walk (Adjacent []) (In S) x) h (here p)
label_walk S (e ∷ E) x y p q h = go (S e.one && S e.two) refl h (label_walk S E)
  where
    W : ℕ → ℕ → Type 0
    W = Walk (Adjacent (e ∷ E)) (In S)

    go : (b : Bool) → S e.one && S e.two ≡ b
        → relabel b (label S E e.one) (label S E e.two) (label S E x) ≡ relabel b (label S E e.one) (label S E e.two) (label S E y)
        → ((x y : ℕ) → T (S x) → T (S y) → label S E x ≡ label S E y → Walk (Adjacent E) (In S) x y) → W x y
    go false i h ih = more e E (ih x y p q h)
    go true i h ih = by (merged (label S E e.one) (label S E e.two) (label S E x) (label S E y) h)
      where
        a : T (S e.one)
        a = T-left (S e.one) (S e.two) (subst T (sym i) tt)

        b : T (S e.two)
        b = T-right (S e.one) (S e.two) (subst T (sym i) tt)

        by : Merged (label S E e.one) (label S E e.two) (label S E x) (label S E y) → W x y
        by (inl k) = more e E (ih x y p q k)
        by (inr (inl (k, l))) = join (Adjacent (e ∷ E)) (more e E (ih x e.two p b k)) (step b (inl (inr (refl, refl))) (more e E (ih e.one y a q (sym l))))
        by (inr (inr (k, l))) = join (Adjacent (e ∷ E)) (more e E (ih x e.one p a k)) (step a (inl (inl (refl, refl))) (more e E (ih e.two y b q (sym l))))

-- the test `joined` as an equation of labels
pub joined_label : (S : Set) (E : Edges) (x y : ℕ) → T (joined S E x y) → label S E x ≡ label S E y
unfolding joined
joined_label S E x y h = eqb→eq (label S E x) (label S E y) h

pub label_joined : (S : Set) (E : Edges) (x y : ℕ) → label S E x ≡ label S E y → T (joined S E x y)
unfolding joined
label_joined S E x y h = subst (λ z. T (eqb (label S E x) z)) h (eqb_refl (label S E x))

-- members of S that the test joins are joined by a walk inside S, and only they
pub joined_walk : (S : Set) (E : Edges) (x y : ℕ) → T (S x) → T (S y) → T (joined S E x y) → Walk (Adjacent E) (In S) x y
joined_walk S E x y p q h = label_walk S E x y p q (joined_label S E x y h)

pub walk_joined : (S : Set) (E : Edges) (x y : ℕ) → Walk (Adjacent E) (In S) x y → T (joined S E x y)
walk_joined S E x y w = label_joined S E x y (walk_label S E w)

-- the same label inside a smaller set
pub wider : (S : Set) (E : Edges) (x y : ℕ) → T (S x) → T (S y) → label S E x ≡ label S E y → label all E x ≡ label all E y
wider S E x y p q h = walk_label all E (mono (Adjacent E) (λ z r. tt) (label_walk S E x y p q h))

-- the ends of an edge e inside S had the labels of x and y
abbrev pub Across : Set → Edges → Edge → ℕ → ℕ → Type 0
Across S E e x y = T (S e.one) × T (S e.two) × (label S E x ≡ label S E e.one) × (label S E y ≡ label S E e.two)

-- two labels are equal after an edge: they were, or the edge joins them
pub label_step : (S : Set) (e : Edge) (E : Edges) (x y : ℕ) → label S (e ∷ E) x ≡ label S (e ∷ E) y
    → (label S E x ≡ label S E y) ⊎ Across S E e y x ⊎ Across S E e x y
unfolding label
label_step S e E x y h = go (S e.one) (S e.two) refl refl h
  where
    p : ℕ
    p = label S E e.one

    q : ℕ
    q = label S E e.two

    go : (a b : Bool) → S e.one ≡ a → S e.two ≡ b → relabel (a && b) p q (label S E x) ≡ relabel (a && b) p q (label S E y)
        → (label S E x ≡ label S E y) ⊎ (T a × T b × (label S E y ≡ p) × (label S E x ≡ q)) ⊎ (T a × T b × (label S E x ≡ p) × (label S E y ≡ q))
    go false b i j h = inl h
    go true false i j h = inl h
    go true true i j h = elim (merged p q (label S E x) (label S E y) h) [ inl k ↦ inl k | inr (inl (k, l)) ↦ inr (inl (tt, tt, l, k)) | inr (inr (k, l)) ↦ inr (inr (tt, tt, k, l)) ]

-- a member's label is a member
pub label_inside : (S : Set) (E : Edges) (x : ℕ) → T (S x) → T (S (label S E x))
unfolding label
label_inside S [] x p = p
label_inside S (e ∷ E) x p = go (S e.one && S e.two) refl (label_inside S E)
  where
    go : (b : Bool) → S e.one && S e.two ≡ b → ((x : ℕ) → T (S x) → T (S (label S E x))) → T (S (relabel b (label S E e.one) (label S E e.two) (label S E x)))
    go false i ih = ih x p
    go true i ih = at (relabel true (label S E e.one) (label S E e.two) (label S E x)) (relabelled _ _ _)
      where
        at : (y : ℕ) → Relabelled (label S E e.one) (label S E e.two) (label S E x) y → T (S y)
        at y (moved j) = ih e.one (T-left (S e.one) (S e.two) (subst T (sym i) tt))
        at y (kept j) = ih x p

-- every other position is its own label
pub label_outside : (S : Set) (E : Edges) (x : ℕ) → (T (S x) → ⊥) → label S E x ≡ x
unfolding label
label_outside S [] x d = refl
label_outside S (e ∷ E) x d = go (S e.one && S e.two) refl (label_outside S E x d)
  where
    go : (b : Bool) → S e.one && S e.two ≡ b → label S E x ≡ x → relabel b (label S E e.one) (label S E e.two) (label S E x) ≡ x
    go false i ih = ih
    go true i ih = at (relabel true (label S E e.one) (label S E e.two) (label S E x)) (relabelled _ _ _)
      where
        at : (y : ℕ) → Relabelled (label S E e.one) (label S E e.two) (label S E x) y → y ≡ x
        at y (moved j) = absurd (d (subst (In S) (sym j ∙ ih) (label_inside S E e.two (T-right (S e.one) (S e.two) (subst T (sym i) tt)))))
        at y (kept j) = ih
