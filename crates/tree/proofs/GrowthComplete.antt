-- The growth order reaches every position that the edges join to 0, and keeps every edge.
use mathlib.Core.Path.{◌≡◌, refl, sym, ap, ◌∙◌, subst}
use mathlib.Core.Logic.{◌⊎◌, inl, inr}
use mathlib.Core.List.{[], ◌∷◌}
use mathlib.Core.Bool.{Bool, true, false, ◌&&◌, ◌||◌}
use Prim.Native.Nat.{ℕ, suc, ◌-◌, ◌≤◌, ◌<◌}
use native.Mathlib.Decide.{ℕ_discrete}
use native.Mathlib.Omega.{arith}
use lib.Dec.{T, eqb, eqb→eq, eqb_refl, lt→ltb}
use lib.ListN.{length}
use Rattle.base.specs.Sets.{bit, count}
use Rattle.base.proofs.Bools.{T-left, T-right, T→true, not-T→false, T-ext, or_split, or_left}
use Rattle.base.proofs.Counts.{count_le, count_or_and, count_same, count_more, count_none, count_single, count_all}
use Rattle.tree.specs.Walk.{Walk, here, step, Not}
use Rattle.tree.specs.Edges.{Edge, Edges, Ends, Adjacent, ends, adjacent, all, label, edges_at, Below}
use Rattle.tree.specs.Inner.{In, Acyclic, Grown}
use Rattle.tree.specs.Component.{upto}
use Rattle.tree.specs.Growth.{reached, growth_order}
use Rattle.tree.proofs.Walks.{mono, join, back, gate}
use Rattle.tree.proofs.Edges.{flip, more, adjacent_below, adjacent→, adjacent←}
use Rattle.tree.proofs.Labels.{edge_label}
use Rattle.tree.proofs.Acyclic.{apart_ends, irreflexive, bridge}
use Rattle.tree.proofs.Whole.{whole}
use Rattle.tree.proofs.Growth.{reached_zero, reached_new, reached_old, reached_split, grown_acyclic}
use Rattle.tree.proofs.GrowthOrder.{Settled, order_grown, order_adjacent, order_below, order_settled}

-- ---- how many positions are reached

-- one more than there are edges
pub reached_count : (n : ℕ) (F : Edges) → 0 < n → Below n F → Grown F → count n (reached F) ≡ suc (length F)
unfolding reached
reached_count n [] l b g = count_single n (reached []) 0 l (eqb_refl 0) (λ i p. eqb→eq i 0 p)
reached_count n (e ∷ F) l b g =
    count_more n (reached F) (reached (e ∷ F)) e.two b.1 (not-T→false (reached F e.two) g.1) (T→true (reached (e ∷ F) e.two) (reached_new e F))
    (λ i d. T-ext (reached (e ∷ F) i) (reached F i) (λ p. elim (reached_split e F i p) [ inl k ↦ absurd (d k) | inr k ↦ k ]) (reached_old e F i))
    ∙ ap suc (reached_count n F l b.2 g.2)

-- fewer edges than positions
pub grown_short : (n : ℕ) (F : Edges) → 0 < n → Below n F → Grown F → length F < n
grown_short n F l b g = omega (arith, reached_count n F l b g, count_le n (reached F))

-- where every position is reached there are n - 1
pub full_length : (n : ℕ) (F : Edges) → 0 < n → Below n F → Grown F → ((x : ℕ) → x < n → T (reached F x)) → length F ≡ n - 1
full_length n F l b g h = omega (arith, reached_count n F l b g, count_all n (reached F) h)

-- ---- all that is joined to 0 is reached

-- where no edge leads on, a walk stays in what is reached
pub settled_walk : (E F : Edges) {P : ℕ → Type 0} {x y : ℕ} → Settled E F → Walk (Adjacent E) P x y → T (reached F x) → T (reached F y)
settled_walk E F s (here p) r = r
settled_walk E F s (step {x = x} {y = z} p e w) r = settled_walk E F s w (s x z e r)

pub order_reach : (E : Edges) {P : ℕ → Type 0} (x : ℕ) → Walk (Adjacent E) P 0 x → T (reached (growth_order E) x)
order_reach E x w = settled_walk E (growth_order E) (order_settled E) w (reached_zero (growth_order E))

-- edges in growth order join 0 to all that they reach
pub walk_from_zero : (F : Edges) → Grown F → (x : ℕ) → T (reached F x) → Walk (Adjacent F) (In all) 0 x
unfolding reached
walk_from_zero [] g x r = subst (Walk (Adjacent []) (In all) 0) (sym (eqb→eq x 0 r)) (here tt)
walk_from_zero (e ∷ F) g x r = go (reached_split e F x r) (walk_from_zero F g.2)
  where
    go : (x ≡ e.two) ⊎ T (reached F x) → ((x : ℕ) → T (reached F x) → Walk (Adjacent F) (In all) 0 x) → Walk (Adjacent (e ∷ F)) (In all) 0 x
    go (inl i) ih = subst (Walk (Adjacent (e ∷ F)) (In all) 0) (sym i) (join (Adjacent (e ∷ F)) (more e F (ih e.one g.0)) (step tt (inl (inl (refl, refl))) (here tt)))
    go (inr p) ih = more e F (ih x p)

-- ---- no edge is lost

-- F's edges are of E, which has no ring, and F joins what they do: then all of E's edges are F's
pub same_edges : (E F : Edges) → Acyclic E → Grown F → ((x y : ℕ) → Adjacent F x y → Adjacent E x y) → (x y : ℕ) → Adjacent E x y → T (reached F x) → T (reached F y) → Adjacent F x y
same_edges E F k g i x y h rx ry = go (gate (Adjacent F) (join (Adjacent F) (back (Adjacent F) (flip F) (walk_from_zero F g y ry)) (walk_from_zero F g x rx)) y≠x)
  where
    y≠x : Not x y
    y≠x e = irreflexive E k x (subst (Adjacent E x) e h)

    whole : {P : ℕ → Type 0} {x y : ℕ} → Walk (Adjacent F) P x y → Walk (Adjacent E) P x y
    whole (here p) = here p
    whole (step {x = x} {y = y} p e w) = step p (i x y e) (whole w)

    go : (w : ℕ) × Adjacent F w x × Walk (Adjacent F) (λ v. T (all v) × Not x v) y w → Adjacent F x y
    go (w, a, v) = near (ℕ_discrete w y)
      where
        near : Dec (w ≡ y) → Adjacent F x y
        near (yes e) = flip F y x (subst (λ z. Adjacent F z x) e a)
        near (no d) = absurd (bridge E k x y w h (back (Adjacent E) (flip E) (whole (mono (Adjacent F) (λ z r. r.1) v))) (step d (i w x a) (here (λ e. y≠x (sym e)))))

-- ---- edges at a position

-- one edge gives its ends one neighbour each
ends_count : (n : ℕ) (e : Edge) (c : ℕ) → e.one < n → e.two < n → (e.one ≡ e.two → ⊥) → count n (ends e c) ≡ bit (eqb c e.one || eqb c e.two)
unfolding ends
ends_count n e c lp lq d = go (eqb c p) (eqb c q) refl refl
  where
    p : ℕ
    p = e.one

    q : ℕ
    q = e.two

    go : (a b : Bool) → eqb c p ≡ a → eqb c q ≡ b → count n (λ w. (a && eqb w q) || (b && eqb w p)) ≡ bit (a || b)
    go true true i j = absurd (d (sym (eqb→eq c p (subst T (sym i) tt)) ∙ eqb→eq c q (subst T (sym j) tt)))
    go true false i j = count_single n (λ w. eqb w q || false) q lq (or_left (eqb q q) false (eqb_refl q)) (λ w h. elim (or_split (eqb w q) false h) [ inl k ↦ eqb→eq w q k | inr k ↦ absurd k ])
    go false true i j = count_single n (λ w. eqb w p) p lp (eqb_refl p) (λ w h. eqb→eq w p h)
    go false false i j = count_none n (λ _. false) (λ _ _ h. h)

ends→ : (e : Edge) (x y : ℕ) → T (ends e x y) → Ends e x y
unfolding adjacent
ends→ e x y h = elim (adjacent→ (e ∷ []) x y (or_left (ends e x y) false h)) [ inl k ↦ k | inr k ↦ absurd k ]

-- without a ring, a position has as many edges as neighbours
pub edges_at_count : (n : ℕ) (E : Edges) → Below n E → Acyclic E → (c : ℕ) → edges_at E c ≡ count n (adjacent E c)
unfolding edges_at adjacent
edges_at_count n [] b k c = sym (count_none n (λ _. false) (λ _ _ h. h))
edges_at_count n (e ∷ E) b k c =
    omega (
      arith,
      ends_count n e c b.0 b.1 (λ i. apart_ends e E k (ap (label all E) i)),
      edges_at_count n E b.2 k.1 c,
      count_or_and n (ends e c) (adjacent E c),
      count_none n (λ w. ends e c w && adjacent E c w) (λ w l h. twice w (ends→ e c w (T-left (ends e c w) _ h)) (adjacent→ E c w (T-right (ends e c w) _ h))),
    )
  where
    twice : (w : ℕ) → Ends e c w → Adjacent E c w → ⊥
    twice w (inl (i, j)) h = apart_ends e E k (ap (label all E) (sym i) ∙ edge_label all E c w h tt tt ∙ ap (label all E) j)
    twice w (inr (i, j)) h = apart_ends e E k (ap (label all E) (sym j) ∙ sym (edge_label all E c w h tt tt) ∙ ap (label all E) i)

-- lists with the same neighbours, and no ring, have as many edges at each position
pub edges_at_same : (n : ℕ) (E F : Edges) → Below n E → Below n F → Acyclic E → Acyclic F → ((x y : ℕ) → Adjacent E x y → Adjacent F x y) → ((x y : ℕ) → Adjacent F x y → Adjacent E x y)
    → (x : ℕ) → edges_at F x ≡ edges_at E x
edges_at_same n E F b c k g to of x =
    edges_at_count n F c g x
    ∙ count_same n (adjacent F x) (adjacent E x) (λ y l. T-ext (adjacent F x y) (adjacent E x y) (λ h. adjacent← E x y (of x y (adjacent→ F x y h))) (λ h. adjacent← F x y (to x y (adjacent→ E x y h))))
    ∙ sym (edges_at_count n E b k x)

-- ---- a plan whose edges have no ring and join 0 to each of its n positions

module _ (n : ℕ) (E : Edges) (some : 0 < n) (below : Below n E) (acyclic : Acyclic E) {P : ℕ → Type 0} (walks : (x : ℕ) → x < n → Walk (Adjacent E) P 0 x) where
  -- every position is reached
  pub complete_reached : (x : ℕ) → x < n → T (reached (growth_order E) x)
  complete_reached x l = order_reach E x (walks x l)

  -- all n - 1 edges are found
  pub complete_length : length (growth_order E) ≡ n - 1
  complete_length = full_length n (growth_order E) some (order_below n E below) (order_grown E) complete_reached

  -- none is lost
  pub complete_adjacent : (x y : ℕ) → Adjacent E x y → Adjacent (growth_order E) x y
  complete_adjacent x y h =
      same_edges E (growth_order E) acyclic (order_grown E) (order_adjacent E) x y h
      (complete_reached x (adjacent_below n E below y x (flip E x y h))) (complete_reached y (adjacent_below n E below x y h))

  -- each position has as many edges as before
  pub complete_edges_at : (x : ℕ) → edges_at (growth_order E) x ≡ edges_at E x
  complete_edges_at =
      edges_at_same n E (growth_order E) below (order_below n E below) acyclic (grown_acyclic (growth_order E) (order_grown E)) complete_adjacent (order_adjacent E)

-- ---- a plan of n positions with n - 1 edges and no ring

module _ (n : ℕ) (E : Edges) (some : 0 < n) (below : Below n E) (acyclic : Acyclic E) (many : length E ≡ n - 1) where
  -- its edges join 0 to each position
  pub tree_walk : (x : ℕ) → x < n → Walk (Adjacent E) (In (upto n)) 0 x
  unfolding upto
  tree_walk x l = (whole n E below acyclic some (omega arith)).connected 0 x (lt→ltb 0 n some) (lt→ltb x n l)

  pub tree_reached : (x : ℕ) → x < n → T (reached (growth_order E) x)
  tree_reached = complete_reached n E some below acyclic tree_walk

  pub tree_length : length (growth_order E) ≡ n - 1
  tree_length = complete_length n E some below acyclic tree_walk

  pub tree_adjacent : (x y : ℕ) → Adjacent E x y → Adjacent (growth_order E) x y
  tree_adjacent = complete_adjacent n E some below acyclic tree_walk

  pub tree_edges_at : (x : ℕ) → edges_at (growth_order E) x ≡ edges_at E x
  tree_edges_at = complete_edges_at n E some below acyclic tree_walk
