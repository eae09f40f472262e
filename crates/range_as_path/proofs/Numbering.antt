-- Edges numbered along a path: their growth order is so too, and n - 1 of them have no ring and at most two edges at each position.
use mathlib.Core.Path.{◌≡◌, refl, sym, subst}
use mathlib.Core.Logic.{◌⊎◌, inl, inr}
use mathlib.Core.List.{[], ◌∷◌}
use mathlib.Core.Bool.{◌||◌}
use Prim.Native.Nat.{ℕ, zero, suc, ◌-◌, ◌≤◌, ◌<◌}
use native.Mathlib.Decide.{dec_lt}
use native.Mathlib.Omega.{arith}
use lib.Dec.{T, eqb, eqb→eq, eqb_refl}
use lib.ListN.{length}
use Rattle.base.specs.Sets.{Set, count}
use Rattle.base.proofs.Bools.{or_left, or_right}
use Rattle.base.proofs.Counts.{count_mono, count_cover, count_one, count_all, count_none}
use Rattle.tree.specs.Walk.{Walk, here, step}
use Rattle.tree.specs.Edges.{Edge, Edges, Ends, Adjacent, adjacent, all, joined, edges_at, Below}
use Rattle.tree.specs.Inner.{In, Acyclic}
use Rattle.tree.specs.Path.{path_edges}
use Rattle.tree.specs.Growth.{growth_order}
use Rattle.tree.proofs.Walks.{join, back}
use Rattle.tree.proofs.Edges.{flip, adjacent→, adjacent←}
use Rattle.tree.proofs.Labels.{joined_walk}
use Rattle.tree.proofs.GrowthOrder.{order_grown, order_adjacent}
use Rattle.tree.proofs.GrowthComplete.{order_reach, walk_from_zero, edges_at_count}
use Rattle.tree.proofs.PathEdges.{path_below, path_acyclic, path_degree}
use Rattle.range_as_path.specs.Twin.{NextBelow, Numbered}
use Rattle.range_as_path.proofs.Geometry.{path_numbered}

-- ---- edges of the path

-- they join none but neighbouring numbers below n
abbrev pub Within : ℕ → Edges → Type 0
Within n E = (x y : ℕ) → Adjacent E x y → NextBelow n x y

pub within_below : (n : ℕ) (E : Edges) → Within n E → Below n E
within_below n [] h = tt
within_below n (e ∷ E) h = let b = h e.one e.two (inl (inl (refl, refl))) in (b.1, b.2, within_below n E (λ x y a. h x y (inr a)))

-- a walk from a to b passes from each x between them to x + 1
crossing : (n : ℕ) (E : Edges) → Within n E → {P : ℕ → Type 0} {a b : ℕ} → Walk (Adjacent E) P a b → (x : ℕ) → a ≤ x → x < b → Adjacent E x (suc x)
crossing n E h (here p) x l m = absurd (omega arith)
crossing n E h (step {x = a} {y = c} p e w) x l m = go (dec_lt x c) (h a c e).0 (λ l. crossing n E h w x l m)
  where
    go : Dec (x < c) → (c ≡ suc a) ⊎ (a ≡ suc c) → (c ≤ x → Adjacent E x (suc x)) → Adjacent E x (suc x)
    go (no d) k ih = ih (omega arith)
    go (yes d) (inr k) ih = absurd (omega arith)
    go (yes d) (inl k) ih =
        let i : a ≡ x = omega arith in
        let j : c ≡ suc x = omega arith in
        subst (Adjacent E x) j (subst (λ (y : ℕ). Adjacent E y c) i e)

-- ---- growth order

-- 0 is joined to each position
numbered_walk : (n : ℕ) (E : Edges) → Numbered n E → (x : ℕ) → x < n → Walk (Adjacent E) (λ _. Unit {0}) 0 x
numbered_walk n E h zero l = here tt
numbered_walk n E h (suc x) l = join (Adjacent E) (numbered_walk n E h x (omega arith)) (step tt ((h x (suc x)).1 (inl refl, omega arith, l)) (here tt))

-- the edges in growth order are numbered along the same path
pub order_numbered : (n : ℕ) (E : Edges) → Numbered n E → Numbered n (growth_order E)
order_numbered n E h x y = (λ a. (h x y).0 (order_adjacent E x y a), from)
  where
    F : Edges
    F = growth_order E

    within : Within n F
    within x y a = (h x y).0 (order_adjacent E x y a)

    link : (x : ℕ) → suc x < n → Adjacent F x (suc x)
    link x l =
        crossing n F within
        (walk_from_zero F (order_grown E) (suc x)
        (order_reach E (suc x) (numbered_walk n E h (suc x) l)))
        x (omega arith) (omega arith)

    from : NextBelow n x y → Adjacent F x y
    from (inl e, k, l) = subst (Adjacent F x) (sym e) (link x (omega arith))
    from (inr e, k, l) = subst (λ (z : ℕ). Adjacent F z y) (sym e) (flip F y (suc y) (link y (omega arith)))

-- ---- at most two edges at each position

pub within_degree : (n : ℕ) (E : Edges) → 0 < n → Within n E → Acyclic E → (c : ℕ) → edges_at E c ≤ 2
within_degree n E l h k c =
    let m : suc (n - 1) ≡ n = omega arith in
    let b : Below n (path_edges (n - 1)) = subst (λ (z : ℕ). Below z (path_edges (n - 1))) m (path_below (n - 1)) in
    let s : count n (adjacent E c) ≤ count n (adjacent (path_edges (n - 1)) c) =
    count_mono n (adjacent E c) (adjacent (path_edges (n - 1)) c)
    (λ y _ t. adjacent← (path_edges (n - 1)) c y ((path_numbered n c y).1 (h c y (adjacent→ E c y t))))
    in
    omega (
      arith,
      edges_at_count n E (within_below n E h) k c,
      edges_at_count n (path_edges (n - 1)) b (path_acyclic (n - 1)) c,
      path_degree (n - 1) c,
    )

-- ---- as many edges as the path has: no ring

-- the positions below m that an edge joins to the next
abbrev links : Edges → Set
links E x = adjacent E x (suc x)

-- the lower end of an edge
lower : (n : ℕ) (e : Edge) (E : Edges) → Within n (e ∷ E) → (k : ℕ) × ((x : ℕ) → Ends e x (suc x) → x ≡ k)
lower n e E h = go (h e.one e.two (inl (inl (refl, refl)))).0
  where
    first : e.two ≡ suc e.one → (x : ℕ) → Ends e x (suc x) → x ≡ e.one
    first i x (inl (j, k)) = j
    first i x (inr (j, k)) = omega arith

    second : e.one ≡ suc e.two → (x : ℕ) → Ends e x (suc x) → x ≡ e.two
    second i x (inl (j, k)) = omega arith
    second i x (inr (j, k)) = j

    go : (e.two ≡ suc e.one) ⊎ (e.one ≡ suc e.two) → (k : ℕ) × ((x : ℕ) → Ends e x (suc x) → x ≡ k)
    go (inl i) = (e.one, first i)
    go (inr i) = (e.two, second i)

-- one edge more joins at most one position more to the next
links_more : (m n : ℕ) (e : Edge) (E : Edges) → Within n (e ∷ E) → count m (links (e ∷ E)) ≤ suc (count m (links E))
links_more m n e E h =
    let k = lower n e E h in
    omega (
      arith,
      count_cover m (links (e ∷ E)) (links E) (λ x. eqb x k.0) (λ x _ t. either x k.0 (k.1 x) (adjacent→ (e ∷ E) x (suc x) t)),
      count_one m (λ x. eqb x k.0) k.0 (λ x t. eqb→eq x k.0 t),
    )
  where
    either : (x k : ℕ) → (Ends e x (suc x) → x ≡ k) → Adjacent (e ∷ E) x (suc x) → T (links E x || eqb x k)
    either x k f (inl d) = or_right (links E x) (eqb x k) (subst (λ (z : ℕ). T (eqb x z)) (f d) (eqb_refl x))
    either x k f (inr a) = or_left (links E x) (eqb x k) (adjacent← E x (suc x) a)

-- and none, if it is there already
links_same : (m n : ℕ) (e : Edge) (E : Edges) → Within n (e ∷ E) → Adjacent E e.one e.two → count m (links (e ∷ E)) ≤ count m (links E)
links_same m n e E h a = count_mono m (links (e ∷ E)) (links E) (λ x _ t. adjacent← E x (suc x) (old x (adjacent→ (e ∷ E) x (suc x) t)))
  where
    old : (x : ℕ) → Adjacent (e ∷ E) x (suc x) → Adjacent E x (suc x)
    old x (inl (inl (j, k))) = subst (λ (z : ℕ). Adjacent E z (suc x)) (sym j) (subst (Adjacent E e.one) (sym k) a)
    old x (inl (inr (j, k))) = flip E (suc x) x (subst (λ (z : ℕ). Adjacent E z x) (sym k) (subst (Adjacent E e.one) (sym j) a))
    old x (inr b) = b

links_few : (m n : ℕ) (E : Edges) → Within n E → count m (links E) ≤ length E
links_few m n [] h = omega (arith, count_none m (links []) (λ x _ t. adjacent→ [] x (suc x) t))
links_few m n (e ∷ E) h = omega (arith, links_more m n e E h, links_few m n E (λ x y a. h x y (inr a)))

-- an edge that is in a ring with others is there already
ring_old : (n : ℕ) (e : Edge) (E : Edges) → Within n (e ∷ E) → T (joined all E e.one e.two) → Adjacent E e.one e.two
ring_old n e E h t = go (h e.one e.two (inl (inl (refl, refl)))).0 (joined_walk all E e.one e.two tt tt t)
  where
    within : Within n E
    within x y a = h x y (inr a)

    go : (e.two ≡ suc e.one) ⊎ (e.one ≡ suc e.two) → Walk (Adjacent E) (In all) e.one e.two → Adjacent E e.one e.two
    go (inl i) w = subst (Adjacent E e.one) (sym i) (crossing n E within w e.one (omega arith) (omega arith))
    go (inr i) w =
        flip E e.two e.one (subst (Adjacent E e.two) (sym i) (crossing n E within (back (Adjacent E) (flip E) w) e.two (omega arith) (omega arith)))

links_acyclic : (m n : ℕ) (E : Edges) → Within n E → length E ≤ count m (links E) → Acyclic E
links_acyclic m n [] h l = tt
links_acyclic m n (e ∷ E) h l = (
  λ t. omega (arith, links_same m n e E h (ring_old n e E h t), links_few m n E (λ x y a. h x y (inr a))),
  links_acyclic m n E (λ x y a. h x y (inr a)) (omega (arith, links_more m n e E h)),
)

pub numbered_acyclic : (n : ℕ) (E : Edges) → Numbered n E → length E ≡ n - 1 → Acyclic E
numbered_acyclic n E h l =
    links_acyclic (n - 1) n E (λ x y. (h x y).0)
    (omega (arith, count_all (n - 1) (links E) (λ x k. adjacent← E x (suc x) ((h x (suc x)).1 (inl refl, omega arith, omega arith)))))
