-- The growth order of edges: its rows are in growth order and are edges of the plan, no edge leads on from them, and edges in growth order already stay
-- as they are.
use mathlib.Core.Path.{◌≡◌, refl, sym, ap, ◌∙◌, subst}
use mathlib.Core.Logic.{◌⊎◌, inl, inr}
use mathlib.Core.List.{List, [], ◌∷◌}
use mathlib.Core.Bool.{Bool, true, false}
use Prim.Native.Nat.{ℕ, zero, suc, ◌+◌, ◌≤◌, ◌<◌}
use native.Mathlib.Decide.{ℕ_discrete}
use native.Mathlib.Omega.{arith}
use lib.Dec.{T, eqb, ltb, eqb→eq, eqb_refl, ltb→lt}
use lib.ListN.{length}
use borrow.Author.Tests.{lt-ltb, le-ltb, ltb-false}
use Rattle.base.specs.Pick.{pick}
use Rattle.base.proofs.Bools.{true→T, false→not-T}
use Rattle.tree.specs.Edges.{Edge, Edges, Ends, Adjacent, Below}
use Rattle.tree.specs.Inner.{Grown}
use Rattle.tree.specs.Growth.{reached, turned, extended, others, branched, target, absorbed, with_edge, growth_order}
use Rattle.tree.proofs.Edges.{flip}
use Rattle.tree.proofs.Growth.{reached_zero, reached_new, reached_old, ends_reached}
use Rattle.tree.proofs.GrowthRows.{Longer, same, row, longer_trans, longer_wide, longer_grown, longer_reached, longer_length, longer_adjacent, longer_below, longer_target, target_new, target_reached, reached_target, longer_few}

-- ---- rows from one position

-- P holds of each member
abbrev Each : (ℕ → Type 0) → List ℕ → Type 0
Each P [] = Unit {0}
Each P (y ∷ l) = P y × Each P l

each_map : {P Q : ℕ → Type 0} → ((y : ℕ) → P y → Q y) → (l : List ℕ) → Each P l → Each Q l
each_map f [] h = tt
each_map f (y ∷ l) h = (f y h.0, each_map f l h.1)

-- the other ends of edges at x are adjacent to x
others_each : (x : ℕ) (E : Edges) → Each (Adjacent E x) (others x E)
unfolding others
others_each x [] = tt
others_each x (e ∷ E) = go (eqb x e.one) (eqb x e.two) refl refl (each_map (λ y h. inr h) (others x E) (others_each x E))
  where
    go : (a b : Bool) → eqb x e.one ≡ a → eqb x e.two ≡ b → Each (Adjacent (e ∷ E) x) (others x E)
        → Each (Adjacent (e ∷ E) x) (pick a (e.two ∷ others x E) (pick b (e.one ∷ others x E) (others x E)))
    go true b i j h = (inl (inl (eqb→eq x e.one (true→T i), refl)), h)
    go false true i j h = (inl (inr (eqb→eq x e.two (true→T j), refl)), h)
    go false false i j h = h

-- and they are all
others_all : (P : ℕ → Type 0) (x : ℕ) (E : Edges) → Each P (others x E) → (y : ℕ) → Adjacent E x y → P y
unfolding others
others_all P x [] h y a = absurd a
others_all P x (e ∷ E) h y a = go (eqb x e.one) (eqb x e.two) refl refl h a (others_all P x E)
  where
    go : (a b : Bool) → eqb x e.one ≡ a → eqb x e.two ≡ b → Each P (pick a (e.two ∷ others x E) (pick b (e.one ∷ others x E) (others x E)))
        → Adjacent (e ∷ E) x y → (Each P (others x E) → (y : ℕ) → Adjacent E x y → P y) → P y
    go true b i j h (inl (inl (k, l))) ih = rw l h.0
    go true b i j h (inl (inr (k, l))) ih = subst P (sym k ∙ eqb→eq x e.one (true→T i) ∙ sym l) h.0
    go true b i j h (inr a) ih = ih h.1 y a
    go false b i j h (inl (inl (k, l))) ih = absurd (false→not-T i (subst (λ z. T (eqb x z)) k (eqb_refl x)))
    go false true i j h (inl (inr (k, l))) ih = rw l h.0
    go false false i j h (inl (inr (k, l))) ih = absurd (false→not-T j (subst (λ z. T (eqb x z)) k (eqb_refl x)))
    go false true i j h (inr a) ih = ih h.1 y a
    go false false i j h (inr a) ih = ih h y a

branched_longer : (E : Edges) (x : ℕ) (l : List ℕ) (F : Edges) → T (reached F x) → Each (Adjacent E x) l → Longer E F (branched x l F)
unfolding branched
branched_longer E x [] F r h = same
branched_longer E x (y ∷ l) F r h = go (reached F y) refl (λ G s. branched_longer E x l G s h.1)
  where
    go : (b : Bool) → reached F y ≡ b → ((G : Edges) → T (reached G x) → Longer E G (branched x l G)) → Longer E F (branched x l (pick b F (record { one = x; two = y } ∷ F)))
    go true i ih = ih F r
    go false i ih =
        longer_trans (row (record { one = x; two = y }) h.0 r (false→not-T i) same)
        (ih (record { one = x; two = y } ∷ F) (reached_old (record { one = x; two = y }) F x r))

-- what was reached stays so
pub branched_old : (x : ℕ) (l : List ℕ) (F : Edges) (z : ℕ) → T (reached F z) → T (reached (branched x l F) z)
unfolding branched
branched_old x [] F z r = r
branched_old x (y ∷ l) F z r = go (reached F y) (λ G s. branched_old x l G z s)
  where
    go : (b : Bool) → ((G : Edges) → T (reached G z) → T (reached (branched x l G) z)) → T (reached (branched x l (pick b F (record { one = x; two = y } ∷ F))) z)
    go true ih = ih F r
    go false ih = ih (record { one = x; two = y } ∷ F) (reached_old (record { one = x; two = y }) F z r)

-- and the positions are reached
branched_new : (x : ℕ) (l : List ℕ) (F : Edges) → Each (λ y. T (reached (branched x l F) y)) l
unfolding branched
branched_new x [] F = tt
branched_new x (y ∷ l) F = (go (reached F y) refl, branched_new x l (pick (reached F y) F (record { one = x; two = y } ∷ F)))
  where
    go : (b : Bool) → reached F y ≡ b → T (reached (branched x l (pick b F (record { one = x; two = y } ∷ F))) y)
    go true i = branched_old x l F y (true→T i)
    go false i = branched_old x l (record { one = x; two = y } ∷ F) y (reached_new (record { one = x; two = y }) F)

-- ---- row after row

pub absorbed_step : (k : ℕ) (E : Edges) (i : ℕ) (F : Edges) → i < length F → absorbed (suc k) E i F ≡ absorbed k E (suc i) (branched (target F i) (others (target F i) E) F)
unfolding absorbed
absorbed_step k E i F l = rw (lt-ltb i (length F) l)

pub absorbed_done : (k : ℕ) (E : Edges) (i : ℕ) (F : Edges) → length F ≤ i → absorbed k E i F ≡ F
unfolding absorbed
absorbed_done zero E i F l = refl
absorbed_done (suc k) E i F l = rw (le-ltb i (length F) l)

-- where the recursion ends by itself it may go on for longer
pub absorbed_enough : (k j : ℕ) (E : Edges) (i : ℕ) (F : Edges) → k ≤ j → length (absorbed k E i F) ≤ i + k → absorbed j E i F ≡ absorbed k E i F
unfolding absorbed
absorbed_enough zero j E i F m l = absorbed_done j E i F (omega arith)
absorbed_enough (suc k) zero E i F m l = absurd (omega arith)
absorbed_enough (suc k) (suc j) E i F m l = go (ltb i (length F)) l (absorbed_enough k j E (suc i) (branched (target F i) (others (target F i) E) F))
  where
    G : Edges
    G = branched (target F i) (others (target F i) E) F

    go : (b : Bool) → length (pick b (absorbed k E (suc i) G) F) ≤ i + suc k → (k ≤ j → length (absorbed k E (suc i) G) ≤ suc i + k → absorbed j E (suc i) G ≡ absorbed k E (suc i) G)
        → pick b (absorbed j E (suc i) G) F ≡ pick b (absorbed k E (suc i) G) F
    go true l ih = ih (omega arith) (omega arith)
    go false l ih = refl

module _ (E : Edges) where
  step_longer : (i : ℕ) (F : Edges) → i < length F → Longer E F (branched (target F i) (others (target F i) E) F)
  step_longer i F l = branched_longer E (target F i) (others (target F i) E) F (target_reached F i l) (others_each (target F i) E)

  absorbed_longer : (k i : ℕ) (F : Edges) → Longer E F (absorbed k E i F)
  unfolding absorbed
  absorbed_longer zero i F = same
  absorbed_longer (suc k) i F = go (ltb i (length F)) refl (absorbed_longer k (suc i) (branched (target F i) (others (target F i) E) F))
    where
      go : (b : Bool) → ltb i (length F) ≡ b → Longer E (branched (target F i) (others (target F i) E) F) (absorbed k E (suc i) (branched (target F i) (others (target F i) E) F))
          → Longer E F (pick b (absorbed k E (suc i) (branched (target F i) (others (target F i) E) F)) F)
      go true e ih = longer_trans (step_longer i F (ltb→lt i (length F) (true→T e))) ih
      go false e ih = same

-- ---- settled: no edge of E leads on

abbrev pub Settled : Edges → Edges → Type 0
Settled E F = (x y : ℕ) → Adjacent E x y → T (reached F x) → T (reached F y)

-- no edge of E leads on from 0 or from where one of the first i rows leads
pub record SettledTo (E : Edges) (i : ℕ) (F : Edges) : Type 0 where
  pub root : (y : ℕ) → Adjacent E 0 y → T (reached F y)
  pub rows : (j y : ℕ) → j < i → Adjacent E (target F j) y → T (reached F y)

settled_all : (E : Edges) (i : ℕ) (F : Edges) → length F ≤ i → SettledTo E i F → Settled E F
settled_all E i F l s x y a r = go (reached_target F x r)
  where
    go : (x ≡ 0) ⊎ ((j : ℕ) × (j < length F) × (x ≡ target F j)) → T (reached F y)
    go (inl e) = s.root y (subst (λ z. Adjacent E z y) e a)
    go (inr (j, m, e)) = s.rows j y (omega arith) (subst (λ z. Adjacent E z y) e a)

all_settled : (E F : Edges) → Settled E F → SettledTo E (length F) F
all_settled E F s = record { root = λ y a. s 0 y a (reached_zero F); rows = λ j y l a. s (target F j) y a (target_reached F j l) }

settled_longer : {D E F G : Edges} (i : ℕ) → i ≤ length F → Longer D F G → SettledTo E i F → SettledTo E i G
settled_longer {D} {E} {F} {G} i l b s = record {
  root = λ y a. longer_reached b y (s.root y a);
  rows = λ j y m a. longer_reached b y (s.rows j y m (subst (λ z. Adjacent E z y) (longer_target b j (omega arith)) a));
}

settled_step : (E : Edges) (i : ℕ) (F : Edges) → i < length F → SettledTo E i F → SettledTo E (suc i) (branched (target F i) (others (target F i) E) F)
settled_step E i F l s = record { root = t.root; rows = λ j y m a. go j y m a (ℕ_discrete j i) }
  where
    G : Edges
    G = branched (target F i) (others (target F i) E) F

    t : SettledTo E i G
    t = settled_longer i (omega arith) (step_longer E i F l) s

    go : (j y : ℕ) → j < suc i → Adjacent E (target G j) y → Dec (j ≡ i) → T (reached G y)
    go j y m a (yes e) =
        others_all (λ z. T (reached G z)) (target F i) E (branched_new (target F i) (others (target F i) E) F) y
        (subst (λ z. Adjacent E z y) (ap (target G) e ∙ longer_target (step_longer E i F l) i l) a)
    go j y m a (no d) = t.rows j y (omega arith) a

absorbed_settled : (k : ℕ) (E : Edges) (i : ℕ) (F : Edges) → i ≤ length F → length (absorbed k E i F) ≤ i + k → SettledTo E i F → Settled E (absorbed k E i F)
unfolding absorbed
absorbed_settled zero E i F m l s = settled_all E i F (omega arith) s
absorbed_settled (suc k) E i F m l s = go (ltb i (length F)) refl l (absorbed_settled k E (suc i) G)
  where
    G : Edges
    G = branched (target F i) (others (target F i) E) F

    go : (b : Bool) → ltb i (length F) ≡ b → length (pick b (absorbed k E (suc i) G) F) ≤ i + suc k
        → (suc i ≤ length G → length (absorbed k E (suc i) G) ≤ suc i + k → SettledTo E (suc i) G → Settled E (absorbed k E (suc i) G)) → Settled E (pick b (absorbed k E (suc i) G) F)
    go true e l ih =
        let n : i < length F = ltb→lt i (length F) (true→T e) in
        ih (omega (arith, longer_length (step_longer E i F n))) (omega arith) (settled_step E i F n s)
    go false e l ih = settled_all E i F (omega (arith, ltb-false i (length F) e)) s

-- ---- one edge more

-- what is done with an edge e after F: it is added, or turned and added; or both its ends or none are reached
data Extended (e : Edge) (F : Edges) : Edges → Type 0 where
  added : (d : Edge) → Ends e d.one d.two → T (reached F d.one) → (T (reached F d.two) → ⊥) → Extended e F (d ∷ F)
  idle : (T (reached F e.one) → T (reached F e.two)) → (T (reached F e.two) → T (reached F e.one)) → Extended e F F

extended_by : (e : Edge) (F : Edges) → Extended e F (extended e F)
extended_by e F = go (reached F e.one) (reached F e.two) refl refl
  where
    go : (a b : Bool) → reached F e.one ≡ a → reached F e.two ≡ b → Extended e F (turned a b e F)
    go true true i j = idle (λ _. true→T j) (λ _. true→T i)
    go true false i j = added e (inl (refl, refl)) (true→T i) (false→not-T j)
    go false true i j = added (record { one = e.two; two = e.one }) (inr (refl, refl)) (true→T j) (false→not-T i)
    go false false i j = idle (λ p. absurd (false→not-T i p)) (λ p. absurd (false→not-T j p))

extended_longer : {e : Edge} {E F G : Edges} → Extended e F G → Longer (e ∷ E) F G
extended_longer (added d h p q) = row d (inl h) p q same
extended_longer (idle p q) = same

edge_longer : (e : Edge) (E F : Edges) → Longer (e ∷ E) F (with_edge e E F)
edge_longer e E F =
    longer_trans (extended_longer (extended_by e F))
    (longer_wide e (absorbed_longer E (suc (length E)) (length F) (extended e F)))

edge_settled : (e : Edge) (E F : Edges) → Longer E [] F → Settled E F → Settled (e ∷ E) (with_edge e E F)
edge_settled e E F b s = go (extended e F) (extended_by e F) (longer_few (longer_trans (longer_wide e b) (edge_longer e E F)))
  where
    k : ℕ
    k = suc (length E)

    within_ends : (G : Edges) → Settled E G → (T (reached G e.one) → T (reached G e.two)) → (T (reached G e.two) → T (reached G e.one)) → Settled (e ∷ E) G
    within_ends G t p q x y (inl (inl (i, j))) = rw (i, j) p
    within_ends G t p q x y (inl (inr (i, j))) = rw (i, j) q
    within_ends G t p q x y (inr a) = t x y a

    go : (G : Edges) → Extended e F G → length (absorbed k E (length F) G) ≤ length (e ∷ E) → Settled (e ∷ E) (absorbed k E (length F) G)
    go G (idle p q) l = rw (absorbed_done k E (length F) F (omega arith)) (within_ends F s p q)
    go G (added d h p q) l =
        within_ends (absorbed k E (length F) (d ∷ F))
        (absorbed_settled k E (length F) (d ∷ F) (omega arith) (omega arith) (settled_longer {D = e ∷ E} (length F) (omega arith) (row d (inl h) p q same) (all_settled E F s)))
        (λ _. (ends h).1) (λ _. (ends h).0)
      where
        new : (x : ℕ) → T (reached (d ∷ F) x) → T (reached (absorbed k E (length F) (d ∷ F)) x)
        new = longer_reached (absorbed_longer E k (length F) (d ∷ F))

        ends : Ends e d.one d.two → T (reached (absorbed k E (length F) (d ∷ F)) e.one) × T (reached (absorbed k E (length F) (d ∷ F)) e.two)
        ends (inl (i, j)) = (new e.one (subst (λ z. T (reached (d ∷ F) z)) i (reached_old d F d.one p)), new e.two (subst (λ z. T (reached (d ∷ F) z)) j (reached_new d F)))
        ends (inr (i, j)) = (new e.one (subst (λ z. T (reached (d ∷ F) z)) j (reached_new d F)), new e.two (subst (λ z. T (reached (d ∷ F) z)) i (reached_old d F d.one p)))

-- ---- all edges

pub order_none : growth_order [] ≡ []
unfolding growth_order
order_none = refl

pub order_more : (e : Edge) (E : Edges) → growth_order (e ∷ E) ≡ with_edge e E (growth_order E)
unfolding growth_order
order_more e E = refl

order_longer : (E : Edges) → Longer E [] (growth_order E)
unfolding growth_order
order_longer [] = same
order_longer (e ∷ E) = longer_trans (longer_wide e (order_longer E)) (edge_longer e E (growth_order E))

-- the rows are in growth order
pub order_grown : (E : Edges) → Grown (growth_order E)
order_grown E = longer_grown (order_longer E) tt

-- they are edges of E
pub order_adjacent : (E : Edges) (x y : ℕ) → Adjacent (growth_order E) x y → Adjacent E x y
order_adjacent E x y a = elim (longer_adjacent (order_longer E) x y a) [ inl h ↦ h | inr h ↦ absurd h ]

pub order_below : (n : ℕ) (E : Edges) → Below n E → Below n (growth_order E)
order_below n E b = longer_below n (order_longer E) b tt

-- not more than there are edges
pub order_few : (E : Edges) → length (growth_order E) ≤ length E
order_few E = longer_few (order_longer E)

-- no edge leads on from them
pub order_settled : (E : Edges) → Settled E (growth_order E)
unfolding growth_order
order_settled [] = λ x y a r. absurd a
order_settled (e ∷ E) = edge_settled e E (growth_order E) (order_longer E) (order_settled E)

-- ---- edges that are in growth order already stay as they are

-- no edge is at a position that is not reached
others_none : (x : ℕ) (E F : Edges) → Grown F → (T (reached F x) → ⊥) → ((y : ℕ) → Adjacent E x y → Adjacent F x y) → others x E ≡ []
others_none x E F g d h = go (others x E) (others_each x E)
  where
    go : (l : List ℕ) → Each (Adjacent E x) l → l ≡ []
    go [] a = refl
    go (y ∷ l) a = absurd (d (ends_reached F g y x (flip F x y (h y a.0))))

turned_on : (a b : Bool) (e : Edge) (F : Edges) → T a → (T b → ⊥) → turned a b e F ≡ e ∷ F
turned_on true true e F p q = absurd (q tt)
turned_on true false e F p q = refl
turned_on false b e F p q = absurd p

edge_again : (e : Edge) (F : Edges) → Grown (e ∷ F) → with_edge e F F ≡ e ∷ F
unfolding branched
edge_again e F g =
    ap (absorbed (suc (length F)) F (length F)) (turned_on (reached F e.one) (reached F e.two) e F g.0 g.1)
    ∙ absorbed_step (length F) F (length F) (e ∷ F) (omega arith)
    ∙ ap (λ l. absorbed (length F) F (suc (length F)) (branched (target (e ∷ F) (length F)) l (e ∷ F))) (ap (λ x. others x F) (target_new e F) ∙ others_none e.two F F g.2 g.1 (λ y a. a))
    ∙ absorbed_done (length F) F (suc (length F)) (e ∷ F) (omega arith)

pub order_again : (F : Edges) → Grown F → growth_order F ≡ F
unfolding growth_order
order_again [] g = refl
order_again (e ∷ F) g = ap (with_edge e F) (order_again F g.2) ∙ edge_again e F g

-- ---- an example: the edges 3-4, 2-3, 0-2, 1-2 in this order of reading; 0-2 brings along 2-3 and then 3-4, and 1-2 is turned

edge : ℕ → ℕ → Edge
edge a b = record { one = a; two = b }

example : growth_order (edge 1 2 ∷ edge 0 2 ∷ edge 2 3 ∷ edge 3 4 ∷ []) ≡ edge 2 1 ∷ edge 3 4 ∷ edge 2 3 ∷ edge 0 2 ∷ []
unfolding edge reached others branched target absorbed growth_order
example = refl
