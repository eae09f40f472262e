-- Laws of edges that hang in chains at their ends, and of the rows that a walk along a chain adds.
use mathlib.Core.Path.{◌≡◌, refl, sym, ap, ◌∙◌, subst}
use mathlib.Core.Logic.{inl, inr}
use mathlib.Core.List.{List, [], ◌∷◌}
use mathlib.Core.Bool.{Bool, true, false}
use Prim.Native.Nat.{ℕ, zero, suc, ◌+◌, ◌-◌, ◌≤◌, ◌<◌}
use native.Mathlib.Decide.{ℕ_discrete}
use native.Mathlib.Numerals.{add-one}
use native.Mathlib.Omega.{arith}
use lib.Dec.{T, eqb, eqb_refl}
use lib.ListN.{length, get_or, set, replicate, length-set, length-replicate, get_or-replicate}
use lib.Seq.{get_or-set_same, get_or-set_other}
use borrow.Author.Tests.{eq-eqb, ne_eqb}
use Rattle.base.specs.Limits.{max_vertices}
use Rattle.base.specs.Pick.{pick}
use Rattle.base.proofs.Bools.{false→not-T}
use Rattle.tree.specs.Edges.{Edge, Edges, Below}
use Rattle.tree.specs.Growth.{reached, others, branched, target, extended, absorbed, growth_order}
use Rattle.tree.proofs.Edges.{below_more}
use Rattle.tree.proofs.GrowthRows.{target_reached}
use Rattle.tree.proofs.GrowthOrder.{branched_old, absorbed_step, absorbed_done, absorbed_enough, order_none, order_more, order_few, order_below}
use Rattle.edges.specs.Rows.{rows}
use Rattle.edges.proofs.Rows.{rows_length, row_below, rows_below}
use Rattle.plan_growth.specs.Inner.{edge, Laid, At, Latest, Hung, Columns, NextFits}

-- where row i of the columns leads
rows_target : (ps cs : List ℕ) (k i : ℕ) → i < k → target (rows ps cs k) i ≡ get_or cs i 0
unfolding rows target
rows_target ps cs zero i l = absurd (omega arith)
rows_target ps cs (suc k) i l = go (ℕ_discrete i k) (rows_target ps cs k i)
  where
    go : Dec (i ≡ k) → (i < k → target (rows ps cs k) i ≡ get_or cs i 0) → pick (eqb i (length (rows ps cs k))) (get_or cs k 0) (target (rows ps cs k) i) ≡ get_or cs i 0
    go (yes e) ih = rw (rows_length ps cs k, eq-eqb i k e, e) refl
    go (no d) ih = rw (rows_length ps cs k, ne_eqb i k d) (ih (omega arith))

-- ---- a chain

module _ (one two : List ℕ) where
  -- at an edge that is at x, the first is its other end
  others_at : (x e : ℕ) → At one two x e
      → others x (rows one two (suc e)) ≡ pick (eqb x (get_or one e 0)) (get_or two e 0) (get_or one e 0) ∷ others x (rows one two e)
  unfolding others rows
  others_at x e h = go (eqb x (get_or one e 0)) (eqb x (get_or two e 0)) refl refl h
    where
      l : List ℕ
      l = others x (rows one two e)

      go : (a b : Bool) → eqb x (get_or one e 0) ≡ a → eqb x (get_or two e 0) ≡ b → At one two x e
          → pick a (get_or two e 0 ∷ l) (pick b (get_or one e 0 ∷ l) l) ≡ pick a (get_or two e 0) (get_or one e 0) ∷ l
      go true b i j h = refl
      go false true i j h = refl
      go false false i j (inl k) = absurd (false→not-T i (subst (λ (z : ℕ). T (eqb x z)) k (eqb_refl x)))
      go false false i j (inr k) = absurd (false→not-T j (subst (λ (z : ℕ). T (eqb x z)) k (eqb_refl x)))

  -- an edge that is not at x changes nothing
  others_off : (x e : ℕ) → (At one two x e → ⊥) → others x (rows one two (suc e)) ≡ others x (rows one two e)
  unfolding others rows
  others_off x e d = rw (ne_eqb x (get_or one e 0) (λ i. d (inl i)), ne_eqb x (get_or two e 0) (λ i. d (inr i)))

module _ {v i : ℕ} {one two latest before1 before2 : List ℕ} (h : Hung v i one two latest before1 before2) where
  -- the other end of an edge that hangs at x, if x is its first end
  pub along_first : (x e : ℕ) → e < i → x ≡ get_or one e 0 → (others x (rows one two (e + 1)) ≡ get_or two e 0 ∷ others x (rows one two e)) × (get_or two e 0 < v)
  along_first x e l k = (
    ap (λ (m : ℕ). others x (rows one two m)) (add-one e)
        ∙ others_at one two x e (inl k)
        ∙ ap (λ (b : Bool). pick b (get_or two e 0) (get_or one e 0) ∷ others x (rows one two e)) (eq-eqb x (get_or one e 0) k),
    (row_below v one two i e l h.below).1,
  )

  -- else
  pub along_second : (x e : ℕ) → e < i → (x ≡ get_or one e 0 → ⊥) → At one two x e
      → (others x (rows one two (e + 1)) ≡ get_or one e 0 ∷ others x (rows one two e)) × (get_or one e 0 < v)
  along_second x e l d a = (
    ap (λ (m : ℕ). others x (rows one two m)) (add-one e)
        ∙ others_at one two x e a
        ∙ ap (λ (b : Bool). pick b (get_or two e 0) (get_or one e 0) ∷ others x (rows one two e)) (ne_eqb x (get_or one e 0) d),
    (row_below v one two i e l h.below).0,
  )

-- ---- a walk along the chain at x

-- the rows G so far, and those that the chain from n on adds, are those that the whole chain of the first i edges adds to F
pub record Walking (one two : List ℕ) (i x : ℕ) (F G : Edges) (n : ℕ) : Type 0 where
  pub from : T (reached G x)
  pub most : n ≤ i
  pub there : (e : ℕ) → n ≡ suc e → At one two x e
  pub rest : branched x (others x (rows one two n)) G ≡ branched x (others x (rows one two i)) F

-- one edge of the chain, to its other end y
pub walk_step : {i x n y m b : ℕ} {F G H : Edges} {one two : List ℕ} → Walking one two i x F G n → (n ≡ 0 → ⊥)
    → others x (rows one two (n - 1 + 1)) ≡ y ∷ others x (rows one two (n - 1)) → m ≡ b → Latest one two x (n - 1) b → H ≡ branched x (y ∷ []) G → Walking one two i x F H m
unfolding branched
walk_step {i} {x} {n} {y} {m} {b} {F} {G} {H} {one} {two} w d ey em h e =
    let l : Latest one two x (n - 1) m = rw em h in
    let s : n ≡ n - 1 + 1 = omega arith in
    record {
      from = subst (λ (K : Edges). T (reached K x)) (sym e) (branched_old x (y ∷ []) G x w.from);
      most = omega (arith, l.most, w.most);
      there = l.there;
      rest = ap (λ (q : List ℕ). branched x q H) l.same
          ∙ ap (branched x (others x (rows one two (n - 1)))) e
          ∙ ap (λ (q : List ℕ). branched x q G) (sym ey)
          ∙ ap (λ (z : ℕ). branched x (others x (rows one two z)) G) (sym s)
          ∙ w.rest;
    }

-- the chain's end
pub walk_end : {i x n : ℕ} {F G : Edges} {one two : List ℕ} → Walking one two i x F G n → n ≡ 0 → G ≡ branched x (others x (rows one two i)) F
unfolding branched others rows
walk_end {i} {x} {n} {F} {G} {one} {two} w e = ap (λ (m : ℕ). branched x (others x (rows one two m)) G) (sym e) ∙ w.rest

-- ---- row after row

-- what row `row` of G and the later ones bring along is what the rows of F from row `from` on bring along
pub record Absorbing (v : ℕ) (E : Edges) (from : ℕ) (F G : Edges) (row : ℕ) : Type 0 where
  pub past : from ≤ row
  pub rest : absorbed (v - (row - from)) E row G ≡ absorbed v E from F

-- where a row leads
pub row_leads : {v k : ℕ} {parent child seen : List ℕ} (row : ℕ) → Laid v (rows parent child k) parent child seen k → row < k
    → (get_or child row 0 < v) × T (reached (rows parent child k) (get_or child row 0))
row_leads {v} {k} {parent} {child} row h l = (
  (row_below v parent child k row l h.below).1,
  subst (λ (x : ℕ). T (reached (rows parent child k) x)) (rows_target parent child k row l) (target_reached (rows parent child k) row (omega (arith, rows_length parent child k))),
)

-- one row more brings along what hangs where it leads
pub absorb_step : {v from k row : ℕ} {E F H : Edges} (parent child : List ℕ) → Absorbing v E from F (rows parent child k) row → row < k → k < v
    → H ≡ branched (get_or child row 0) (others (get_or child row 0) E) (rows parent child k) → Absorbing v E from F H (row + 1)
absorb_step {v} {from} {k} {row} {E} {F} {H} parent child w l m e =
    let s : v - (row - from) ≡ suc (v - (row + 1 - from)) = omega (arith, w.past) in
    record {
      past = omega (arith, w.past);
      rest = ap (λ (K : Edges). absorbed (v - (row + 1 - from)) E (row + 1) K) e
          ∙ ap (λ (x : ℕ). absorbed (v - (row + 1 - from)) E (row + 1) (branched x (others x E) (rows parent child k))) (sym (rows_target parent child k row l))
          ∙ ap (λ (j : ℕ). absorbed (v - (row + 1 - from)) E j (branched (target (rows parent child k) row) (others (target (rows parent child k) row) E) (rows parent child k))) (add-one row)
          ∙ sym (absorbed_step (v - (row + 1 - from)) E row (rows parent child k) (omega (arith, rows_length parent child k)))
          ∙ ap (λ (j : ℕ). absorbed j E row (rows parent child k)) (sym s)
          ∙ w.rest;
    }

-- the last row
pub absorb_end : {v from row : ℕ} {E F G : Edges} → Absorbing v E from F G row → length G ≤ row → G ≡ absorbed v E from F
absorb_end {v} {from} {row} {E} {F} {G} w l = sym (absorbed_done (v - (row - from)) E row G l) ∙ w.rest

-- ---- edge after edge

-- before the first edge
pub order_start : {G : Edges} (one two : List ℕ) → G ≡ [] → G ≡ growth_order (rows one two 0)
unfolding rows
order_start one two e = e ∙ sym order_none

-- one edge more
pub order_step : {v k : ℕ} {G H : Edges} (one two : List ℕ) (i : ℕ) → i < v → G ≡ growth_order (rows one two i) → k ≡ length G
    → H ≡ absorbed v (rows one two i) k (extended (edge (get_or one i 0) (get_or two i 0)) G) → H ≡ growth_order (rows one two (i + 1))
unfolding rows
order_step {v} {k} {G} {H} one two i l g n h =
    h ∙ named ∙ fuel ∙ sym (order_more d E) ∙ ap (λ (m : ℕ). growth_order (rows one two m)) (sym (add-one i))
  where
    d : Edge
    d = edge (get_or one i 0) (get_or two i 0)

    E : Edges
    E = rows one two i

    F : Edges
    F = growth_order E

    named : absorbed v E k (extended d G) ≡ absorbed v E (length F) (extended d F)
    named = ap (λ (m : ℕ). absorbed v E m (extended d G)) n ∙ ap (λ (K : Edges). absorbed v E (length K) (extended d K)) g

    few : length (absorbed (suc (length E)) E (length F) (extended d F)) ≤ length F + suc (length E)
    few = omega (arith, order_few (d ∷ E), ap length (order_more d E))

    fuel : absorbed v E (length F) (extended d F) ≡ absorbed (suc (length E)) E (length F) (extended d F)
    fuel = absorbed_enough (suc (length E)) v E (length F) (extended d F) (omega (arith, rows_length one two i)) few

-- after the last edge: the rows are laid among as many vertices as the edges speak of
pub order_end : {n v k : ℕ} {p c s : List ℕ} (E : Edges) → 0 < n → n ≤ v → Below n E → rows p c k ≡ growth_order E → Laid v (rows p c k) p c s k
    → Laid n (growth_order E) p c s k
order_end {n} {v} {k} {p} {c} {s} E a l b e g =
    let h : Laid v (growth_order E) p c s k = rw e at g in
    record {
      some = a;
      many = h.many;
      parents = h.parents;
      children = h.children;
      places = (omega (arith, h.places.0), omega (arith, h.places.1), omega (arith, h.places.2));
      grown = h.grown;
      below = order_below n E b;
      marks = λ x m. h.marks x (omega arith);
    }

-- ---- one edge more hangs

-- the ends of the next edge
pub next_below : {s : Columns} → NextFits s → (get_or s.one s.count 0 < max_vertices) × (get_or s.two s.count 0 < max_vertices)
next_below {s} h = row_below max_vertices s.one s.two (s.count + 1) s.count (omega arith) h.below

-- there is one while not all m edges of the columns hang
pub next_fits : (one two : List ℕ) (m i : ℕ) → i < m → Below (m + 1) (rows one two m) → (m ≤ length one) × (m ≤ length two) × (m + 1 ≤ max_vertices)
    → NextFits (record { one = one; two = two; count = i })
next_fits one two m i l b n =
    record {
      columns = (omega (arith, n.0), omega (arith, n.1));
      room = omega (arith, n.2);
      below = rows_below max_vertices one two m (i + 1) (omega arith) (below_more (m + 1) max_vertices (rows one two m) n.2 b);
    }

-- no edge hangs anywhere
pub hung_none : (v n m : ℕ) (one two : List ℕ) → v ≤ n → Hung v 0 one two (replicate n 0) (replicate m 0) (replicate m 0)
unfolding rows
hung_none v n m one two l =
    record {
      below = tt;
      places = (omega arith, omega arith, omega (arith, length-replicate {A = ℕ} n 0), omega arith, omega arith);
      last = λ x b. subst (Latest one two x 0) (sym (get_or-replicate n x 0 0 (omega arith))) (record { most = omega arith; there = λ e z. absurd (omega arith); same = refl });
      ones = λ e b. absurd (omega arith);
      twos = λ e b. absurd (omega arith);
    }

module _ {v i : ℕ} {one two latest before1 before2 : List ℕ} (h : Hung v i one two latest before1 before2) (below : Below v (rows one two (i + 1)))
    (places : (i < length one) × (i < length two) × (i < length before1) × (i < length before2)) where
  -- it is the latest at its ends
  newest : (x : ℕ) → At one two x i → Latest one two x (i + 1) (i + 1)
  newest x t = record { most = omega arith; there = λ e z. let k : e ≡ i = omega arith in rw k t; same = refl }

  -- elsewhere nothing changes
  older : (x n : ℕ) → (At one two x i → ⊥) → Latest one two x i n → Latest one two x (i + 1) n
  older x n d l = record { most = omega (arith, l.most); there = l.there; same = l.same ∙ sym (others_off one two x i d) ∙ ap (λ (m : ℕ). others x (rows one two m)) (sym (add-one i)) }

  last_more : (x : ℕ) → x < v → Latest one two x (i + 1) (get_or (set (set latest (get_or one i 0) (i + 1)) (get_or two i 0) (i + 1)) x 0)
  last_more x l = go (ℕ_discrete x b) (ℕ_discrete x a)
    where
      a : ℕ
      a = get_or one i 0

      b : ℕ
      b = get_or two i 0

      first : List ℕ
      first = set latest a (i + 1)

      go : Dec (x ≡ b) → Dec (x ≡ a) → Latest one two x (i + 1) (get_or (set first b (i + 1)) x 0)
      go (yes e) t =
          subst (Latest one two x (i + 1))
          (sym (ap (λ (y : ℕ). get_or (set first b (i + 1)) y 0) e ∙ get_or-set_same first b (i + 1) 0 (omega (arith, e, h.places.2, length-set latest a (i + 1))))) (newest x (inr e))
      go (no d) (yes e) =
          subst (Latest one two x (i + 1))
          (sym (get_or-set_other first b x (i + 1) 0 d ∙ ap (λ (y : ℕ). get_or first y 0) e ∙ get_or-set_same latest a (i + 1) 0 (omega (arith, e, h.places.2)))) (newest x (inl e))
      go (no d) (no f) =
          subst (Latest one two x (i + 1)) (sym (get_or-set_other first b x (i + 1) 0 d ∙ get_or-set_other latest a x (i + 1) 0 f))
          (older x (get_or latest x 0) (λ t. elim t [ inl k ↦ f k | inr k ↦ d k ]) (h.last x l))

  before_more : (ends before : List ℕ) (n : ℕ) → i < length before → ((e : ℕ) → e < i → Latest one two (get_or ends e 0) e (get_or before e 0)) → Latest one two (get_or ends i 0) i n
      → (e : ℕ) → e < i + 1 → Latest one two (get_or ends e 0) e (get_or (set before i n) e 0)
  before_more ends before n m old new e l = go (ℕ_discrete e i)
    where
      go : Dec (e ≡ i) → Latest one two (get_or ends e 0) e (get_or (set before i n) e 0)
      go (yes k) = rw (k, get_or-set_same before i n 0 m) new
      go (no d) = rw (get_or-set_other before i e n 0 d) (old e (omega arith))

  pub hung_more : {latest' before1' before2' : List ℕ} → latest' ≡ set (set latest (get_or one i 0) (i + 1)) (get_or two i 0) (i + 1)
      → before1' ≡ set before1 i (get_or latest (get_or one i 0) 0) → before2' ≡ set before2 i (get_or latest (get_or two i 0) 0)
      → Hung v (i + 1) one two latest' before1' before2'
  hung_more e f g =
      let ends = row_below v one two (i + 1) i (omega arith) below in
      rw (e, f, g)
      (record {
        below = below;
        places = simp length-set (omega (arith, places.0), omega (arith, places.1), h.places.2, omega (arith, places.2), omega (arith, places.3));
        last = last_more;
        ones = before_more one before1 (get_or latest (get_or one i 0) 0) places.2 h.ones (h.last (get_or one i 0) ends.0);
        twos = before_more two before2 (get_or latest (get_or two i 0) 0) places.3 h.twos (h.last (get_or two i 0) ends.1);
      })
