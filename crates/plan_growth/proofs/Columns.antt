-- Laws of edges laid in columns in growth order: a row more, and how many rows there can be.
use mathlib.Core.Path.{◌≡◌, refl, sym, ap, ap₂, ◌∙◌, subst}
use mathlib.Core.List.{List, [], ◌∷◌, ◌++◌}
use mathlib.Core.Bool.{Bool, true, false, not, ◌||◌}
use Prim.Native.Nat.{ℕ, suc, ◌+◌, ◌-◌, ◌≤◌, ◌<◌}
use native.Mathlib.Decide.{ℕ_discrete}
use native.Mathlib.Omega.{arith}
use lib.Dec.{T, eqb, eqb→eq, eqb_refl, not_T}
use lib.ListN.{length, get_or, set, replicate, length-set, length-replicate, get_or-replicate}
use lib.Seq.{get_or-set_same, get_or-set_other}
use borrow.Author.Tests.{ne_eqb}
use Rattle.base.specs.Pick.{pick}
use Rattle.base.specs.Sets.{bit, count}
use Rattle.base.proofs.Bools.{T→true, not-T→false, true→T, false→not-T}
use Rattle.base.proofs.Counts.{count_pos, count_not}
use Rattle.tree.specs.Edges.{Edge, Edges, Below}
use Rattle.tree.specs.Inner.{Grown}
use Rattle.tree.specs.Growth.{reached, turned, extended, branched}
use Rattle.tree.proofs.GrowthComplete.{reached_count, grown_short}
use Rattle.edges.specs.Rows.{rows, column}
use Rattle.edges.proofs.Rows.{column_length, column_rows, store}
use Rattle.plan_growth.specs.Inner.{edge, filled, Laid, Listed, rows_of}

-- ---- how many rows

-- while a position below v is not reached there is room for a row
pub room : (v : ℕ) (F : Edges) (x : ℕ) → 0 < v → Grown F → Below v F → x < v → (T (reached F x) → ⊥) → suc (suc (length F)) ≤ v
room v F x h g b l d =
    let p : 0 < count v (λ i. not (reached F i)) = count_pos v (λ i. not (reached F i)) x l (not_T (reached F x) d) in
    omega (arith, reached_count v F h b g, count_not v (reached F))

-- ---- a row more

-- a position is reached exactly if its mark is 1
pub bit_one : (b : Bool) → bit b ≡ 1 → T b
bit_one true h = tt
bit_one false h = omega arith

pub one_bit : (b : Bool) → T b → bit b ≡ 1
one_bit true h = refl
one_bit false h = absurd h

module _ {v : ℕ} {F : Edges} {parent child seen : List ℕ} {k : ℕ} (h : Laid v F parent child seen k) where
  marked : (x : ℕ) → x < v → get_or seen x 0 ≡ 1 → T (reached F x)
  marked x l e = bit_one (reached F x) (sym (h.marks x l) ∙ e)

  unmarked : (x : ℕ) → x < v → (get_or seen x 0 ≡ 1 → ⊥) → T (reached F x) → ⊥
  unmarked x l d r = d (h.marks x l ∙ one_bit (reached F x) r)

  -- where a position below v is not reached, there is a place for a row
  pub laid_room : (b : ℕ) → b < v → (T (reached F b) → ⊥) → (k < length parent) × (k < length child)
  laid_room b l d =
      let m : suc (suc (length F)) ≤ v = room v F b h.some h.grown h.below l d in
      (omega (arith, h.many, h.places.0), omega (arith, h.many, h.places.1))

  column_more : (f : Edge → ℕ) (l : List ℕ) (e : Edge) → k < length l → l ≡ filled (length l) (column f F) → set l k (f e) ≡ filled (length (set l k (f e))) (column f (e ∷ F))
  unfolding column
  column_more f l e w i =
      let m : k ≡ length (column f F) = h.many ∙ sym (column_length f F) in
      ap₂ (λ (x : List ℕ) (n : ℕ). set x n (f e)) i m
      ∙ store (length l) (column f F) (f e) (omega arith)
      ∙ ap (λ (n : ℕ). filled n (column f F ++ (f e ∷ []))) (sym (length-set l k (f e)))

  mark_more : (b : ℕ) → b < v → (x : ℕ) → x < v → (c : Bool) → eqb x b ≡ c → get_or (set seen b 1) x 0 ≡ bit (c || reached F x)
  mark_more b lb x l true i = rw (eqb→eq x b (true→T i)) (get_or-set_same seen b 1 0 (omega (arith, h.places.2)))
  mark_more b lb x l false i = get_or-set_other seen b x 1 0 (λ e. false→not-T i (subst (λ (z : ℕ). T (eqb x z)) e (eqb_refl x))) ∙ h.marks x l

  -- a row more, from a position that is reached to one that is not
  pub laid_more : (a b : ℕ) → a < v → b < v → T (reached F a) → (T (reached F b) → ⊥) → Laid v (edge a b ∷ F) (set parent k a) (set child k b) (set seen b 1) (k + 1)
  unfolding reached
  laid_more a b la lb r d =
      let w = laid_room b lb d in
      record {
        some = h.some;
        many = omega (arith, h.many);
        parents = column_more (λ e. e.one) parent (edge a b) w.0 h.parents;
        children = column_more (λ e. e.two) child (edge a b) w.1 h.children;
        places = simp length-set h.places;
        grown = (r, d, h.grown);
        below = (la, lb, h.below);
        marks = λ x l. mark_more b lb x l (eqb x b) refl;
      }

  -- fewer rows than positions
  pub laid_short : k < v
  laid_short = omega (arith, h.many, grown_short v F h.some h.below h.grown)

pub laid_rows : {v : ℕ} {F : Edges} {parent child seen : List ℕ} {k : ℕ} → Laid v F parent child seen k → rows parent child k ≡ F
laid_rows {v} {F} {parent} {child} {seen} {k} h =
    ap₂ (λ (ps cs : List ℕ). rows ps cs k) h.parents h.children
    ∙ ap (rows (filled (length parent) (column (λ e. e.one) F)) (filled (length child) (column (λ e. e.two) F))) h.many
    ∙ column_rows F (replicate (length parent - length (column (λ e. e.one) F)) 0) (replicate (length child - length (column (λ e. e.two) F)) 0)

-- so they can be named by the columns
pub laid_named : {v : ℕ} {F : Edges} {parent child seen : List ℕ} {k : ℕ} → Laid v F parent child seen k → Laid v (rows parent child k) parent child seen k
laid_named h = rw (laid_rows h) h

-- ---- the marks of a list

module _ {v k x m : ℕ} {parent child seen : List ℕ} {l : Listed} (h : Laid v (rows parent child k) parent child seen k)
    (e : record { parent = parent; child = child; seen = seen; count = k } ≡ l) (b : x < v) (i : m ≡ x) where
  pub marked_in : get_or seen m 0 ≡ 1 → T (reached (rows_of l) x)
  marked_in s = subst (λ (l : Listed). T (reached (rows_of l) x)) e (marked h x b (rw i at s))

  pub unmarked_in : (get_or seen m 0 ≡ 1 → ⊥) → T (reached (rows_of l) x) → ⊥
  unmarked_in d = subst (λ (l : Listed). T (reached (rows_of l) x) → ⊥) e (unmarked h x b (rw i at d))

-- ---- which rows: by what is reached

module _ (F : Edges) (a b : ℕ) where
  pub branch_old : T (reached F b) → branched a (b ∷ []) F ≡ F
  unfolding branched
  branch_old h = rw (T→true (reached F b) h) refl

  pub branch_new : (T (reached F b) → ⊥) → branched a (b ∷ []) F ≡ edge a b ∷ F
  unfolding branched
  branch_new d = rw (not-T→false (reached F b) d) refl

  -- the edge a-b
  pub extend_on : T (reached F a) → extended (edge a b) F ≡ branched a (b ∷ []) F
  unfolding branched
  extend_on h = rw (T→true (reached F a) h) (go (reached F b))
    where
      go : (c : Bool) → turned true c (edge a b) F ≡ pick c F (edge a b ∷ F)
      go true = refl
      go false = refl

  pub extend_back : (T (reached F a) → ⊥) → T (reached F b) → extended (edge a b) F ≡ branched b (a ∷ []) F
  unfolding branched
  extend_back d h = rw (not-T→false (reached F a) d, T→true (reached F b) h) refl

-- ---- no rows

-- columns that are all 0 hold no rows, and only 0 is reached
pub laid_empty : (v n m : ℕ) → 0 < v → v ≤ suc n → v ≤ m → Laid v [] (replicate n 0) (replicate n 0) (set (replicate m 0) 0 1) 0
unfolding reached column
laid_empty v n m a b c =
    record {
      some = a;
      many = refl;
      parents = empty;
      children = empty;
      places = (omega (arith, length-replicate {A = ℕ} n 0), omega (arith, length-replicate {A = ℕ} n 0), omega (arith, length-set {A = ℕ} (replicate m 0) 0 1, length-replicate {A = ℕ} m 0));
      grown = tt;
      below = tt;
      marks = λ x l. mark x l (ℕ_discrete x 0);
    }
  where
    empty : replicate {A = ℕ} n 0 ≡ replicate (length (replicate {A = ℕ} n 0) - 0) 0
    empty = let e : n ≡ length (replicate {A = ℕ} n 0) - 0 = omega (arith, length-replicate {A = ℕ} n 0) in ap (λ (j : ℕ). replicate {A = ℕ} j 0) e

    mark : (x : ℕ) → x < v → Dec (x ≡ 0) → get_or (set (replicate m 0) 0 1) x 0 ≡ bit (eqb x 0)
    mark x l (yes e) = rw e (get_or-set_same (replicate m 0) 0 1 0 (omega (arith, length-replicate {A = ℕ} m 0)))
    mark x l (no d) = get_or-set_other (replicate m 0) 0 x 1 0 d ∙ get_or-replicate m x 0 0 (omega arith) ∙ sym (ap bit (ne_eqb x 0 d))
