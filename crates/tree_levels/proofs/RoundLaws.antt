-- One round: what the passes take out is the centre of each large component, and so a forest gets smaller; rounds from all positions on.
use mathlib.Core.Path.{◌≡◌, refl, sym, ap, ◌∙◌, subst, fun_ext}
use mathlib.Core.List.{List}
use mathlib.Core.Bool.{Bool, true, false, not, ◌&&◌}
use Prim.Native.Nat.{ℕ, ◌-◌, ◌≤◌, ◌<◌}
use native.Mathlib.Decide.{dec_lt}
use native.Mathlib.Omega.{arith}
use lib.Dec.{T, eqb, leb, ltb, eqb_refl}
use lib.ListN.{get_or}
use borrow.Author.Tests.{lt-ltb, le-ltb}
use Rattle.base.specs.Pick.{pick}
use Rattle.base.specs.Sets.{Set, count}
use Rattle.base.specs.Inner.{any_below}
use Rattle.base.proofs.Bools.{T_and, T-left, T-right, T-dec, T-ext, not-T→false}
use Rattle.base.proofs.Any.{below_some, some_below, any_same}
use Rattle.base.proofs.Counts.{count_lt, count_full}
use Rattle.tree.specs.Edges.{Edges, label}
use Rattle.tree.specs.Growth.{reached}
use Rattle.tree.specs.Inner.{subtree}
use Rattle.tree.specs.Component.{centre}
use Rattle.tree.proofs.Growth.{grown_acyclic}
use Rattle.tree.proofs.GrowthComplete.{reached_count}
use Rattle.tree.proofs.Centres.{centre_light}
use Rattle.tree_rounds.specs.Inner.{block_of, in_large, any_large, split, Forest}
use Rattle.tree_rounds.proofs.Blocks.{block_in, block_same, block_component}
use Rattle.tree_rounds.proofs.BlockSizes.{block_size}
use Rattle.tree_rounds.proofs.BlockCentres.{shown_in, passing, shown_labels, centre_test}
use Rattle.edges.specs.Rows.{rows}
use Rattle.edges.proofs.Rows.{rows_length}
use Rattle.marks.specs.Marks.{marked}
use Rattle.tree_pass.specs.Inner.{Rows}
use Rattle.tree_pass_forest.specs.Inner.{light_in}
use Rattle.tree_pass_forest.proofs.ForestPass.{label_below}
use Rattle.tree_levels.specs.Inner.{passed, first_large, outs}

-- ---- what is taken out of a forest

-- the first light member of each large component
abbrev pub taken : Edges → Set → Set
taken F A = first_large (light_in A F) (label A F) (subtree A F)

module _ (F : Edges) (n : ℕ) (A : Set) (forest : Forest F n A) where
  light_shown : (c : ℕ) → light_in A F c ≡ A c && not (shown_in F n A c)
  unfolding light_in
  light_shown c = ap (λ (t : Bool). A c && not t) (shown_labels F n A forest (subtree A F) (λ x p. refl) c)

  passed_is : (x l : ℕ) → passed (light_in A F) (label A F) x l ≡ any_below x (passing F n A l)
  unfolding passed
  passed_is x l = any_same x _ _ (λ y k. ap (λ (t : Bool). t && eqb (label A F y) l) (light_shown y) ∙ swap (A y) (not (shown_in F n A y)) (eqb (label A F y) l))
    where
      swap : (a b c : Bool) → (a && b) && c ≡ (a && c) && b
      swap true true true = refl
      swap true true false = refl
      swap true false true = refl
      swap true false false = refl
      swap false b c = refl

  -- it is the component's centre
  taken_is : (x : ℕ) → taken F A x ≡ in_large F n A x && eqb x (centre F n (block_of F A x))
  unfolding first_large in_large
  taken_is x = ap (λ (t : Bool). t && (leb 3 (subtree A F (label A F x)) && not (passed (light_in A F) (label A F) x (label A F x)))) (light_shown x) ∙ go (T-dec (A x))
    where
      regroup : (a s g q : Bool) → (a && s) && (g && q) ≡ (a && g) && (s && q)
      regroup true true g q = refl
      regroup true false true q = refl
      regroup true false false q = refl
      regroup false s g q = refl

      go : Dec (T (A x)) → (A x && not (shown_in F n A x)) && (leb 3 (subtree A F (label A F x)) && not (passed (light_in A F) (label A F) x (label A F x)))
          ≡ (A x && leb 3 (count n (block_of F A x))) && eqb x (centre F n (block_of F A x))
      go (yes p) =
          rw (block_size F n A forest x p, passed_is x (label A F x), centre_test F n A forest x p)
          (regroup (A x) (not (shown_in F n A x)) (leb 3 (count n (block_of F A x))) (not (any_below x (passing F n A (label A F x)))))
      go (no d) = rw (not-T→false (A x) d)

  pub split_is : (x : ℕ) → split F n A x ≡ A x && not (taken F A x)
  unfolding split
  split_is x = ap (λ (t : Bool). A x && not t) (sym (taken_is x))

  -- where a component is large, its centre is taken out
  large_centre : T (any_large F n A) → (c : ℕ) × (c < n) × T (A c) × T (in_large F n A c && eqb c (centre F n (block_of F A c)))
  unfolding any_large in_large
  large_centre h = at (below_some n (in_large F n A) h)
    where
      at : (x : ℕ) × (x < n) × T (in_large F n A x) → (c : ℕ) × (c < n) × T (A c) × T (in_large F n A c && eqb c (centre F n (block_of F A c)))
      at (x, l, k) =
          let p : T (A x) = T-left (A x) _ k in
          let c : ℕ = centre F n (block_of F A x) in
          let b : T (block_of F A x c) = (centre_light F (grown_acyclic F forest.grown) n (block_of F A x) (block_component F A n forest.below x p)).member in
          let q : T (A c) = block_in F A x c b in
          let e : block_of F A c ≡ block_of F A x = block_same F A x c b in (
            c,
            forest.below c q,
            q,
            T_and (in_large F n A c) (eqb c (centre F n (block_of F A c))) (T_and (A c) _ q (subst (λ (S : Set). T (leb 3 (count n S))) (sym e) (T-right (A x) _ k))) (subst (λ (S : Set). T (eqb c (centre F n S))) (sym e) (eqb_refl c)),
          )

  pub any_is : any_below n (taken F A) ≡ any_large F n A
  unfolding any_large
  any_is = T-ext (any_below n (taken F A)) (any_below n (in_large F n A)) fore rear
    where
      fore : T (any_below n (taken F A)) → T (any_below n (in_large F n A))
      fore h = let r = below_some n (taken F A) h in some_below n (in_large F n A) r.0 r.1 (T-left (in_large F n A r.0) _ (subst T (taken_is r.0) r.2))

      rear : T (any_below n (in_large F n A)) → T (any_below n (taken F A))
      rear h = let r = large_centre h in some_below n (taken F A) r.0 r.1 (subst T (sym (taken_is r.0)) r.3)

  -- so the forest gets smaller
  pub split_less : T (any_large F n A) → count n (split F n A) < count n A
  unfolding split
  split_less h = let r = large_centre h in count_lt n (split F n A) A (λ i l p. T-left (A i) _ p) r.0 r.1 r.2 (out (A r.0) (in_large F n A r.0 && eqb r.0 (centre F n (block_of F A r.0))) r.3)
    where
      out : (a b : Bool) → T b → T (not (a && not b))
      out true true p = tt
      out true false p = p
      out false b p = tt

-- ---- as arrays have it

first_same : (n : ℕ) (L : Set) (f g size size' : ℕ → ℕ) → ((x : ℕ) → x < n → f x ≡ g x) → ((x : ℕ) → x < n → size (g x) ≡ size' (g x))
    → (x : ℕ) → x < n → first_large L f size x ≡ first_large L g size' x
unfolding first_large passed
first_same n L f g size size' h k x l =
    rw (h x l, k x l, any_same x (λ y. L y && eqb (f y) (g x)) (λ y. L y && eqb (g y) (g x)) (λ y m. ap (λ (z : ℕ). L y && eqb z (g x)) (h y (omega arith))))

-- every position of a tree of n positions is reached
pub forest_of : (ps cs : List ℕ) (n : ℕ) (A : Set) → Rows ps cs n (n - 1) → ((x : ℕ) → T (A x) → x < n) → Forest (rows ps cs (n - 1)) n A
forest_of ps cs n A R below = record {
  grown = R.grown;
  ends = R.below;
  some = R.some;
  below = below;
  reach = λ x p. count_full n (reached (rows ps cs (n - 1))) (omega (arith, R.some, reached_count n (rows ps cs (n - 1)) R.some R.below R.grown, rows_length ps cs (n - 1))) x (below x p);
}

-- what the passes over the forest find
abbrev pub Found : List ℕ → List ℕ → List ℕ → List ℕ → List ℕ → List ℕ → ℕ → Type 0
Found ps cs alive labels sub light n =
    ((x : ℕ) → x < n → get_or labels x 0 ≡ label (marked alive) (rows ps cs (n - 1)) x)
    × (((x : ℕ) → x < n → get_or sub x 0 ≡ subtree (marked alive) (rows ps cs (n - 1)) x) × ((x : ℕ) → marked light x ≡ light_in (marked alive) (rows ps cs (n - 1)) x))

module _ (ps cs alive labels sub light : List ℕ) (n : ℕ) (R : Rows ps cs n (n - 1)) (below : (x : ℕ) → T (marked alive x) → x < n) (known : Found ps cs alive labels sub light n) where
  outs_taken : (x : ℕ) → x < n → outs labels sub light x ≡ taken (rows ps cs (n - 1)) (marked alive) x
  outs_taken x l =
      ap (λ (L : Set). first_large L (λ y. get_or labels y 0) (λ y. get_or sub y 0) x) (fun_ext known.1.1)
      ∙ first_same n (light_in A F) (λ y. get_or labels y 0) (label A F) (λ y. get_or sub y 0) (subtree A F) known.0 (λ y k. known.1.0 (label A F y) (label_below n A F R.below y k)) x l
    where
      A : Set
      A = marked alive

      F : Edges
      F = rows ps cs (n - 1)

  pub round_any : (r : Bool) → r ≡ any_below n (outs labels sub light) → r ≡ any_large (rows ps cs (n - 1)) n (marked alive)
  round_any r e = e ∙ any_same n _ _ outs_taken ∙ any_is (rows ps cs (n - 1)) n (marked alive) (forest_of ps cs n (marked alive) R below)

  pub round_split : (alive' : List ℕ) → ((x : ℕ) → get_or alive' x 0 ≡ pick (ltb x n && outs labels sub light x) 0 (get_or alive x 0)) → (x : ℕ) → marked alive' x ≡ split (rows ps cs (n - 1)) n (marked alive) x
  unfolding marked
  round_split alive' h x = ap (λ (z : ℕ). eqb z 1) (h x) ∙ go (dec_lt x n) ∙ sym (split_is (rows ps cs (n - 1)) n (marked alive) (forest_of ps cs n (marked alive) R below) x)
    where
      v : ℕ
      v = get_or alive x 0

      t : Bool
      t = taken (rows ps cs (n - 1)) (marked alive) x

      at : (b : Bool) → eqb (pick b 0 v) 1 ≡ eqb v 1 && not b
      at true = none (eqb v 1)
        where
          none : (a : Bool) → false ≡ a && false
          none true = refl
          none false = refl
      at false = same (eqb v 1)
        where
          same : (a : Bool) → a ≡ a && true
          same true = refl
          same false = refl

      go : Dec (x < n) → eqb (pick (ltb x n && outs labels sub light x) 0 v) 1 ≡ eqb v 1 && not t
      go (yes l) = rw (lt-ltb x n l, outs_taken x l) (at t)
      go (no d) = rw (le-ltb x n (omega arith), not-T→false (eqb v 1) (λ p. d (below x p)))

-- numbers that are cleared stay at most 1
pub round_numbers : (alive alive' : List ℕ) (O : Set) → ((x : ℕ) → get_or alive x 0 ≤ 1) → ((x : ℕ) → get_or alive' x 0 ≡ pick (O x) 0 (get_or alive x 0)) → (x : ℕ) → get_or alive' x 0 ≤ 1
round_numbers alive alive' O h k x = rw (k x) (go (O x))
  where
    go : (b : Bool) → pick b 0 (get_or alive x 0) ≤ 1
    go true = omega arith
    go false = h x
