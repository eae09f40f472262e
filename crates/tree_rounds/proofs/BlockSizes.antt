-- The sizes of a forest's components, found by one pass back over edges in growth order: the size of a component stands at its label.
use mathlib.Core.Path.{◌≡◌, refl, sym, ap, ◌∙◌, subst}
use mathlib.Core.Logic.{◌⊎◌, inl, inr}
use mathlib.Core.List.{[], ◌∷◌}
use mathlib.Core.Bool.{Bool, true, false, ◌&&◌}
use Prim.Native.Nat.{ℕ, ◌+◌, ◌≤◌, ◌<◌}
use native.Mathlib.Decide.{ℕ_discrete}
use native.Mathlib.Omega.{arith}
use lib.Dec.{T, eqb, eqb→eq, eqb_refl}
use Rattle.base.specs.Pick.{pick}
use Rattle.base.specs.Sets.{Set, bit, count}
use Rattle.base.proofs.Bools.{T_and, T-left, T-right, T-ext, T→true, not-T→false}
use Rattle.base.proofs.Counts.{member, count_le, count_pos, count_same}
use Rattle.tree.specs.Edges.{Edges, Below, label, joined}
use Rattle.tree.specs.Growth.{reached}
use Rattle.tree.specs.Inner.{Grown, inside, lift, up, subtree}
use Rattle.tree.proofs.Labels.{label_inside}
use Rattle.tree.proofs.Growth.{reached_apart, reached_split, alone, label_new, label_old}
use Rattle.tree.proofs.GrowthSizes.{total, total_same, count_total, weigh, under, under_new, under_leaf, under_deep, up_sum, up_least, up_most}
use Rattle.tree.proofs.GrowthLight.{Leads, leads_adjacent}
use Rattle.tree_rounds.specs.Inner.{block_of, Forest}
use Rattle.tree_rounds.proofs.Blocks.{block_in, block_own, block_edge}

-- a test that tells equality
equal : (x y : ℕ) → x ≡ y → eqb x y ≡ true
equal x y i = T→true (eqb x y) (subst (λ z. T (eqb x z)) i (eqb_refl x))

different : (x y : ℕ) → (x ≡ y → ⊥) → eqb x y ≡ false
different x y d = not-T→false (eqb x y) (λ h. d (eqb→eq x y h))

-- ---- the label of a position is the topmost of its component

label_none : (S : Set) (x : ℕ) → label S [] x ≡ x
unfolding label
label_none S x = refl

-- a label is its own label
pub label_twice : (S : Set) (F : Edges) → Grown F → (x : ℕ) → label S F (label S F x) ≡ label S F x
label_twice S [] g x = ap (label S []) (label_none S x)
label_twice S (e ∷ F) g x = go (ℕ_discrete x e.two) (label_twice S F g.2)
  where
    other : ((y : ℕ) → label S F (label S F y) ≡ label S F y) → (y : ℕ) → (y ≡ e.two → ⊥) → label S (e ∷ F) (label S F y) ≡ label S F y
    other ih y d = label_old S e F g (label S F y) (λ i. d (alone S F g.2 e.two g.1 y i)) ∙ ih y

    new : ((y : ℕ) → label S F (label S F y) ≡ label S F y) → (b : Bool) → S e.one && S e.two ≡ b
        → label S (e ∷ F) (pick b (label S F e.one) e.two) ≡ pick b (label S F e.one) e.two
    new ih true i = other ih e.one (reached_apart e F g e.one g.0)
    new ih false i = label_new S e F g ∙ ap (λ (b : Bool). pick b (label S F e.one) e.two) i

    go : Dec (x ≡ e.two) → ((y : ℕ) → label S F (label S F y) ≡ label S F y) → label S (e ∷ F) (label S (e ∷ F) x) ≡ label S (e ∷ F) x
    go (yes i) ih = rw (i, label_new S e F g) (new ih (S e.one && S e.two) refl)
    go (no d) ih = rw (label_old S e F g x d) (other ih x d)

-- ---- below it hangs the whole component

-- a sum of ones is a count
weighed : (n : ℕ) (U S : Set) → total n (λ x. weigh (U x) (bit (S x))) ≡ count n (λ x. S x && U x)
weighed n U S = total_same n _ _ (λ x l. at (U x) (S x)) ∙ sym (count_total n (λ x. S x && U x))
  where
    at : (u s : Bool) → weigh u (bit s) ≡ bit (s && u)
    at true true = refl
    at true false = refl
    at false true = refl
    at false false = refl

bit_one : (b : Bool) → 0 < bit b → T b
bit_one true l = tt
bit_one false l = absurd (omega arith)

reached_none : (u : ℕ) → T (reached [] u) → u ≡ 0
unfolding reached
reached_none u r = eqb→eq u 0 r

-- with no edge, 0 alone hangs below 0: seen from what the pass finds when x alone counts
under_none : (n : ℕ) (S : Set) (x : ℕ) → x < n → under S [] 0 x ≡ eqb x 0
unfolding up reached
under_none n S x l = T-ext (under S [] 0 x) (eqb x 0) fore rear
  where
    found : bit (eqb 0 x) ≡ count n (λ z. eqb z x && under S [] 0 z)
    found = up_sum n S [] tt tt (omega arith) (λ z. bit (eqb z x)) 0 (eqb_refl 0) ∙ weighed n (under S [] 0) (λ z. eqb z x)

    fore : T (under S [] 0 x) → T (eqb x 0)
    fore h =
        let k : 0 < count n (λ z. eqb z x && under S [] 0 z) = count_pos n _ x l (T_and (eqb x x) _ (eqb_refl x) h) in
        subst (λ z. T (eqb z 0)) (eqb→eq 0 x (bit_one (eqb 0 x) (omega (arith, found)))) (eqb_refl 0)

    rear : T (eqb x 0) → T (under S [] 0 x)
    rear h = at (member n (λ z. eqb z x && under S [] 0 z) (omega (arith, found, ap bit (equal 0 x (sym (eqb→eq x 0 h))))))
      where
        at : (z : ℕ) × (z < n) × T (eqb z x && under S [] 0 z) → T (under S [] 0 x)
        at (z, m, k) = subst (λ y. T (under S [] 0 y)) (eqb→eq z x (T-left (eqb z x) _ k)) (T-right (eqb z x) _ k)

-- below a position that is its own label hangs just what has that label
under_label : (n : ℕ) (S : Set) (F : Edges) → Grown F → Below n F → (u : ℕ) → T (reached F u) → label S F u ≡ u → (x : ℕ) → x < n → under S F u x ≡ eqb (label S F x) u
under_label n S [] g b u r h x l = rw (reached_none u r, label_none S x) (under_none n S x l)
under_label n S (e ∷ F) g b u r h x l = go (ℕ_discrete u e.two) (ℕ_discrete x e.two) (reached_split e F u r) (under_label n S F g.2 b.2 u)
  where
    -- the new end takes the label of the old one, or is apart
    leaf : (u ≡ e.two → ⊥) → (a : Bool) → under S F u e.one ≡ eqb (label S F e.one) u → a && under S F u e.one ≡ eqb (pick a (label S F e.one) e.two) u
    leaf d true i = i
    leaf d false i = sym (different e.two u (λ j. d (sym j)))

    go : Dec (u ≡ e.two) → Dec (x ≡ e.two) → (u ≡ e.two) ⊎ T (reached F u)
        → (T (reached F u) → label S F u ≡ u → (x : ℕ) → x < n → under S F u x ≡ eqb (label S F x) u) → under S (e ∷ F) u x ≡ eqb (label S (e ∷ F) x) u
    go (yes i) (yes j) q ih = under_new S e F u x i ∙ equal x u (j ∙ sym i) ∙ sym (equal (label S (e ∷ F) x) u (ap (label S (e ∷ F)) (j ∙ sym i) ∙ h))
    go (yes i) (no j) q ih =
        under_new S e F u x i ∙ different x u (λ k. j (k ∙ i))
        ∙ sym (different (label S (e ∷ F) x) u (λ k. j (alone S F g.2 e.two g.1 x (sym (label_old S e F g x j) ∙ k ∙ i))))
    go (no i) j (inl q) ih = absurd (i q)
    go (no i) (yes j) (inr q) ih =
        rw (j, under_leaf S e F u i, label_new S e F g) (leaf i (inside S e) (ih q (sym (label_old S e F g u i) ∙ h) e.one b.0))
    go (no i) (no j) (inr q) ih = rw (under_deep S e F u x i j, label_old S e F g x j) (ih q (sym (label_old S e F g u i) ∙ h) x l)

-- ---- one component of A alone

-- the pass over A is the pass over a part S of it that no edge inside A leaves
up_part : (A S : Set) (F : Edges) → ((x : ℕ) → T (S x) → T (A x)) → ((p u : ℕ) → Leads F p u → T (S p) → T (A u) → T (S u))
    → (f g : ℕ → ℕ) → ((x : ℕ) → T (S x) → f x ≡ g x) → (x : ℕ) → T (S x) → up S F f x ≡ up A F g x
unfolding up lift
up_part A S [] m c f g h x s = h x s
up_part A S (e ∷ F) m c f g h x s = up_part A S F m (λ p u r. c p u (inr r)) (lift S e f) (lift A e g) (λ y k. at y k (ℕ_discrete y e.one)) x s
  where
    none : (b : Bool) (j k : ℕ) → pick (b && false) j k ≡ k
    none true j k = refl
    none false j k = refl

    both : (y : ℕ) → T (S y) → (a b : Bool) → S e.two ≡ a → A e.two ≡ b → (T b → T a) → (T a → T b) → pick (a && true) (f y + f e.two) (f y) ≡ pick (b && true) (g y + g e.two) (g y)
    both y k true true i j p q = omega (arith, h y k, h e.two (subst T (sym i) tt))
    both y k true false i j p q = absurd (q tt)
    both y k false true i j p q = absurd (p tt)
    both y k false false i j p q = h y k

    at : (y : ℕ) → T (S y) → Dec (y ≡ e.one) → pick ((S e.one && S e.two) && eqb y e.one) (f y + f e.two) (f y) ≡ pick ((A e.one && A e.two) && eqb y e.one) (g y + g e.two) (g y)
    at y k (yes i) =
        let s₁ : T (S e.one) = subst (λ z. T (S z)) i k in
        rw (equal y e.one i, T→true (S e.one) s₁, T→true (A e.one) (m e.one s₁))
        (both y k (S e.two) (A e.two) refl refl (λ t. c e.one e.two (inl (refl, refl)) s₁ t) (m e.two))
    at y k (no d) = rw (different y e.one d) (none (inside S e) (f y + f e.two) (f y) ∙ h y k ∙ sym (none (inside A e) (g y + g e.two) (g y)))

-- the subtrees in a component are those in A
pub subtree_block : (F : Edges) (A : Set) (c u : ℕ) → T (block_of F A c u) → subtree (block_of F A c) F u ≡ subtree A F u
unfolding subtree
subtree_block F A c u s =
    up_part A (block_of F A c) F (block_in F A c) (λ p w r. block_edge F A c p w (leads_adjacent F p w r)) (λ x. bit (block_of F A c x)) (λ x. bit (A x))
    (λ x k. ap bit (T→true (block_of F A c x) k ∙ sym (T→true (A x) (block_in F A c x k)))) u s

module _ (F : Edges) (n : ℕ) (A : Set) (forest : Forest F n A) where
  -- the size of a component stands at its label
  pub block_size : (x : ℕ) → T (A x) → subtree A F (label A F x) ≡ count n (block_of F A x)
  unfolding subtree block_of joined
  block_size x p =
      let u : ℕ = label A F x in
      let r : T (reached F u) = forest.reach u (label_inside A F x p) in
      up_sum n A F forest.grown forest.ends forest.some (λ y. bit (A y)) u r
      ∙ weighed n (under A F u) A
      ∙ count_same n _ _ (λ y l. ap (λ (b : Bool). A y && b) (under_label n A F forest.grown forest.ends u r (label_twice A F forest.grown x) y l))

  -- ---- bounds, for code: a subtree has at least one position, and at most those of its component

  pub subtree_some : (x : ℕ) → T (A x) → 0 < subtree A F x
  unfolding subtree
  subtree_some x p = omega (arith, up_least A F (λ y. bit (A y)) x, ap bit (T→true (A x) p))

  pub subtree_within : (x : ℕ) → T (A x) → subtree A F x ≤ count n (block_of F A x)
  unfolding subtree
  subtree_within x p =
      omega (arith, subtree_block F A x x (block_own F A x p), up_most n (block_of F A x) F forest.grown forest.ends forest.some x (forest.reach x p))

  pub subtree_most : (x : ℕ) → T (A x) → subtree A F x ≤ n
  subtree_most x p = omega (arith, subtree_within x p, count_le n (block_of F A x))
