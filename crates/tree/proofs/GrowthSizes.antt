-- The sizes of subtrees of edges in growth order: what one pass back over the edges finds.
use mathlib.Core.Path.{◌≡◌, refl, sym, ap, ◌∙◌, subst}
use mathlib.Core.Logic.{◌⊎◌, inl, inr}
use mathlib.Core.List.{[], ◌∷◌}
use mathlib.Core.Bool.{Bool, true, false, ◌&&◌}
use Prim.Native.Nat.{ℕ, zero, suc, ◌+◌, ◌≤◌, ◌<◌}
use native.Mathlib.Decide.{ℕ_discrete}
use native.Mathlib.Omega.{arith}
use lib.Dec.{T, eqb, eqb→eq, eqb_refl}
use Rattle.base.specs.Pick.{pick}
use Rattle.base.specs.Sets.{Set, bit, count}
use Rattle.base.proofs.Bools.{T→true, not-T→false}
use Rattle.tree.specs.Edges.{Edge, Edges, Below}
use Rattle.tree.specs.Inner.{Grown, inside, lift, up}
use Rattle.tree.specs.Growth.{reached}
use Rattle.tree.proofs.Growth.{reached_new, reached_old, reached_split, reached_apart}

-- ---- sums over 0 .. n-1

unfoldable pub total : ℕ → (ℕ → ℕ) → ℕ
total zero f = 0
total (suc n) f = f n + total n f

pub total_same : (n : ℕ) (a b : ℕ → ℕ) → ((x : ℕ) → x < n → a x ≡ b x) → total n a ≡ total n b
unfolding total
total_same zero a b h = refl
total_same (suc n) a b h = omega (arith, h n (omega arith), total_same n a b (λ x l. h x (omega arith)))

-- a count is a sum
pub count_total : (n : ℕ) (f : Set) → count n f ≡ total n (λ x. bit (f x))
unfolding count total
count_total zero f = refl
count_total (suc n) f = omega (arith, count_total n f)

-- two sums that differ at one place
total_more : (n : ℕ) (a b : ℕ → ℕ) (p k : ℕ) → p < n → a p ≡ b p + k → ((x : ℕ) → (x ≡ p → ⊥) → a x ≡ b x) → total n a ≡ total n b + k
unfolding total
total_more zero a b p k l e h = absurd (omega arith)
total_more (suc n) a b p k l e h = go (ℕ_discrete p n) (total_more n a b p k)
  where
    go : Dec (p ≡ n) → (p < n → a p ≡ b p + k → ((x : ℕ) → (x ≡ p → ⊥) → a x ≡ b x) → total n a ≡ total n b + k) → a n + total n a ≡ b n + total n b + k
    go (yes i) ih = omega (arith, e, ap a i, ap b i, total_same n a b (λ x m. h x (λ j. omega arith)))
    go (no d) ih = omega (arith, h n (λ j. d (sym j)), ih (omega arith) e h)

total_none : (n : ℕ) → total n (λ _. 0) ≡ 0
unfolding total
total_none zero = refl
total_none (suc n) = omega (arith, total_none n)

-- k where the test holds, else nothing
abbrev pub weigh : Bool → ℕ → ℕ
weigh b k = pick b k 0

-- a test that tells equality
equal : (x y : ℕ) → x ≡ y → eqb x y ≡ true
equal x y i = T→true (eqb x y) (subst (λ z. T (eqb x z)) i (eqb_refl x))

different : (x y : ℕ) → (x ≡ y → ⊥) → eqb x y ≡ false
different x y d = not-T→false (eqb x y) (λ h. d (eqb→eq x y h))

total_one : (n u : ℕ) (f : ℕ → ℕ) → u < n → total n (λ x. weigh (eqb x u) (f x)) ≡ f u
total_one n u f l =
    total_more n (λ x. weigh (eqb x u) (f x)) (λ _. 0) u (f u) l (rw (equal u u refl) (omega arith)) (λ x d. rw (different x u d)) ∙ omega (arith, total_none n)

-- ---- what hangs below a position

-- x hangs below u by edges inside S
pub under : Set → Edges → ℕ → ℕ → Bool
under S [] u x = eqb x u
under S (e ∷ F) u x = pick (eqb u e.two) (eqb x u) (pick (eqb x e.two) (inside S e && under S F u e.one) (under S F u x))

-- nothing but itself hangs below the new end
pub under_new : (S : Set) (e : Edge) (F : Edges) (u x : ℕ) → u ≡ e.two → under S (e ∷ F) u x ≡ eqb x u
unfolding under
under_new S e F u x i = rw (equal u e.two i)

-- the new end hangs where the old one does, if both are in S
pub under_leaf : (S : Set) (e : Edge) (F : Edges) (u : ℕ) → (u ≡ e.two → ⊥) → under S (e ∷ F) u e.two ≡ inside S e && under S F u e.one
unfolding under
under_leaf S e F u d = rw (different u e.two d, equal e.two e.two refl)

-- and for the others nothing changes
pub under_deep : (S : Set) (e : Edge) (F : Edges) (u x : ℕ) → (u ≡ e.two → ⊥) → (x ≡ e.two → ⊥) → under S (e ∷ F) u x ≡ under S F u x
unfolding under
under_deep S e F u x d f = rw (different u e.two d, different x e.two f)

-- what is not reached hangs below nothing that is
under_fresh : (S : Set) (F : Edges) → Grown F → (u v : ℕ) → T (reached F u) → (T (reached F v) → ⊥) → under S F u v ≡ false
unfolding under reached
under_fresh S [] g u v r d = different v u (λ i. d (subst (λ z. T (eqb z 0)) (sym i) r))
under_fresh S (e ∷ F) g u v r d = go (ℕ_discrete u e.two) (reached_split e F u r) (under_fresh S F g.2 u v)
  where
    v≠ : v ≡ e.two → ⊥
    v≠ i = d (subst (λ z. T (reached (e ∷ F) z)) (sym i) (reached_new e F))

    go : Dec (u ≡ e.two) → (u ≡ e.two) ⊎ T (reached F u) → (T (reached F u) → (T (reached F v) → ⊥) → under S F u v ≡ false) → under S (e ∷ F) u v ≡ false
    go (yes i) q ih = under_new S e F u v i ∙ different v u (λ j. v≠ (j ∙ i))
    go (no i) (inl j) ih = absurd (i j)
    go (no i) (inr q) ih = under_deep S e F u v i v≠ ∙ ih q (λ h. d (reached_old e F v h))

-- ---- the pass adds up what hangs below

-- what is not reached keeps what it holds
up_fresh : (S : Set) (F : Edges) → Grown F → (f : ℕ → ℕ) (v : ℕ) → (T (reached F v) → ⊥) → up S F f v ≡ f v
unfolding up lift
up_fresh S [] g f v d = refl
up_fresh S (e ∷ F) g f v d = up_fresh S F g.2 (lift S e f) v (λ h. d (reached_old e F v h)) ∙ go (inside S e) (ℕ_discrete v e.one)
  where
    go : (a : Bool) → Dec (v ≡ e.one) → pick (a && eqb v e.one) (f v + f e.two) (f v) ≡ f v
    go a (yes i) = absurd (d (reached_old e F v (subst (λ z. T (reached F z)) (sym i) g.0)))
    go true (no i) = rw (different v e.one i)
    go false (no i) = refl

-- one edge: what U holds with the second end's load on the first is what U with the second end holds
one_edge : (n : ℕ) (S : Set) (e : Edge) (U U' : Set) (f : ℕ → ℕ) → e.one < n → e.two < n
    → U e.two ≡ false → U' e.two ≡ inside S e && U e.one → ((x : ℕ) → (x ≡ e.two → ⊥) → U' x ≡ U x)
    → total n (λ x. weigh (U x) (lift S e f x)) ≡ total n (λ x. weigh (U' x) (f x))
unfolding lift
one_edge n S e U U' f lp lv h₀ h₁ h₂ = loads ∙ sym grows
  where
    p : ℕ
    p = e.one

    v : ℕ
    v = e.two

    b : Bool
    b = inside S e

    at : (b u : Bool) → weigh u (pick (b && true) (f p + f v) (f p)) ≡ weigh u (f p) + weigh (b && u) (f v)
    at true true = refl
    at true false = refl
    at false true = omega arith
    at false false = refl

    off : (b u : Bool) (x : ℕ) → weigh u (pick (b && false) (f x + f v) (f x)) ≡ weigh u (f x)
    off true u x = refl
    off false u x = refl

    -- the first end is loaded
    loads : total n (λ x. weigh (U x) (pick (b && eqb x p) (f x + f v) (f x))) ≡ total n (λ x. weigh (U x) (f x)) + weigh (b && U p) (f v)
    loads =
        total_more n (λ x. weigh (U x) (pick (b && eqb x p) (f x + f v) (f x))) (λ x. weigh (U x) (f x)) p (weigh (b && U p) (f v)) lp
        (rw (equal p p refl) (at b (U p))) (λ x d. rw (different x p d) (off b (U x) x))

    -- the set grows by the second
    grows : total n (λ x. weigh (U' x) (f x)) ≡ total n (λ x. weigh (U x) (f x)) + weigh (b && U p) (f v)
    grows = total_more n (λ x. weigh (U' x) (f x)) (λ x. weigh (U x) (f x)) v (weigh (b && U p) (f v)) lv (rw (h₀, h₁) (omega arith)) (λ x d. rw (h₂ x d))

lift_new : (S : Set) (e : Edge) (f : ℕ → ℕ) → (e.two ≡ e.one → ⊥) → lift S e f e.two ≡ f e.two
unfolding lift
lift_new S e f d = rw (different e.two e.one d) (at (inside S e))
  where
    at : (b : Bool) → pick (b && false) (f e.two + f e.two) (f e.two) ≡ f e.two
    at true = refl
    at false = refl

-- after the pass a reached position holds the sum of what hung below it
pub up_sum : (n : ℕ) (S : Set) (F : Edges) → Grown F → Below n F → 0 < n → (f : ℕ → ℕ) (u : ℕ) → T (reached F u) → up S F f u ≡ total n (λ x. weigh (under S F u x) (f x))
unfolding up under reached
up_sum n S [] g b l f u r = sym (total_one n u f (rw (eqb→eq u 0 r) l))
up_sum n S (e ∷ F) g b l f u r = go (ℕ_discrete u e.two) (reached_split e F u r) (up_sum n S F g.2 b.2 l (lift S e f) u)
  where
    ne : e.two ≡ e.one → ⊥
    ne i = reached_apart e F g e.one g.0 (sym i)

    go : Dec (u ≡ e.two) → (u ≡ e.two) ⊎ T (reached F u) → (T (reached F u) → up S F (lift S e f) u ≡ total n (λ x. weigh (under S F u x) (lift S e f x)))
        → up S F (lift S e f) u ≡ total n (λ x. weigh (under S (e ∷ F) u x) (f x))
    go (yes i) q ih =
        rw i (up_fresh S F g.2 (lift S e f) e.two g.1 ∙ lift_new S e f ne ∙ sym (total_one n e.two f b.1)
        ∙ total_same n _ _ (λ x k. ap (λ z. weigh z (f x)) (sym (under_new S e F e.two x refl))))
    go (no d) (inl q) ih = absurd (d q)
    go (no d) (inr q) ih =
        ih q ∙ one_edge n S e (under S F u) (under S (e ∷ F) u) f b.0 b.1 (under_fresh S F g.2 u e.two q g.1) (under_leaf S e F u d) (λ x k. under_deep S e F u x d k)

-- ---- for code: what the pass reads, and bounds of what it holds

-- it reads only positions below n
pub up_same : (n : ℕ) (S : Set) (F : Edges) → Below n F → (f g : ℕ → ℕ) → ((y : ℕ) → y < n → f y ≡ g y) → (x : ℕ) → x < n → up S F f x ≡ up S F g x
unfolding up lift
up_same n S [] b f g h x l = h x l
up_same n S (e ∷ F) b f g h x l = up_same n S F b.2 (lift S e f) (lift S e g) (λ y k. at y k (inside S e && eqb y e.one)) x l
  where
    at : (y : ℕ) → y < n → (c : Bool) → pick c (f y + f e.two) (f y) ≡ pick c (g y + g e.two) (g y)
    at y k true = omega (arith, h y k, h e.two b.1)
    at y k false = h y k

-- what a position holds only grows
pub up_least : (S : Set) (F : Edges) (f : ℕ → ℕ) (x : ℕ) → f x ≤ up S F f x
unfolding up lift
up_least S [] f x = omega arith
up_least S (e ∷ F) f x = omega (arith, at (inside S e && eqb x e.one), up_least S F (lift S e f) x)
  where
    at : (c : Bool) → f x ≤ pick c (f x + f e.two) (f x)
    at true = omega arith
    at false = omega arith

total_most : (n : ℕ) (U S : Set) → total n (λ x. weigh (U x) (bit (S x))) ≤ count n S
unfolding total count
total_most zero U S = omega arith
total_most (suc n) U S = omega (arith, at (U n) (S n), total_most n U S)
  where
    at : (u s : Bool) → weigh u (bit s) ≤ bit s
    at true true = omega arith
    at true false = omega arith
    at false s = omega arith

-- a subtree has at most all members of S
pub up_most : (n : ℕ) (S : Set) (F : Edges) → Grown F → Below n F → 0 < n → (u : ℕ) → T (reached F u) → up S F (λ x. bit (S x)) u ≤ count n S
up_most n S F g b l u r = omega (arith, up_sum n S F g b l (λ x. bit (S x)) u r, total_most n (under S F u) S)
