-- The passes over a forest: the sizes of subtrees at the end of their pass, and the pass that clears the marks of members that are not light.
use mathlib.Core.Path.{◌≡◌, refl, sym, ap, ap₂, ◌∙◌, subst}
use mathlib.Core.List.{List, [], ◌∷◌, ◌++◌}
use mathlib.Core.Bool.{Bool, true, false, not, ◌&&◌, ◌||◌}
use Prim.Native.Nat.{ℕ, ◌+◌, ◌-◌, ◌≤◌, ◌<◌}
use native.Mathlib.Decide.{ℕ_discrete, dec_lt}
use native.Mathlib.Numerals.{add-one}
use native.Mathlib.Omega.{arith}
use lib.Dec.{T, eqb, ltb}
use lib.ListN.{length, get_or, take, drop, replicate, get_or-append}
use borrow.Author.Tests.{lt-ltb, le-ltb, ltb-false}
use Rattle.std.proofs.lemmas.List.{length-take-le, get_or-take, get_or-drop, get_or-append_right}
use Rattle.base.specs.Pick.{pick}
use Rattle.base.specs.Sets.{Set, bit}
use Rattle.base.proofs.Bools.{not-T→false}
use Rattle.tree.specs.Edges.{Edges, Below, label}
use Rattle.tree.specs.Inner.{up, subtree, shows}
use Rattle.tree_rounds.specs.Inner.{bad_in}
use Rattle.tree_rounds.proofs.BlockCentres.{shown_given}
use Rattle.edges.specs.Rows.{rows}
use Rattle.marks.specs.Marks.{marked}
use Rattle.marks.proofs.Marks.{zeros, on, mark_bit}
use Rattle.tree_pass.specs.Inner.{Rows}
use Rattle.tree_pass.proofs.Rows.{row, below_row}
use Rattle.tree_pass_centre.specs.Inner.{cleared}
use Rattle.tree_pass_centre.proofs.SizePass.{Climbed}
use Rattle.tree_pass_centre.proofs.LightPass.{and_true, cleared_shows}
use Rattle.tree_pass_forest.specs.Inner.{size_at, size_by, light_in}

-- when no row is left to lift, each position holds its size
pub climbed_end : (ps cs : List ℕ) (S : Set) (n m i : ℕ) (sub : List ℕ) → i ≡ 0 → Climbed ps cs S n m i sub → (x : ℕ) → x < n → get_or sub x 0 ≡ subtree S (rows ps cs m) x
unfolding up rows
climbed_end ps cs S n m i sub e k x l = subst (λ (z : ℕ). up S (rows ps cs z) (λ y. get_or sub y 0) x ≡ subtree S (rows ps cs m) x) e (k x l)

-- ---- the pass

-- the marks that the first i rows leave of light₀
abbrev pub Left : List ℕ → List ℕ → List ℕ → List ℕ → List ℕ → List ℕ → ℕ → List ℕ → Type 0
Left ps cs ins labels sub light₀ i light = (x : ℕ) → marked light x ≡ marked light₀ x && not (bad_in (marked ins) (λ y. get_or sub y 0) (size_at labels sub) (rows ps cs i) x)

pub left_start : (ps cs ins labels sub light : List ℕ) → Left ps cs ins labels sub light 0 light
unfolding bad_in rows
left_start ps cs ins labels sub light x = and_true (marked light x)

pub left_more : (ps cs ins labels sub light₀ : List ℕ) (n m i : ℕ) (light light' : List ℕ) (s p v : ℕ) → Rows ps cs n m → n ≤ length light → i < m → p ≡ get_or ps i 0 → v ≡ get_or cs i 0
    → s ≡ size_at labels sub v → light' ≡ cleared ins sub light s p v → Left ps cs ins labels sub light₀ i light → Left ps cs ins labels sub light₀ (i + 1) light'
unfolding bad_in rows
left_more ps cs ins labels sub light₀ n m i light light' s p v R l h a b z e k x =
    let w = below_row ps cs n m R i h in
    rw (e, z, a, b, add-one i)
    (cleared_shows ins sub light (size (get_or cs i 0)) (row ps cs i) (omega (arith, w.0)) (omega (arith, w.1)) x
    ∙ ap (λ (t : Bool). t && not (shows S f (size (get_or cs i 0)) (row ps cs i) x)) (k x)
    ∙ regroup (marked light₀ x) (bad_in S f size (rows ps cs i) x) (shows S f (size (get_or cs i 0)) (row ps cs i) x))
  where
    S : Set
    S = marked ins

    f : ℕ → ℕ
    f y = get_or sub y 0

    size : ℕ → ℕ
    size = size_at labels sub

    regroup : (a b c : Bool) → (a && not b) && not c ≡ a && not (c || b)
    regroup true true true = refl
    regroup true true false = refl
    regroup true false true = refl
    regroup true false false = refl
    regroup false b c = refl

-- ---- what the passes read

-- labels are positions
pub label_below : (n : ℕ) (S : Set) (F : Edges) → Below n F → (x : ℕ) → x < n → label S F x < n
unfolding label
label_below n S [] b x l = l
label_below n S (e ∷ F) b x l = go ((S e.one && S e.two) && eqb (label S F x) (label S F e.two)) (label_below n S F b.2 e.one b.0) (label_below n S F b.2 x l)
  where
    go : (t : Bool) → label S F e.one < n → label S F x < n → pick t (label S F e.one) (label S F x) < n
    go true h k = h
    go false h k = k

-- the first n of some numbers, and 0 after them
pub copied_part : (ins front : List ℕ) (n k : ℕ) → n ≤ length ins → front ≡ take n ins → (x : ℕ) → get_or (front ++ drop n (replicate k 0)) x 0 ≡ pick (ltb x n) (get_or ins x 0) 0
copied_part ins front n k l e x = rw e (go (dec_lt x n))
  where
    rest : List ℕ
    rest = drop n (replicate k 0)

    m : length (take n ins) ≡ n
    m = length-take-le n ins l

    go : Dec (x < n) → get_or (take n ins ++ rest) x 0 ≡ pick (ltb x n) (get_or ins x 0) 0
    go (yes h) = rw (lt-ltb x n h) (get_or-append (take n ins) rest 0 x (omega (arith, m)) ∙ get_or-take n ins x 0 h)
    go (no d) =
        let h : n ≤ x = omega arith in
        rw (le-ltb x n h) (get_or-append_right (take n ins) rest n x 0 m h ∙ get_or-drop n (replicate k 0) (x - n) 0 ∙ zeros k (n + (x - n)))

-- the marks of the first n positions are the set's, if it has no others
module _ (ins copy : List ℕ) (n : ℕ) (e : (x : ℕ) → get_or copy x 0 ≡ pick (ltb x n) (get_or ins x 0) 0) where
  pub copy_marked : ((x : ℕ) → T (marked ins x) → x < n) → (x : ℕ) → marked copy x ≡ marked ins x
  unfolding marked
  copy_marked below x = ap (λ (z : ℕ). eqb z 1) (e x) ∙ go (ltb x n) refl
    where
      go : (t : Bool) → ltb x n ≡ t → eqb (pick t (get_or ins x 0) 0) 1 ≡ eqb (get_or ins x 0) 1
      go true k = refl
      go false k = sym (not-T→false (eqb (get_or ins x 0) 1) (λ p. omega (arith, below x p, ltb-false x n k)))

  pub copy_bit : ((x : ℕ) → get_or ins x 0 ≤ 1) → (x : ℕ) → x < n → get_or copy x 0 ≡ bit (marked ins x)
  copy_bit h x l = e x ∙ ap (λ (t : Bool). pick t (get_or ins x 0) 0) (lt-ltb x n l) ∙ mark_bit ins x (h x)

-- the marks that are left of the set's are the light members
pub left_light : (ps cs ins labels sub light₀ light : List ℕ) (n m : ℕ) → Rows ps cs n m → ((x : ℕ) → T (marked ins x) → x < n) → ((x : ℕ) → marked light₀ x ≡ marked ins x) → ((x : ℕ) → x < n → get_or labels x 0 ≡ label (marked ins) (rows ps cs m) x)
    → ((x : ℕ) → x < n → get_or sub x 0 ≡ subtree (marked ins) (rows ps cs m) x) → Left ps cs ins labels sub light₀ m light → (x : ℕ) → marked light x ≡ light_in (marked ins) (rows ps cs m) x
unfolding light_in
left_light ps cs ins labels sub light₀ light n m R below e h k q x =
    q x ∙ ap₂ (λ (s t : Bool). s && not t) (e x) (shown_given A (λ y. get_or sub y 0) (subtree A F) (size_at labels sub) (size_by A F) (λ y p. k y (below y p)) size F x)
  where
    A : Set
    A = marked ins

    F : Edges
    F = rows ps cs m

    size : (y : ℕ) → T (A y) → size_at labels sub y ≡ size_by A F y
    size y p = let l : y < n = below y p in ap (λ (z : ℕ). get_or sub z 0) (h y l) ∙ k (label A F y) (label_below n A F R.below y l)

-- labels found are places of an array of n or more
pub labels_below : (ps cs ins labels : List ℕ) (n m k : ℕ) → Rows ps cs n m → n ≤ k → ((x : ℕ) → x < n → get_or labels x 0 ≡ label (marked ins) (rows ps cs m) x) → (x : ℕ) → x < n → get_or labels x 0 < k
labels_below ps cs ins labels n m k R i h x l = omega (arith, h x l, label_below n (marked ins) (rows ps cs m) R.below x l)

-- a number at most 1 that is no member's is 0
pub none_at : (ins : List ℕ) (n : ℕ) → ((x : ℕ) → get_or ins x 0 ≤ 1) → ((x : ℕ) → T (marked ins x) → x < n) → get_or ins n 0 ≡ 0
none_at ins n h below = go (ℕ_discrete (get_or ins n 0) 1)
  where
    go : Dec (get_or ins n 0 ≡ 1) → get_or ins n 0 ≡ 0
    go (yes e) = absurd (omega (arith, below n (on ins n e)))
    go (no d) = omega (arith, h n)
