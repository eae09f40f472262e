-- The pass back clears the marks of members that are not light.
use mathlib.Core.Path.{◌≡◌, refl, ap, ◌∙◌, subst}
use mathlib.Core.List.{List}
use mathlib.Core.Bool.{Bool, true, false, not, ◌&&◌, ◌||◌}
use Prim.Native.Nat.{ℕ, suc, ◌-◌, ◌*◌, ◌≤◌, ◌<◌}
use native.Mathlib.Decide.{ℕ_discrete}
use native.Mathlib.Omega.{arith}
use lib.Dec.{T, eqb, ltb, ltb→lt, lt→ltb}
use lib.ListN.{length, get_or, set}
use borrow.Author.Tests.{eq-eqb, ne_eqb}
use Rattle.base.specs.Pick.{pick, smallest}
use Rattle.base.specs.Sets.{Set, count}
use Rattle.base.proofs.Bools.{T-ext}
use Rattle.base.proofs.Smallest.{smallest_same}
use Rattle.tree.specs.Edges.{Edge}
use Rattle.tree.specs.Inner.{inside, subtree, shows, bad, unshown}
use Rattle.edges.specs.Rows.{rows}
use Rattle.marks.specs.Marks.{marked}
use Rattle.marks.proofs.Marks.{marked_same, marked_other}
use Rattle.tree_pass.specs.Inner.{Rows}
use Rattle.tree_pass_centre.specs.Inner.{cleared}
use Rattle.tree_pass.proofs.Rows.{row, below_row}
use Rattle.tree_pass_centre.proofs.SizePass.{Climbed, climbed_child, one_less}

-- ---- one row

pub and_true : (a : Bool) → a ≡ a && true
and_true true = refl
and_true false = refl

-- a mark cleared
clear_mark : (m : List ℕ) (w x : ℕ) → w < length m → marked (set m w 0) x ≡ marked m x && not (eqb x w)
clear_mark m w x l = go (ℕ_discrete x w)
  where
    none : (a : Bool) → false ≡ a && false
    none true = refl
    none false = refl

    go : Dec (x ≡ w) → marked (set m w 0) x ≡ marked m x && not (eqb x w)
    go (yes e) = rw (eq-eqb x w e, e) (marked_same m w 0 l ∙ none (marked m w))
    go (no d) = rw (ne_eqb x w d) (marked_other m w x 0 d ∙ and_true (marked m x))

-- more than half lies on one side where less than half lies on the other
half : (s a : ℕ) → ltb (a * 2) s ≡ ltb s ((s - a) * 2)
half s a =
    T-ext (ltb (a * 2) s) (ltb s ((s - a) * 2))
    (λ h. let k : a * 2 < s = ltb→lt (a * 2) s h in lt→ltb s ((s - a) * 2) (omega arith))
    (λ h. let k : s < (s - a) * 2 = ltb→lt s ((s - a) * 2) h in lt→ltb (a * 2) s (omega arith))

-- the row clears the marks of what it shows
pub cleared_shows : (ins sub light : List ℕ) (s : ℕ) (e : Edge) → e.one < length light → e.two < length light → (x : ℕ)
    → marked (cleared ins sub light s e.one e.two) x ≡ marked light x && not (shows (marked ins) (λ y. get_or sub y 0) s e x)
unfolding cleared shows
cleared_shows ins sub light s e lp lv x = go (inside (marked ins) e) ∙ ap (λ (t : Bool). marked light x && not (inside (marked ins) e && ((eqb x p && ltb s (a * 2)) || (eqb x v && t)))) (half s a)
  where
    p : ℕ
    p = e.one

    v : ℕ
    v = e.two

    a : ℕ
    a = get_or sub v 0

    one : (b c : Bool) → not b ≡ not ((b && true) || (c && false))
    one true c = refl
    one false true = refl
    one false false = refl

    two : (b c : Bool) → not c ≡ not ((b && false) || (c && true))
    two true true = refl
    two true false = refl
    two false true = refl
    two false false = refl

    nil : (b c : Bool) → true ≡ not ((b && false) || (c && false))
    nil true true = refl
    nil true false = refl
    nil false true = refl
    nil false false = refl

    at : (t u : Bool) → (T t → T u → ⊥) → marked (pick t (set light p 0) (pick u (set light v 0) light)) x ≡ marked light x && not ((eqb x p && t) || (eqb x v && u))
    at true true d = absurd (d tt tt)
    at true false d = clear_mark light p x lp ∙ ap (λ (t : Bool). marked light x && t) (one (eqb x p) (eqb x v))
    at false true d = clear_mark light v x lv ∙ ap (λ (t : Bool). marked light x && t) (two (eqb x p) (eqb x v))
    at false false d = and_true (marked light x) ∙ ap (λ (t : Bool). marked light x && t) (nil (eqb x p) (eqb x v))

    go : (b : Bool) → marked (pick b (pick (ltb s (a * 2)) (set light p 0) (pick (ltb (a * 2) s) (set light v 0) light)) light) x
        ≡ marked light x && not (b && ((eqb x p && ltb s (a * 2)) || (eqb x v && ltb (a * 2) s)))
    go true = at (ltb s (a * 2)) (ltb (a * 2) s) (λ h k. let i : s < a * 2 = ltb→lt s (a * 2) h in let j : a * 2 < s = ltb→lt (a * 2) s k in omega arith)
    go false = and_true (marked light x)

-- a row shows by its child's size
shows_same : (S : Set) (f g : ℕ → ℕ) (s : ℕ) (e : Edge) (x : ℕ) → f e.two ≡ g e.two → shows S f s e x ≡ shows S g s e x
unfolding shows
shows_same S f g s e x i = rw i

-- ---- the pass

-- the members that the first i rows leave of the marks are those that all m rows leave of light₀; the sizes are those of subtrees
abbrev pub Left : List ℕ → List ℕ → Set → List ℕ → ℕ → ℕ → ℕ → List ℕ → Type 0
Left ps cs S light₀ s m i light =
    (x : ℕ) → marked light x && not (bad S (subtree S (rows ps cs m)) s (rows ps cs i) x) ≡ marked light₀ x && not (bad S (subtree S (rows ps cs m)) s (rows ps cs m) x)

-- row i is done
left_row : (ps cs ins sub light₀ : List ℕ) (s n m i : ℕ) (light light' : List ℕ) (p v : ℕ) → Rows ps cs n m → n ≤ length light → i < m → p ≡ get_or ps i 0 → v ≡ get_or cs i 0
    → Climbed ps cs (marked ins) n m (suc i) sub → light' ≡ cleared ins sub light s p v → Left ps cs (marked ins) light₀ s m (suc i) light → Left ps cs (marked ins) light₀ s m i light'
unfolding bad rows
left_row ps cs ins sub light₀ s n m i light light' p v R l h a b z e k x =
    let w = below_row ps cs n m R i h in
    rw (e, a, b)
    (ap (λ (t : Bool). t && not (bad S f s (rows ps cs i) x)) (cleared_shows ins sub light s (row ps cs i) (omega (arith, w.0)) (omega (arith, w.1)) x)
    ∙ ap (λ (t : Bool). (marked light x && not t) && not (bad S f s (rows ps cs i) x)) (shows_same S (λ y. get_or sub y 0) f s (row ps cs i) x (climbed_child ps cs ins n m i sub R h z))
    ∙ regroup (marked light x) (shows S f s (row ps cs i) x) (bad S f s (rows ps cs i) x)
    ∙ k x)
  where
    S : Set
    S = marked ins

    f : ℕ → ℕ
    f = subtree S (rows ps cs m)

    regroup : (a b c : Bool) → (a && not b) && not c ≡ a && not (b || c)
    regroup true true c = refl
    regroup true false c = refl
    regroup false b c = refl

pub left_more : (ps cs ins sub light₀ : List ℕ) (s n m i : ℕ) (light light' : List ℕ) (p v : ℕ) → Rows ps cs n m → n ≤ length light → 0 < i → i ≤ m → p ≡ get_or ps (i - 1) 0 → v ≡ get_or cs (i - 1) 0
    → Climbed ps cs (marked ins) n m i sub → light' ≡ cleared ins sub light s p v → Left ps cs (marked ins) light₀ s m i light → Left ps cs (marked ins) light₀ s m (i - 1) light'
left_more ps cs ins sub light₀ s n m i light light' p v R l z h a b k e j =
    left_row ps cs ins sub light₀ s n m (i - 1) light light' p v R l (omega arith) a b (rw (one_less i z) k) e (rw (one_less i z) j)

pub left_end : (ps cs : List ℕ) (S : Set) (light₀ : List ℕ) (s m i : ℕ) (light : List ℕ) → i ≡ 0 → Left ps cs S light₀ s m i light
    → (x : ℕ) → marked light x ≡ marked light₀ x && not (bad S (subtree S (rows ps cs m)) s (rows ps cs m) x)
unfolding bad rows
left_end ps cs S light₀ s m i light e k x =
    and_true (marked light x) ∙ subst (λ (z : ℕ). marked light x && not (bad S (subtree S (rows ps cs m)) s (rows ps cs z) x) ≡ marked light₀ x && not (bad S (subtree S (rows ps cs m)) s (rows ps cs m) x)) e (k x)

-- the marks that are left of the set's are the members that no row shows
pub left_unshown : (ps cs ins light : List ℕ) (s n m r : ℕ) → s ≡ count n (marked ins)
    → ((x : ℕ) → marked light x ≡ marked ins x && not (bad (marked ins) (subtree (marked ins) (rows ps cs m)) s (rows ps cs m) x))
    → r ≡ smallest n (marked light) → r ≡ smallest n (unshown (rows ps cs m) n (marked ins))
unfolding unshown
left_unshown ps cs ins light s n m r e k q =
    q ∙ smallest_same n (marked light) (unshown (rows ps cs m) n (marked ins)) (λ i l. k i
    ∙ ap (λ (z : ℕ). marked ins i && not (bad (marked ins) (subtree (marked ins) (rows ps cs m)) z (rows ps cs m) i)) e)
