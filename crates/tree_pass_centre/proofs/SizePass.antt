-- The pass back that adds up the sizes of subtrees.
use mathlib.Core.Path.{◌≡◌, refl, sym, ap, ◌∙◌, subst}
use mathlib.Core.List.{List, [], ◌∷◌}
use mathlib.Core.Bool.{Bool, true, false, ◌&&◌}
use Prim.Native.Nat.{ℕ, suc, ◌+◌, ◌-◌, ◌≤◌, ◌<◌}
use native.Mathlib.Decide.{ℕ_discrete}
use native.Mathlib.Omega.{arith}
use lib.Dec.{T, eqb}
use lib.ListN.{length, get_or, set}
use lib.Seq.{get_or-set_same, get_or-set_other}
use borrow.Author.Tests.{eq-eqb, ne_eqb}
use Rattle.base.specs.Limits.{max_vertices}
use Rattle.base.specs.Pick.{pick}
use Rattle.base.specs.Sets.{Set, bit}
use Rattle.base.proofs.Counts.{count_le}
use Rattle.tree.specs.Edges.{Edge, Edges, Below}
use Rattle.tree.specs.Growth.{reached}
use Rattle.tree.specs.Inner.{Grown, inside, lift, up, subtree}
use Rattle.tree.proofs.Growth.{reached_old}
use Rattle.tree.proofs.GrowthSizes.{up_same, up_least, up_most}
use Rattle.edges.specs.Rows.{rows}
use Rattle.marks.specs.Marks.{marked}
use Rattle.tree_pass.specs.Inner.{Rows}
use Rattle.tree_pass_centre.specs.Inner.{raised, Room}
use Rattle.tree_pass.proofs.Rows.{row, below_row, grown_row, reached_later, both}

-- below x every member counts one
abbrev Ones : List ℕ → ℕ → List ℕ → Type 0
Ones ins x sub = (y : ℕ) → y < x → get_or sub y 0 ≡ bit (marked ins y)

-- ---- one row

-- it does to the array what `lift` does to what the positions hold
raised_lift : (ins sub : List ℕ) (e : Edge) → e.one < length sub → (y : ℕ) → get_or (raised ins sub e.one e.two) y 0 ≡ lift (marked ins) e (λ z. get_or sub z 0) y
unfolding raised lift
raised_lift ins sub e l y = go (marked ins p && marked ins v) (ℕ_discrete y p)
  where
    p : ℕ
    p = e.one

    v : ℕ
    v = e.two

    go : (a : Bool) → Dec (y ≡ p) → get_or (pick a (set sub p (get_or sub p 0 + get_or sub v 0)) sub) y 0 ≡ pick (a && eqb y p) (get_or sub y 0 + get_or sub v 0) (get_or sub y 0)
    go true (yes i) = rw (eq-eqb y p i, i) (get_or-set_same sub p (get_or sub p 0 + get_or sub v 0) 0 l)
    go true (no d) = rw (ne_eqb y p d) (get_or-set_other sub p y (get_or sub p 0 + get_or sub v 0) 0 d)
    go false d = refl

-- ---- the pass

-- what the first i rows still have to lift gives the sizes
abbrev pub Climbed : List ℕ → List ℕ → Set → ℕ → ℕ → ℕ → List ℕ → Type 0
Climbed ps cs S n m i sub = (x : ℕ) → x < n → up S (rows ps cs i) (λ y. get_or sub y 0) x ≡ subtree S (rows ps cs m) x

pub climbed_start : (ps cs ins : List ℕ) (n m : ℕ) (sub : List ℕ) → Rows ps cs n m → Ones ins n sub → Climbed ps cs (marked ins) n m m sub
unfolding subtree
climbed_start ps cs ins n m sub R h x l = up_same n (marked ins) (rows ps cs m) R.below _ _ h x l

-- row i is done
climbed_row : (ps cs ins : List ℕ) (n m i : ℕ) (sub sub' : List ℕ) (p v : ℕ) → Rows ps cs n m → n ≤ length sub → i < m → p ≡ get_or ps i 0 → v ≡ get_or cs i 0 → sub' ≡ raised ins sub p v
    → Climbed ps cs (marked ins) n m (suc i) sub → Climbed ps cs (marked ins) n m i sub'
unfolding rows up
climbed_row ps cs ins n m i sub sub' p v R l h a b e k x q =
    let w : Below n (row ps cs i ∷ rows ps cs i) = below_row ps cs n m R i h in
    rw (e, a, b) (up_same n (marked ins) (rows ps cs i) w.2 _ _ (λ y z. raised_lift ins sub (row ps cs i) (omega (arith, w.0)) y) x q ∙ k x q)

-- a sum that is made is at most n
climbed_most : (ps cs ins : List ℕ) (n m i : ℕ) (sub : List ℕ) → Rows ps cs n m → i < m → Climbed ps cs (marked ins) n m (suc i) sub
    → get_or ins (get_or ps i 0) 0 ≡ 1 → get_or ins (get_or cs i 0) 0 ≡ 1 → get_or sub (get_or ps i 0) 0 + get_or sub (get_or cs i 0) 0 ≤ n
unfolding rows up lift subtree
climbed_most ps cs ins n m i sub R h k a b =
    omega (
      arith,
      k p w.0,
      up_least S (rows ps cs i) (lift S (row ps cs i) (λ z. get_or sub z 0)) p,
      at,
      up_most n S (rows ps cs m) R.grown R.below R.some p (reached_later ps cs (suc i) m h p (reached_old (row ps cs i) (rows ps cs i) p g.0)),
      count_le n S,
    )
  where
    S : Set
    S = marked ins

    p : ℕ
    p = get_or ps i 0

    v : ℕ
    v = get_or cs i 0

    w : Below n (row ps cs i ∷ rows ps cs i)
    w = below_row ps cs n m R i h

    g : Grown (row ps cs i ∷ rows ps cs i)
    g = grown_row ps cs n m R i h

    at : pick (inside S (row ps cs i) && eqb p p) (get_or sub p 0 + get_or sub v 0) (get_or sub p 0) ≡ get_or sub p 0 + get_or sub v 0
    at = rw (both ins p v a b, eq-eqb p p refl)

-- what is not reached keeps what it holds
kept : (S : Set) (F : Edges) → Grown F → (f : ℕ → ℕ) (v : ℕ) → (T (reached F v) → ⊥) → up S F f v ≡ f v
unfolding up lift
kept S [] g f v d = refl
kept S (e ∷ F) g f v d = kept S F g.2 (lift S e f) v (λ h. d (reached_old e F v h)) ∙ go (inside S e) (ℕ_discrete v e.one)
  where
    go : (a : Bool) → Dec (v ≡ e.one) → pick (a && eqb v e.one) (f v + f e.two) (f v) ≡ f v
    go a (yes i) = absurd (d (reached_old e F v (subst (λ z. T (reached F z)) (sym i) g.0)))
    go true (no i) = rw (ne_eqb v e.one i)
    go false (no i) = refl

-- a row's child holds its size as the row comes
pub climbed_child : (ps cs ins : List ℕ) (n m i : ℕ) (sub : List ℕ) → Rows ps cs n m → i < m → Climbed ps cs (marked ins) n m (suc i) sub
    → get_or sub (get_or cs i 0) 0 ≡ subtree (marked ins) (rows ps cs m) (get_or cs i 0)
unfolding rows up lift
climbed_child ps cs ins n m i sub R h k =
    let g : Grown (row ps cs i ∷ rows ps cs i) = grown_row ps cs n m R i h in
    let v : ℕ = get_or cs i 0 in
    let f : ℕ → ℕ = λ z. get_or sub z 0 in
    let d : v ≡ get_or ps i 0 → ⊥ = λ j. g.1 (subst (λ z. T (reached (rows ps cs i) z)) (sym j) g.0) in
    sym (kept (marked ins) (rows ps cs i) g.2 (lift (marked ins) (row ps cs i) f) v g.1 ∙ same (marked ins (get_or ps i 0) && marked ins v) v (get_or ps i 0) d (f v + f v) (f v))
    ∙ k v (below_row ps cs n m R i h).1
  where
    same : (a : Bool) (v p : ℕ) → (v ≡ p → ⊥) → (x y : ℕ) → pick (a && eqb v p) x y ≡ y
    same true v p d x y = rw (ne_eqb v p d)
    same false v p d x y = refl

pub one_less : (i : ℕ) → 0 < i → suc (i - 1) ≡ i
one_less i h = omega arith

pub climbed_more : (ps cs ins : List ℕ) (n m i : ℕ) (sub sub' : List ℕ) (p v : ℕ) → Rows ps cs n m → n ≤ length sub → 0 < i → i ≤ m → p ≡ get_or ps (i - 1) 0 → v ≡ get_or cs (i - 1) 0 → sub' ≡ raised ins sub p v
    → Climbed ps cs (marked ins) n m i sub → Climbed ps cs (marked ins) n m (i - 1) sub'
climbed_more ps cs ins n m i sub sub' p v R l z h a b e k = climbed_row ps cs ins n m (i - 1) sub sub' p v R l (omega arith) a b e (rw (one_less i z) k)

-- what the step asks
pub climbed_room : (ps cs ins : List ℕ) (n m i : ℕ) (sub : List ℕ) (p v : ℕ) → Rows ps cs n m → n ≤ max_vertices → 0 < i → i ≤ m → Climbed ps cs (marked ins) n m i sub → p ≡ get_or ps (i - 1) 0 → v ≡ get_or cs (i - 1) 0 → Room ins sub p v
climbed_room ps cs ins n m i sub p v R z y h k a b c d =
    omega (arith, climbed_most ps cs ins n m (i - 1) sub R (omega arith) (rw (one_less i y) k) (rw a at c) (rw b at d), ap (λ w. get_or sub w 0) a, ap (λ w. get_or sub w 0) b)
