-- The pass that marks the neighbours of a position.
use mathlib.Core.Path.{◌≡◌, refl, sym, ap, ◌∙◌}
use mathlib.Core.List.{List}
use mathlib.Core.Bool.{Bool, true, false, ◌&&◌, ◌||◌}
use Prim.Native.Nat.{ℕ, ◌+◌, ◌≤◌, ◌<◌}
use native.Mathlib.Decide.{ℕ_discrete}
use native.Mathlib.Numerals.{add-one}
use native.Mathlib.Omega.{arith}
use lib.Dec.{eqb}
use lib.ListN.{length, get_or, set}
use borrow.Author.Tests.{eq-eqb, ne_eqb, eqb-true}
use Rattle.base.specs.Pick.{pick}
use Rattle.tree.specs.Edges.{Edge, ends, adjacent}
use Rattle.edges.specs.Rows.{rows}
use Rattle.marks.specs.Marks.{marked}
use Rattle.marks.proofs.Marks.{marked_same, marked_other}
use Rattle.tree_pass.specs.Inner.{Rows, noted, beside}
use Rattle.tree_pass.proofs.Rows.{row, below_row}

-- ---- one row

or_false : (a : Bool) → a ≡ a || false
or_false true = refl
or_false false = refl

or_true : (a : Bool) → true ≡ a || true
or_true true = refl
or_true false = refl

and_false : (a : Bool) → false ≡ a && false
and_false true = refl
and_false false = refl

noted_mark : (ins near : List ℕ) (w x : ℕ) → w < length near → marked (noted ins near w) x ≡ (marked near x || (marked ins x && eqb x w))
unfolding noted
noted_mark ins near w x l = go (ℕ_discrete x w)
  where
    here : (b : Bool) → marked (pick b (set near w 1) near) w ≡ (marked near w || (b && true))
    here true = marked_same near w 1 l ∙ or_true (marked near w)
    here false = or_false (marked near w)

    away : (b c : Bool) → (x ≡ w → ⊥) → marked (pick b (set near w 1) near) x ≡ (marked near x || (c && false))
    away true c d = marked_other near w x 1 d ∙ or_false (marked near x) ∙ ap (λ (t : Bool). marked near x || t) (and_false c)
    away false c d = or_false (marked near x) ∙ ap (λ (t : Bool). marked near x || t) (and_false c)

    go : Dec (x ≡ w) → marked (pick (marked ins w) (set near w 1) near) x ≡ (marked near x || (marked ins x && eqb x w))
    go (yes e) = rw (eq-eqb x w e, e) (here (marked ins w))
    go (no d) = rw (ne_eqb x w d) (away (marked ins w) (marked ins x) d)

-- the row marks the members that it joins to c
beside_ends : (ins near : List ℕ) (c : ℕ) (e : Edge) → e.one < length near → e.two < length near → (x : ℕ)
    → marked (beside ins near c e.one e.two) x ≡ (marked near x || (marked ins x && ends e c x))
unfolding beside ends
beside_ends ins near c e lp lv x = go (eqb c p) (eqb c v) refl refl
  where
    p : ℕ
    p = e.one

    v : ℕ
    v = e.two

    same : (a : Bool) → a ≡ a || a
    same true = refl
    same false = refl

    go : (a b : Bool) → eqb c p ≡ a → eqb c v ≡ b → marked (pick a (noted ins near v) (pick b (noted ins near p) near)) x ≡ (marked near x || (marked ins x && ((a && eqb x v) || (b && eqb x p))))
    go true true i j =
        let k : p ≡ v = sym (eqb-true c p i) ∙ eqb-true c v j in
        noted_mark ins near v x lv ∙ ap (λ (t : Bool). marked near x || (marked ins x && t)) (same (eqb x v) ∙ ap (λ (z : ℕ). eqb x v || eqb x z) (sym k))
    go true false i j = noted_mark ins near v x lv ∙ ap (λ (t : Bool). marked near x || (marked ins x && t)) (or_false (eqb x v))
    go false true i j = noted_mark ins near p x lp
    go false false i j = or_false (marked near x) ∙ ap (λ (t : Bool). marked near x || t) (and_false (marked ins x))

-- ---- the pass

-- besides those of near₀ the members are marked that the first i rows join to c
abbrev pub Near : List ℕ → List ℕ → List ℕ → List ℕ → ℕ → ℕ → List ℕ → Type 0
Near ps cs ins near₀ c i near = (x : ℕ) → marked near x ≡ (marked near₀ x || (marked ins x && adjacent (rows ps cs i) c x))

pub near_start : (ps cs ins near : List ℕ) (c : ℕ) → Near ps cs ins near c 0 near
unfolding adjacent rows
near_start ps cs ins near c x = or_false (marked near x) ∙ ap (λ (t : Bool). marked near x || t) (and_false (marked ins x))

pub near_more : (ps cs ins near₀ : List ℕ) (c n m i : ℕ) (near near' : List ℕ) (p v : ℕ) → Rows ps cs n m → n ≤ length near → i < m → p ≡ get_or ps i 0 → v ≡ get_or cs i 0 → near' ≡ beside ins near c p v
    → Near ps cs ins near₀ c i near → Near ps cs ins near₀ c (i + 1) near'
unfolding adjacent rows
near_more ps cs ins near₀ c n m i near near' p v R l h a b e k x =
    let w = below_row ps cs n m R i h in
    rw (e, a, b, add-one i)
    (beside_ends ins near c (row ps cs i) (omega (arith, w.0)) (omega (arith, w.1)) x
    ∙ ap (λ (t : Bool). t || (marked ins x && ends (row ps cs i) c x)) (k x)
    ∙ regroup (marked near₀ x) (marked ins x) (adjacent (rows ps cs i) c x) (ends (row ps cs i) c x))
  where
    regroup : (n s a b : Bool) → ((n || (s && a)) || (s && b)) ≡ (n || (s && (b || a)))
    regroup true s a b = refl
    regroup false true true true = refl
    regroup false true true false = refl
    regroup false true false true = refl
    regroup false true false false = refl
    regroup false false a b = refl
