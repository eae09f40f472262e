-- The pass that takes out of each large component its first light position.
use mathlib.Core.Path.{◌≡◌, refl, sym, ap, ap₂, ◌∙◌}
use mathlib.Core.List.{List}
use mathlib.Core.Bool.{Bool, true, false, not, ◌&&◌, ◌||◌}
use Prim.Native.Nat.{ℕ, ◌+◌, ◌<◌}
use native.Mathlib.Decide.{ℕ_discrete}
use native.Mathlib.Numerals.{add-one}
use native.Mathlib.Omega.{arith}
use lib.Dec.{eqb, leb, ltb, ltb→lt, lt→ltb}
use lib.ListN.{length, get_or, set}
use lib.Seq.{get_or-set_same, get_or-set_other}
use borrow.Author.Tests.{eq-eqb, ne_eqb, lt-ltb, le-ltb}
use Rattle.base.specs.Pick.{pick}
use Rattle.base.specs.Inner.{any_below}
use Rattle.base.proofs.Bools.{T-ext}
use Rattle.marks.specs.Marks.{marked}
use Rattle.tree_levels.specs.Inner.{light_large, passed, first_large, outs}

-- ---- the pass

-- before x: a number is three or more where it was at first, and no marked position with that label came
abbrev pub Rest : List ℕ → List ℕ → List ℕ → ℕ → List ℕ → Type 0
Rest labels sub₀ light x sub = (l : ℕ) → leb 3 (get_or sub l 0) ≡ leb 3 (get_or sub₀ l 0) && not (passed (marked light) (λ y. get_or labels y 0) x l)

-- the first ones are taken out
abbrev pub Cut : List ℕ → List ℕ → List ℕ → List ℕ → ℕ → List ℕ → Type 0
Cut labels sub₀ light alive₀ x alive = (y : ℕ) → get_or alive y 0 ≡ pick (ltb y x && outs labels sub₀ light y) 0 (get_or alive₀ y 0)

and_false : (a : Bool) → false ≡ a && false
and_false true = refl
and_false false = refl

module _ (labels sub₀ light : List ℕ) where
  pub rest_start : Rest labels sub₀ light 0 sub₀
  unfolding passed any_below
  rest_start l = and_true (leb 3 (get_or sub₀ l 0))
    where
      and_true : (a : Bool) → a ≡ a && true
      and_true true = refl
      and_true false = refl

  pub cut_start : (alive : List ℕ) → Cut labels sub₀ light alive 0 alive
  cut_start alive y = rw (le-ltb y 0 (omega arith))

  pub any_start : false ≡ any_below 0 (outs labels sub₀ light)
  unfolding any_below
  any_start = refl

  module _ (x : ℕ) (sub : List ℕ) (rest : Rest labels sub₀ light x sub) where
    -- what the step finds
    found_is : light_large labels sub light x ≡ outs labels sub₀ light x
    unfolding light_large first_large
    found_is = ap (λ (t : Bool). marked light x && t) (rest (get_or labels x 0))

    pub any_more : (any any' : Bool) → any' ≡ (light_large labels sub light x || any) → any ≡ any_below x (outs labels sub₀ light) → any' ≡ any_below (x + 1) (outs labels sub₀ light)
    unfolding any_below
    any_more any any' e h = rw (add-one x) (e ∙ ap₂ ◌||◌ found_is h)

    pub cut_more : (alive₀ alive alive' : List ℕ) → x < length alive → alive' ≡ pick (light_large labels sub light x) (set alive x 0) alive
        → Cut labels sub₀ light alive₀ x alive → Cut labels sub₀ light alive₀ (x + 1) alive'
    cut_more alive₀ alive alive' l e h y = rw (e, found_is) (go (outs labels sub₀ light x) refl (ℕ_discrete y x))
      where
        O : ℕ → Bool
        O = outs labels sub₀ light

        later : (y ≡ x → ⊥) → ltb y (x + 1) ≡ ltb y x
        later d = T-ext (ltb y (x + 1)) (ltb y x) (λ p. let k : y < x + 1 = ltb→lt y (x + 1) p in lt→ltb y x (omega arith)) (λ p. let k : y < x = ltb→lt y x p in lt→ltb y (x + 1) (omega arith))

        old : get_or alive x 0 ≡ get_or alive₀ x 0
        old = h x ∙ ap (λ (t : Bool). pick (t && O x) 0 (get_or alive₀ x 0)) (le-ltb x x (omega arith))

        go : (o : Bool) → O x ≡ o → Dec (y ≡ x) → get_or (pick o (set alive x 0) alive) y 0 ≡ pick (ltb y (x + 1) && O y) 0 (get_or alive₀ y 0)
        go true q (yes i) = rw (i, lt-ltb x (x + 1) (omega arith), q) (get_or-set_same alive x 0 0 l)
        go false q (yes i) = rw (i, lt-ltb x (x + 1) (omega arith), q) old
        go true q (no d) = rw (later d) (get_or-set_other alive x y 0 0 d ∙ h y)
        go false q (no d) = rw (later d) (h y)

    pub rest_more : (sub' : List ℕ) → get_or labels x 0 < length sub → sub' ≡ pick (light_large labels sub light x) (set sub (get_or labels x 0) 0) sub → Rest labels sub₀ light (x + 1) sub'
    unfolding light_large passed any_below
    rest_more sub' b e l = rw (e, add-one x) (go (marked light x) (leb 3 (get_or sub w 0)) refl (ℕ_discrete l w))
      where
        w : ℕ
        w = get_or labels x 0

        P : ℕ → Bool
        P = passed (marked light) (λ y. get_or labels y 0) x

        go : (a c : Bool) → leb 3 (get_or sub w 0) ≡ c → Dec (l ≡ w) → leb 3 (get_or (pick (a && c) (set sub w 0) sub) l 0) ≡ leb 3 (get_or sub₀ l 0) && not ((a && eqb w l) || P l)
        go false c i d = rest l
        go true true i (yes j) = rw (j, eq-eqb w w refl) (ap (leb 3) (get_or-set_same sub w 0 0 b) ∙ and_false (leb 3 (get_or sub₀ w 0)))
        go true false i (yes j) = rw (j, eq-eqb w w refl) (i ∙ and_false (leb 3 (get_or sub₀ w 0)))
        go true true i (no d) = rw (ne_eqb w l (λ k. d (sym k))) (ap (leb 3) (get_or-set_other sub w l 0 0 d) ∙ rest l)
        go true false i (no d) = rw (ne_eqb w l (λ k. d (sym k))) (rest l)
