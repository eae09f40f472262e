-- Rounds one after the other, from all positions on.
use mathlib.Core.Path.{◌≡◌, refl, sym, ap, ◌∙◌, subst, fun_ext}
use mathlib.Core.List.{List}
use mathlib.Core.Bool.{Bool, true, false}
use Prim.Native.Nat.{ℕ, ◌+◌, ◌-◌, ◌≤◌, ◌<◌}
use native.Mathlib.Decide.{ℕ_discrete}
use native.Mathlib.Numerals.{add-one}
use native.Mathlib.Omega.{arith}
use lib.Dec.{T, eqb, ltb}
use lib.ListN.{get_or, replicate}
use Rattle.base.specs.Limits.{max_vertices}
use Rattle.base.specs.Pick.{pick}
use Rattle.base.specs.Sets.{Set, count}
use Rattle.base.proofs.Bools.{true→T, false→not-T}
use Rattle.base.proofs.Counts.{count_le}
use Rattle.tree.specs.Edges.{Edges}
use Rattle.tree.specs.Component.{upto}
use Rattle.tree_rounds.specs.Inner.{any_large, split, after_rounds, Rounds}
use Rattle.edges.specs.Rows.{rows}
use Rattle.marks.specs.Marks.{marked}
use Rattle.marks.proofs.Marks.{zeros}
use Rattle.tree_pass.specs.Inner.{Rows}
use Rattle.tree_rounds.proofs.Split.{after_below}
use Rattle.tree_levels.proofs.RoundLaws.{forest_of, split_less}

-- k rounds found a large component each, and left the members of the array, of which there are at most n - k
pub record Done (E : Edges) (n k : ℕ) (alive : List ℕ) : Type 0 where
  pub each : (L : ℕ) → L < k → T (any_large E n (after_rounds E n L))
  pub left : (x : ℕ) → marked alive x ≡ after_rounds E n k x
  pub few : k + count n (marked alive) ≤ n
  pub small : (x : ℕ) → get_or alive x 0 ≤ 1

-- all n positions
pub done_start : (E : Edges) (n : ℕ) (alive : List ℕ) → ((x : ℕ) → get_or alive x 0 ≡ pick (ltb x n) 1 (get_or (replicate max_vertices 0) x 0)) → Done E n 0 alive
unfolding after_rounds upto marked
done_start E n alive h = record {
  each = λ L l. absurd (omega arith);
  left = λ x. ap (λ (z : ℕ). eqb z 1) (at x) ∙ test (ltb x n);
  few = omega (arith, count_le n (marked alive));
  small = λ x. rw (at x) (most (ltb x n));
}
  where
    at : (x : ℕ) → get_or alive x 0 ≡ pick (ltb x n) 1 0
    at x = h x ∙ ap (λ (z : ℕ). pick (ltb x n) 1 z) (zeros max_vertices x)

    test : (b : Bool) → eqb (pick b 1 0) 1 ≡ b
    test true = refl
    test false = refl

    most : (b : Bool) → pick b 1 0 ≤ 1
    most true = omega arith
    most false = omega arith

module _ (ps cs : List ℕ) (n k : ℕ) (alive : List ℕ) (R : Rows ps cs n (n - 1)) (D : Done (rows ps cs (n - 1)) n k alive) where
  pub done_below : (x : ℕ) → T (marked alive x) → x < n
  done_below x h = after_below (rows ps cs (n - 1)) n k x (subst T (D.left x) h)

  same : marked alive ≡ after_rounds (rows ps cs (n - 1)) n k
  same = fun_ext D.left

  module _ (r : Bool) (e : r ≡ any_large (rows ps cs (n - 1)) n (marked alive)) where
    -- a round more, and a position less
    pub done_less : r ≡ true → (alive' : List ℕ) → ((x : ℕ) → marked alive' x ≡ split (rows ps cs (n - 1)) n (marked alive) x) → count n (marked alive') < count n (marked alive)
    done_less i alive' h =
        omega (arith, split_less (rows ps cs (n - 1)) n (marked alive) (forest_of ps cs n (marked alive) R done_below) (true→T (sym e ∙ i)), ap (count n) (fun_ext h))

    pub done_more : r ≡ true → (alive' : List ℕ) → ((x : ℕ) → marked alive' x ≡ split (rows ps cs (n - 1)) n (marked alive) x) → ((x : ℕ) → get_or alive' x 0 ≤ 1) → Done (rows ps cs (n - 1)) n (k + 1) alive'
    unfolding after_rounds
    done_more i alive' h s = record {
      each = λ L l. each L l (ℕ_discrete L k);
      left = λ x. rw (add-one k) (h x ∙ ap (λ (A : Set). split F n A x) same);
      few = omega (arith, D.few, done_less i alive' h);
      small = s;
    }
      where
        F : Edges
        F = rows ps cs (n - 1)

        each : (L : ℕ) → L < k + 1 → Dec (L ≡ k) → T (any_large F n (after_rounds F n L))
        each L l (yes j) = subst (λ (z : ℕ). T (any_large F n (after_rounds F n z))) (sym j) (subst (λ (A : Set). T (any_large F n A)) same (true→T (sym e ∙ i)))
        each L l (no d) = D.each L (omega arith)

    -- none left
    pub done_end : r ≡ false → Rounds (rows ps cs (n - 1)) n k
    done_end i = record { each = D.each; done = λ h. false→not-T (sym e ∙ i) (subst (λ (A : Set). T (any_large (rows ps cs (n - 1)) n A)) (sym same) h) }
