-- The numbers of edges at positions.
use mathlib.Core.Path.{◌≡◌, sym, ◌∙◌}
use mathlib.Core.List.{List, []}
use mathlib.Core.Bool.{◌||◌}
use Prim.Native.Nat.{ℕ, ◌+◌, ◌<◌}
use native.Mathlib.Decide.{ℕ_discrete}
use native.Mathlib.Omega.{arith}
use lib.Dec.{eqb}
use lib.ListN.{length, get_or, set, length-set}
use lib.Seq.{get_or-set_same, get_or-set_other}
use borrow.Author.Tests.{eq-eqb, ne_eqb}
use Rattle.base.specs.Sets.{bit}
use Rattle.tree.specs.Edges.{edges_at}
use Rattle.edges.specs.Inner.{Degrees}

-- one more at a, and then at b
module _ (l : List ℕ) (a b : ℕ) (ka : a < length l) (kb : b < length l) (d : a ≡ b → ⊥) where
  abbrev with_a : List ℕ
  with_a = set l a (get_or l a 0 + 1)

  pub counted : (x : ℕ) → get_or (set with_a b (get_or with_a b 0 + 1)) x 0 ≡ bit (eqb x a || eqb x b) + get_or l x 0
  counted x = go (ℕ_discrete x a) (ℕ_discrete x b)
    where
      m : ℕ
      m = get_or with_a b 0 + 1

      go : Dec (x ≡ a) → Dec (x ≡ b) → get_or (set with_a b (get_or with_a b 0 + 1)) x 0 ≡ bit (eqb x a || eqb x b) + get_or l x 0
      go (yes i) (yes j) = absurd (d (sym i ∙ j))
      go (yes i) (no j) =
          rw (eq-eqb x a i, get_or-set_other with_a b x m 0 j, i, get_or-set_same l a (get_or l a 0 + 1) 0 ka) (omega arith)
      go (no i) (yes j) =
          let e : get_or (set with_a b m) b 0 ≡ m = get_or-set_same with_a b m 0 (omega (arith, length-set l a (get_or l a 0 + 1))) in
          let o : get_or with_a b 0 ≡ get_or l b 0 = get_or-set_other l a b (get_or l a 0 + 1) 0 (λ z. d (sym z)) in
          rw (ne_eqb x a i, eq-eqb x b j, j) (omega (arith, e, o))
      go (no i) (no j) =
          rw (ne_eqb x a i, ne_eqb x b j, get_or-set_other with_a b x m 0 j, get_or-set_other l a x (get_or l a 0 + 1) 0 i) (omega arith)

-- no edge at any position
pub no_degrees : (v : ℕ) (degree : List ℕ) → ((x : ℕ) → x < v → get_or degree x 0 ≡ 0) → Degrees v [] degree
unfolding edges_at
no_degrees v degree none = record { counted = none; most = λ x k. omega (arith, none x k) }
