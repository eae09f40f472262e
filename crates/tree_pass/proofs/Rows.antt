-- The first rows of two columns: what holds of all holds of them.
use mathlib.Core.Path.{◌≡◌, subst}
use mathlib.Core.List.{List, ◌∷◌}
use mathlib.Core.Bool.{true, ◌&&◌}
use Prim.Native.Nat.{ℕ, zero, suc, ◌≤◌, ◌<◌}
use native.Mathlib.Decide.{ℕ_discrete}
use native.Mathlib.Omega.{arith}
use lib.Dec.{T}
use lib.ListN.{get_or}
use borrow.Author.Tests.{eq-eqb}
use Rattle.tree.specs.Edges.{Edge, Edges, Below}
use Rattle.tree.specs.Inner.{Grown}
use Rattle.tree.specs.Growth.{reached}
use Rattle.tree.proofs.Growth.{reached_old}
use Rattle.edges.specs.Rows.{rows}
use Rattle.marks.specs.Marks.{marked}
use Rattle.tree_pass.specs.Inner.{Rows}

-- row i
abbrev pub row : List ℕ → List ℕ → ℕ → Edge
row ps cs i = record { one = get_or ps i 0; two = get_or cs i 0 }

-- what the first m rows have, and each list with an edge taken off, the first i have
before : (P : Edges → Type 0) → ((e : Edge) (F : Edges) → P (e ∷ F) → P F) → (ps cs : List ℕ) (i m : ℕ) → i ≤ m → P (rows ps cs m) → P (rows ps cs i)
unfolding rows
before P off ps cs i zero l g = rw (zeroed i l) g
  where
    zeroed : (i : ℕ) → i ≤ 0 → i ≡ 0
    zeroed i l = omega arith
before P off ps cs i (suc m) l g = go (ℕ_discrete i (suc m)) (before P off ps cs i m)
  where
    go : Dec (i ≡ suc m) → (i ≤ m → P (rows ps cs m) → P (rows ps cs i)) → P (rows ps cs i)
    go (yes e) ih = rw e g
    go (no d) ih = ih (omega arith) (off (row ps cs m) (rows ps cs m) g)

module _ (ps cs : List ℕ) (n m : ℕ) (R : Rows ps cs n m) (i : ℕ) (l : i < m) where
  -- row i after those before it
  pub below_row : Below n (row ps cs i ∷ rows ps cs i)
  unfolding rows
  below_row = before (Below n) (λ e F b. b.2) ps cs (suc i) m l R.below

  pub grown_row : Grown (row ps cs i ∷ rows ps cs i)
  unfolding rows
  grown_row = before Grown (λ e F g. g.2) ps cs (suc i) m l R.grown

  -- its ends are below n
  pub row_ends : (p v : ℕ) → p ≡ get_or ps i 0 → v ≡ get_or cs i 0 → (p < n) × (v < n)
  row_ends p v a b = (rw a below_row.0, rw b below_row.1)

-- what the first rows reach, all reach
pub reached_later : (ps cs : List ℕ) (i m : ℕ) → i ≤ m → (x : ℕ) → T (reached (rows ps cs i) x) → T (reached (rows ps cs m) x)
unfolding rows
reached_later ps cs i zero l x r = subst (λ (z : ℕ). T (reached (rows ps cs z) x)) (zeroed i l) r
  where
    zeroed : (i : ℕ) → i ≤ 0 → i ≡ 0
    zeroed i l = omega arith
reached_later ps cs i (suc m) l x r = go (ℕ_discrete i (suc m)) (reached_later ps cs i m)
  where
    go : Dec (i ≡ suc m) → (i ≤ m → (x : ℕ) → T (reached (rows ps cs i) x) → T (reached (rows ps cs m) x)) → T (reached (rows ps cs (suc m)) x)
    go (yes e) ih = subst (λ (z : ℕ). T (reached (rows ps cs z) x)) e r
    go (no d) ih = reached_old (row ps cs m) (rows ps cs m) x (ih (omega arith) x r)

-- ---- both ends in the set, as the code asks

module _ (ins : List ℕ) (p v : ℕ) where
  pub both : get_or ins p 0 ≡ 1 → get_or ins v 0 ≡ 1 → marked ins p && marked ins v ≡ true
  unfolding marked
  both a b = rw (eq-eqb (get_or ins p 0) 1 a, eq-eqb (get_or ins v 0) 1 b)
