-- Columns of a plan part: rows, and then only 0.
use mathlib.Core.Path.{◌≡◌, refl, sym, ap, ap₂, ◌∙◌}
use mathlib.Core.List.{List, [], ◌∷◌, ◌++◌}
use Prim.Native.Nat.{ℕ, zero, suc, ◌-◌, ◌≤◌}
use native.Mathlib.Omega.{arith}
use lib.Dec.{T, eqb, eqb→eq}
use lib.ListN.{length, get_or, take, drop, replicate, length-append, length-drop, length-replicate, take-append-drop}
use lib.Seq.{take-suc, drop_at, length-take-le}
use Rattle.base.proofs.Bools.{T-left, T-right}
use Rattle.tree.specs.Edges.{Edge, Edges}
use Rattle.edges.specs.Rows.{rows}
use Rattle.edges.proofs.Rows.{column_length}
use Rattle.plan.specs.Positions.{column}
use Rattle.plan_growth.specs.Inner.{filled}
use Rattle.plan.specs.Valid.{all_zero}

-- nothing but 0 is so many zeros
pub zeros : (l : List ℕ) → T (all_zero l) → l ≡ replicate (length l) 0
unfolding all_zero
zeros [] h = refl
zeros (x ∷ l) h = ap₂ (λ (y : ℕ) (m : List ℕ). y ∷ m) (eqb→eq x 0 (T-left (eqb x 0) (all_zero l) h)) (zeros l (T-right (eqb x 0) (all_zero l) h))

pub zeros_all : (n : ℕ) → T (all_zero (replicate n 0))
unfolding all_zero
zeros_all zero = tt
zeros_all (suc n) = zeros_all n

-- the columns of rows are beginnings of the columns
pub column_one : (ps cs : List ℕ) (k : ℕ) → k ≤ length ps → column (λ e. e.one) (rows ps cs k) ≡ take k ps
unfolding column rows
column_one ps cs zero h = refl
column_one ps cs (suc k) h = ap (λ (l : List ℕ). l ++ (get_or ps k 0 ∷ [])) (column_one ps cs k (omega arith)) ∙ sym (take-suc ps k 0 h)

pub column_two : (ps cs : List ℕ) (k : ℕ) → k ≤ length cs → column (λ e. e.two) (rows ps cs k) ≡ take k cs
unfolding column rows
column_two ps cs zero h = refl
column_two ps cs (suc k) h = ap (λ (l : List ℕ). l ++ (get_or cs k 0 ∷ [])) (column_two ps cs k (omega arith)) ∙ sym (take-suc cs k 0 h)

-- a column whose unused places are 0
pub refill : (n k : ℕ) (l : List ℕ) → length l ≡ n → k ≤ n → T (all_zero (drop k l)) → filled n (take k l) ≡ l
refill n k l e h z =
    let m : n - length (take k l) ≡ length (drop k l) = omega (arith, length-take-le k l (omega arith), length-drop k l) in
    ap (λ (r : List ℕ). take k l ++ r) (ap (λ (j : ℕ). replicate j 0) m ∙ sym (zeros (drop k l) z))
    ∙ take-append-drop k l

-- the unused places of a padded column are 0
pub filled_rest : (n k : ℕ) (f : Edge → ℕ) (F : Edges) → length F ≡ k → T (all_zero (drop k (filled n (column f F))))
filled_rest n k f F e = rw (drop_at (column f F) (replicate (n - length (column f F)) 0) k (column_length f F ∙ e)) (zeros_all (n - length (column f F)))

pub filled_length : (n : ℕ) (f : Edge → ℕ) (F : Edges) → length F ≤ n → length (filled n (column f F)) ≡ n
filled_length n f F h = simp (length-append, length-replicate, column_length) (omega arith)
