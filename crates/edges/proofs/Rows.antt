-- Laws of edges kept in columns.
use mathlib.Core.Path.{◌≡◌, refl, sym, ap, ap₂, ◌∙◌}
use mathlib.Core.List.{List, [], ◌∷◌, ◌++◌}
use Prim.Native.Nat.{ℕ, zero, suc, ◌+◌, ◌-◌, ◌≤◌, ◌<◌}
use native.Mathlib.Decide.{ℕ_discrete}
use native.Mathlib.Numerals.{add-one}
use native.Mathlib.Omega.{arith}
use lib.ListN.{length, get_or, set, replicate, length-append}
use lib.Seq.{set-append_seam, append_snoc, get_or_at}
use Rattle.tree.specs.Edges.{Edge, Edges, Below}
use Rattle.edges.specs.Rows.{rows, column}

-- ---- rows

-- as many as asked for
pub rows_length : (ps cs : List ℕ) (k : ℕ) → length (rows ps cs k) ≡ k
unfolding rows
rows_length ps cs zero = refl
rows_length ps cs (suc k) = ap suc (rows_length ps cs k)

-- the ends of one
pub row_below : (v : ℕ) (ps cs : List ℕ) (m i : ℕ) → i < m → Below v (rows ps cs m) → (get_or ps i 0 < v) × (get_or cs i 0 < v)
unfolding rows
row_below v ps cs zero i l b = absurd (omega arith)
row_below v ps cs (suc m) i l b = go (ℕ_discrete i m) (row_below v ps cs m i)
  where
    go : Dec (i ≡ m) → (i < m → Below v (rows ps cs m) → (get_or ps i 0 < v) × (get_or cs i 0 < v)) → (get_or ps i 0 < v) × (get_or cs i 0 < v)
    go (yes e) ih = rw e (b.0, b.1)
    go (no d) ih = ih (omega arith) b.2

-- the first ones
pub rows_below : (v : ℕ) (ps cs : List ℕ) (m i : ℕ) → i ≤ m → Below v (rows ps cs m) → Below v (rows ps cs i)
unfolding rows
rows_below v ps cs zero i l b = let e : i ≡ 0 = omega arith in rw e tt
rows_below v ps cs (suc m) i l b = go (ℕ_discrete i (suc m)) (rows_below v ps cs m i)
  where
    go : Dec (i ≡ suc m) → (i ≤ m → Below v (rows ps cs m) → Below v (rows ps cs i)) → Below v (rows ps cs i)
    go (yes e) ih = rw e b
    go (no d) ih = ih (omega arith) b.2

-- ---- columns

-- as many values as edges
pub column_length : (f : Edge → ℕ) (F : Edges) → length (column f F) ≡ length F
unfolding column
column_length f [] = refl
column_length f (e ∷ F) = length-append (column f F) (f e ∷ []) ∙ ap (λ (n : ℕ). n + 1) (column_length f F) ∙ add-one (length F)

-- the rows of the columns are F
pub column_rows : (F : Edges) (xs ys : List ℕ) → rows (column (λ e. e.one) F ++ xs) (column (λ e. e.two) F ++ ys) (length F) ≡ F
unfolding column rows
column_rows [] xs ys = refl
column_rows (e ∷ F) xs ys =
    ap₂ (λ (ps cs : List ℕ). record { one = get_or ps (length F) 0; two = get_or cs (length F) 0 } ∷ rows ps cs (length F))
    (append_snoc (column (λ d. d.one) F) e.one xs) (append_snoc (column (λ d. d.two) F) e.two ys)
    ∙ ap₂ (λ (a b : ℕ). record { one = a; two = b } ∷ rows (column (λ d. d.one) F ++ (e.one ∷ xs)) (column (λ d. d.two) F ++ (e.two ∷ ys)) (length F))
    (get_or_at (column (λ d. d.one) F) e.one xs 0 (length F) (column_length (λ d. d.one) F))
    (get_or_at (column (λ d. d.two) F) e.two ys 0 (length F) (column_length (λ d. d.two) F))
    ∙ ap (λ (G : Edges). e ∷ G) (column_rows F (e.one ∷ xs) (e.two ∷ ys))

-- a value stored at the first of the places that are not used, all 0
pub store : (n : ℕ) (l : List ℕ) (x : ℕ) → length l < n
    → set (l ++ replicate (n - length l) 0) (length l) x ≡ (l ++ (x ∷ [])) ++ replicate (n - length (l ++ (x ∷ []))) 0
store n l x h = go (n - length l) (n - length (l ++ (x ∷ []))) refl refl
  where
    go : (i j : ℕ) → n - length l ≡ i → n - length (l ++ (x ∷ [])) ≡ j → set (l ++ replicate i 0) (length l) x ≡ (l ++ (x ∷ [])) ++ replicate j 0
    go zero j a b = absurd (omega arith)
    go (suc i) j a b =
        let e : i ≡ j = omega (arith, length-append l (x ∷ [])) in
        set-append_seam l 0 (replicate i 0) x ∙ sym (append_snoc l x (replicate i 0)) ∙ ap (λ (m : ℕ). (l ++ (x ∷ [])) ++ replicate m 0) e
