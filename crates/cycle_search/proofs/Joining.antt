-- Edges joined one by one, so that they can be undone.
use mathlib.Core.Path.{◌≡◌, sym, subst}
use mathlib.Core.List.{List, [], ◌∷◌}
use Prim.Native.Nat.{ℕ, ◌+◌, ◌<◌}
use native.Mathlib.Omega.{arith}
use lib.ListN.{length, get_or, set}
use lib.Seq.{get_or-set_same, get_or-set_other}
use Rattle.tree.specs.Edges.{Edge, Edges}
use Rattle.union_find.specs.Inner.{Unions, Under}
use Rattle.union_find.proofs.Roots.{rooted, steps_log}
use Rattle.edges.specs.Rows.{rows}
use Rattle.edges.proofs.Rows.{rows_length}
use Rattle.cycle_search.specs.Inner.{Sets, cut, Undoes}
use Rattle.cycle_search.proofs.Columns.{row, rows_next}

pub sets_from : {n : ℕ} {E : Edges} {up weight : List ℕ} → Unions n E up weight → Sets n E up
sets_from {n} {E} {up} {weight} u = record { rooted = rooted n up weight u.forest; short = steps_log n up weight u.forest; agree = u.agree }

-- roots noted for later edges do not matter
noted : (n : ℕ) (moved moved' : List ℕ) (E : Edges) (up : List ℕ) → ((j : ℕ) → j < length E → get_or moved' j 0 ≡ get_or moved j 0) → Undoes n moved E up → Undoes n moved' E up
noted n moved moved' [] up h u = u
noted n moved moved' (e ∷ E) up h u =
    rw (h (length E) (omega arith)) (u.0, u.1, noted n moved moved' E (cut (get_or moved (length E) 0) up) (λ j l. h j (omega arith)) u.2)

-- one edge more: the root that it moved is noted
pub undoes_more : (n : ℕ) (moved : List ℕ) (e : Edge) (E : Edges) (up up' weight' : List ℕ) (r : ℕ) → length E < length moved → Undoes n moved E up → Unions n (e ∷ E) up' weight'
    → Under n r up up' → Undoes n (set moved (length E) r) (e ∷ E) up'
undoes_more n moved e E up up' weight' r fits u v w =
    rw (get_or-set_same moved (length E) r 0 fits)
    (sets_from v, record { inside = w.inside; above = w.above }, noted n moved (set moved (length E) r) E (cut r up') (λ j l. get_or-set_other moved (length E) j r 0 (λ i. omega arith)) (rw w.back u))

-- the same of columns
pub join_start : (n : ℕ) (one two moved up weight : List ℕ) → Unions n [] up weight → Unions n (rows one two 0) up weight × Undoes n moved (rows one two 0) up
unfolding rows
join_start n one two moved up weight u = (u, sets_from u)

pub join_more : (n : ℕ) (one two moved up weight up' weight' : List ℕ) (i r : ℕ) {a b : ℕ} → i < length moved → a ≡ get_or one i 0 → b ≡ get_or two i 0
    → Unions n (rows one two i) up weight → Undoes n moved (rows one two i) up
    → ((E : Edges) → Unions n E up weight → Unions n (record { one = a; two = b } ∷ E) up' weight') → Under n r up up'
    → Unions n (rows one two (i + 1)) up' weight' × Undoes n (set moved i r) (rows one two (i + 1)) up'
join_more n one two moved up weight up' weight' i r fits ea eb u v f w =
    let E : Edges = rows one two i in
    let j : Unions n (row one two i ∷ E) up' weight' = rw (sym ea, sym eb) (f E u) in
    let k : length E ≡ i = rows_length one two i in
    let m : Undoes n (set moved (length E) r) (row one two i ∷ E) up' = undoes_more n moved (row one two i) E up up' weight' r (rw k fits) v j w in
    rw (rows_next one two i) (j, subst (λ (z : ℕ). Undoes n (set moved z r) (row one two i ∷ E) up') k m)
