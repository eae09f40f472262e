-- What is listed of some edges: numbers, and the ends of the edges that have them.
use mathlib.Core.Path.{◌≡◌, refl, sym, ap, ◌∙◌}
use mathlib.Core.List.{List, [], ◌∷◌, ◌++◌, append-nil}
use mathlib.Core.Bool.{Bool, true, false}
use Prim.Native.Nat.{ℕ, suc, ◌<◌}
use native.Mathlib.Decide.{dec_lt}
use native.Mathlib.Omega.{arith}
use lib.ListN.{length, get_or, get_or-append}
use lib.Seq.{get_or_at}
use Rattle.base.specs.Pick.{pick}
use Rattle.base.specs.Sets.{Set}
use Rattle.tree.specs.Edges.{Edge, Edges}
use Rattle.cycles.specs.Cycles.{chosen}
use Rattle.edges.specs.Rows.{column}
use Rattle.edges.proofs.Rows.{column_length}
use Rattle.plan_cycle.specs.Cycle.{numbers}
use Rattle.plan_cycle.proofs.Lists.{numbers_length}

-- a column with one edge more
pub column_before : (f : Edge → ℕ) (e : Edge) (E : Edges) (i : ℕ) → i < length E → get_or (column f (e ∷ E)) i 0 ≡ get_or (column f E) i 0
unfolding column
column_before f e E i l = get_or-append (column f E) (f e ∷ []) 0 i (omega (arith, column_length f E))

pub column_latest : (f : Edge → ℕ) (e : Edge) (E : Edges) → get_or (column f (e ∷ E)) (length E) 0 ≡ f e
unfolding column
column_latest f e E = get_or_at (column f E) (f e) [] 0 (length E) (column_length f E)

-- numbers `ns` and edges F, of E: at k stand the number of an edge and its value
abbrev Agrees : (Edge → ℕ) → Edges → List ℕ → Edges → ℕ → Type 0
Agrees f E ns F k = (get_or ns k 0 < length E) × (get_or (column f F) k 0 ≡ get_or (column f E) (get_or ns k 0) 0)

-- an edge more that is not listed
agrees_off : (f : Edge → ℕ) (e : Edge) (E : Edges) (ns : List ℕ) (F : Edges) (k : ℕ) → Agrees f E ns F k → Agrees f (e ∷ E) ns F k
agrees_off f e E ns F k h = (omega (arith, h.0), h.1 ∙ sym (column_before f e E (get_or ns k 0) h.0))

-- one that is
agrees_on : (f : Edge → ℕ) (e : Edge) (E : Edges) (ns : List ℕ) (F : Edges) (k : ℕ) → length ns ≡ length F → k < suc (length F)
    → (k < length F → Agrees f E ns F k) → Agrees f (e ∷ E) (ns ++ (length E ∷ [])) (e ∷ F) k
agrees_on f e E ns F k n l h = go (dec_lt k (length F))
  where
    go : Dec (k < length F) → Agrees f (e ∷ E) (ns ++ (length E ∷ [])) (e ∷ F) k
    go (yes p) =
        let a = agrees_off f e E ns F k (h p) in
        let i : get_or (ns ++ (length E ∷ [])) k 0 ≡ get_or ns k 0 = get_or-append ns (length E ∷ []) 0 k (omega arith) in
        rw i (a.0, column_before f e F k p ∙ a.1)
    go (no p) =
        let i : get_or (ns ++ (length E ∷ [])) k 0 ≡ length E = get_or_at ns (length E) [] 0 k (omega arith) in
        let j : k ≡ length F = omega arith in
        rw i (omega arith, ap (λ (x : ℕ). get_or (column f (e ∷ F)) x 0) j ∙ column_latest f e F ∙ sym (column_latest f e E))

pub listed_at : (K : Set) (f : Edge → ℕ) (E : Edges) (k : ℕ) → k < length (chosen K E) → Agrees f E (numbers K E) (chosen K E) k
unfolding chosen numbers
listed_at K f [] k l = absurd (omega arith)
listed_at K f (e ∷ E) k l = go (K (length E)) (listed_at K f E k) l
  where
    go : (b : Bool) → (k < length (chosen K E) → Agrees f E (numbers K E) (chosen K E) k) → k < length (pick b (e ∷ chosen K E) (chosen K E))
        → Agrees f (e ∷ E) (numbers K E ++ pick b (length E ∷ []) []) (pick b (e ∷ chosen K E) (chosen K E)) k
    go true rec h = agrees_on f e E (numbers K E) (chosen K E) k (numbers_length K E) h rec
    go false rec h = rw (append-nil (numbers K E)) (agrees_off f e E (numbers K E) (chosen K E) k (rec h))
