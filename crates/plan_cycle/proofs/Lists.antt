-- Chosen edges written into columns, one after the other.
use mathlib.Core.Path.{◌≡◌, refl, sym, ap, ap₂, ◌∙◌}
use mathlib.Core.List.{List, [], ◌∷◌, ◌++◌, append-nil}
use mathlib.Core.Bool.{Bool, true, false}
use Prim.Native.Nat.{ℕ, suc, ◌+◌, ◌<◌}
use native.Mathlib.Omega.{arith}
use native.Mathlib.Nat.{le_refl}
use native.Mathlib.Numerals.{add-one}
use lib.Dec.{T}
use lib.ListN.{length, set, length-append}
use Rattle.base.specs.Pick.{pick}
use Rattle.base.specs.Sets.{Set}
use Rattle.base.specs.Limits.{max_rows}
use Rattle.base.proofs.Bools.{T→true, not-T→false}
use Rattle.tree.specs.Edges.{Edge, Edges}
use Rattle.cycles.specs.Cycles.{chosen}
use Rattle.cycles.proofs.Chosen.{chosen_on, chosen_off, chosen_most, chosen_same}
use Rattle.edges.specs.Rows.{column}
use Rattle.edges.proofs.Rows.{column_length, store}
use Rattle.plan.specs.Positions.{padded}
use Rattle.plan_cycle.specs.declared.Cycle.{Cycle}
use Rattle.plan_cycle.specs.Cycle.{numbers, listed}

-- as many numbers as edges
pub numbers_length : (K : Set) (E : Edges) → length (numbers K E) ≡ length (chosen K E)
unfolding chosen numbers
numbers_length K [] = refl
numbers_length K (e ∷ E) = go (K (length E)) (numbers_length K E)
  where
    go : (b : Bool) → length (numbers K E) ≡ length (chosen K E) → length (numbers K E ++ pick b (length E ∷ []) []) ≡ length (pick b (e ∷ chosen K E) (chosen K E))
    go true h = length-append (numbers K E) (length E ∷ []) ∙ omega arith
    go false h = length-append (numbers K E) [] ∙ omega arith

-- ---- one edge more

-- edge number n, with the ends a and b, is stored
abbrev pub with_edge : Cycle → ℕ → ℕ → ℕ → Cycle
with_edge c n a b = record { count = c.count + 1; numbers = set c.numbers c.count n; one = set c.one c.count a; two = set c.two c.count b }

module _ (K : Set) (e : Edge) (E : Edges) where
  -- an edge that is not chosen
  pub listed_off : (T (K (length E)) → ⊥) → listed K (e ∷ E) ≡ listed K E
  unfolding numbers
  listed_off d = rw (chosen_off K e E d, not-T→false (K (length E)) d, append-nil (numbers K E))

  -- a value more in a column that holds l
  column_more : (l : List ℕ) (x : ℕ) → length l ≡ length (chosen K E) → length E < max_rows → padded (l ++ (x ∷ [])) ≡ set (padded l) (length (chosen K E)) x
  column_more l x n s = sym (store max_rows l x (omega (arith, chosen_most K E))) ∙ ap (λ (k : ℕ). set (padded l) k x) n

  -- one that is
  pub listed_on : T (K (length E)) → length E < max_rows → listed K (e ∷ E) ≡ with_edge (listed K E) (length E) e.one e.two
  unfolding column numbers
  listed_on h l =
      rw (chosen_on K e E h, T→true (K (length E)) h) (λ i. record {
        count = sym (add-one (length (chosen K E))) i;
        numbers = column_more (numbers K E) (length E) (numbers_length K E) l i;
        one = column_more (column (λ d. d.one) (chosen K E)) e.one (column_length (λ d. d.one) (chosen K E)) l i;
        two = column_more (column (λ d. d.two) (chosen K E)) e.two (column_length (λ d. d.two) (chosen K E)) l i;
      })

-- ---- sets that agree

module _ (K L : Set) where
  numbers_same : (E : Edges) → ((i : ℕ) → i < length E → K i ≡ L i) → numbers K E ≡ numbers L E
  unfolding numbers
  numbers_same [] h = refl
  numbers_same (e ∷ E) h = ap₂ (λ (b : Bool) (l : List ℕ). l ++ pick b (length E ∷ []) []) (h (length E) (le_refl (suc (length E)))) (numbers_same E (λ i l. h i (omega arith)))

  pub listed_same : (E : Edges) → ((i : ℕ) → i < length E → K i ≡ L i) → listed K E ≡ listed L E
  listed_same E h = rw (chosen_same K L E h, numbers_same E h)
