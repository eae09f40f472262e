-- Laws of chosen edges: which are left, how many, and which positions they make neighbours.
use mathlib.Core.Path.{◌≡◌, refl, sym, ap, ap₂, ◌∙◌}
use mathlib.Core.Logic.{inl, inr}
use mathlib.Core.List.{[], ◌∷◌}
use mathlib.Core.Bool.{Bool, true, false}
use Prim.Native.Nat.{ℕ, ◌+◌, ◌≤◌, ◌<◌}
use native.Mathlib.Omega.{arith}
use lib.Dec.{T}
use lib.ListN.{length}
use Rattle.base.specs.Pick.{pick}
use Rattle.base.specs.Sets.{Set, bit, count}
use Rattle.base.proofs.Bools.{T→true, not-T→false}
use Rattle.base.proofs.Counts.{count_le}
use Rattle.tree.specs.Edges.{Edge, Edges, Adjacent, all}
use Rattle.tree.specs.Component.{without}
use Rattle.tree.proofs.Without.{to_without, without_not}
use Rattle.cycles.specs.Cycles.{chosen}

-- the latest edge is chosen, or it is not
pub chosen_on : (K : Set) (e : Edge) (E : Edges) → T (K (length E)) → chosen K (e ∷ E) ≡ e ∷ chosen K E
unfolding chosen
chosen_on K e E p = ap (λ b. pick b (e ∷ chosen K E) (chosen K E)) (T→true (K (length E)) p)

pub chosen_off : (K : Set) (e : Edge) (E : Edges) → (T (K (length E)) → ⊥) → chosen K (e ∷ E) ≡ chosen K E
unfolding chosen
chosen_off K e E d = ap (λ b. pick b (e ∷ chosen K E) (chosen K E)) (not-T→false (K (length E)) d)

-- every edge is
pub chosen_every : (K : Set) (E : Edges) → ((i : ℕ) → i < length E → T (K i)) → chosen K E ≡ E
unfolding chosen
chosen_every K [] h = refl
chosen_every K (e ∷ E) h = chosen_on K e E (h (length E) (omega arith)) ∙ ap (λ F. e ∷ F) (chosen_every K E (λ i l. h i (omega arith)))

-- sets that agree choose the same
pub chosen_same : (K L : Set) (E : Edges) → ((i : ℕ) → i < length E → K i ≡ L i) → chosen K E ≡ chosen L E
unfolding chosen
chosen_same K L [] h = refl
chosen_same K L (e ∷ E) h = ap₂ (λ (b : Bool) (F : Edges). pick b (e ∷ F) F) (h (length E) (omega arith)) (chosen_same K L E (λ i l. h i (omega arith)))

-- as many edges are chosen as numbers
pub count_chosen : (K : Set) (E : Edges) → count (length E) K ≡ length (chosen K E)
unfolding count chosen
count_chosen K [] = refl
count_chosen K (e ∷ E) = go (K (length E)) (count_chosen K E)
  where
    go : (b : Bool) → count (length E) K ≡ length (chosen K E) → bit b + count (length E) K ≡ length (pick b (e ∷ chosen K E) (chosen K E))
    go true h = omega (arith, h)
    go false h = omega (arith, h)

pub chosen_most : (K : Set) (E : Edges) → length (chosen K E) ≤ length E
chosen_most K E = rw (sym (count_chosen K E)) (count_le (length E) K)

-- one edge left out: none has that number, it is the latest, or another one
pub without_none : (E : Edges) (i : ℕ) → length E ≤ i → chosen (without all i) E ≡ E
without_none E i l = chosen_every (without all i) E (λ j k. to_without all i j tt (λ h. omega arith))

pub without_latest : (e : Edge) (E : Edges) → chosen (without all (length E)) (e ∷ E) ≡ E
without_latest e E = chosen_off (without all (length E)) e E (λ p. without_not all (length E) (length E) p refl) ∙ without_none E (length E) (omega arith)

pub without_other : (e : Edge) (E : Edges) (i : ℕ) → (i ≡ length E → ⊥) → chosen (without all i) (e ∷ E) ≡ e ∷ chosen (without all i) E
without_other e E i d = chosen_on (without all i) e E (to_without all i (length E) tt (λ h. d (sym h)))

pub without_before : (e : Edge) (E : Edges) (i : ℕ) → i < length E → chosen (without all i) (e ∷ E) ≡ e ∷ chosen (without all i) E
without_before e E i l = without_other e E i (λ h. omega arith)

-- neighbours by the chosen edges are neighbours by more of them
pub chosen_mono : (K L : Set) (E : Edges) → ((i : ℕ) → i < length E → T (K i) → T (L i)) → (x y : ℕ) → Adjacent (chosen K E) x y → Adjacent (chosen L E) x y
unfolding chosen
chosen_mono K L [] s x y h = h
chosen_mono K L (e ∷ E) s x y h = go (K (length E)) (L (length E)) (s (length E) (omega arith)) h (chosen_mono K L E (λ i l. s i (omega arith)) x y)
  where
    go : (a b : Bool) → (T a → T b) → Adjacent (pick a (e ∷ chosen K E) (chosen K E)) x y → (Adjacent (chosen K E) x y → Adjacent (chosen L E) x y)
        → Adjacent (pick b (e ∷ chosen L E) (chosen L E)) x y
    go true true f (inl h) ih = inl h
    go true true f (inr h) ih = inr (ih h)
    go true false f h ih = absurd (f tt)
    go false true f h ih = inr (ih h)
    go false false f h ih = ih h

-- and by all
pub chosen_in : (K : Set) (E : Edges) (x y : ℕ) → Adjacent (chosen K E) x y → Adjacent E x y
unfolding chosen
chosen_in K [] x y h = h
chosen_in K (e ∷ E) x y h = go (K (length E)) h (chosen_in K E x y)
  where
    go : (a : Bool) → Adjacent (pick a (e ∷ chosen K E) (chosen K E)) x y → (Adjacent (chosen K E) x y → Adjacent E x y) → Adjacent (e ∷ E) x y
    go true (inl h) ih = inl h
    go true (inr h) ih = inr (ih h)
    go false h ih = inr (ih h)
