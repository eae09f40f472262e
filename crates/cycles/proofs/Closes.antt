-- Edges of which one joins ends already joined, or none does.
use mathlib.Core.Path.{◌≡◌, subst}
use mathlib.Core.Logic.{inl, inr}
use mathlib.Core.List.{[], ◌∷◌}
use mathlib.Core.Bool.{Bool, true, false, ◌||◌}
use Prim.Native.Nat.{ℕ, ◌<◌}
use native.Mathlib.Omega.{arith}
use lib.Dec.{T}
use lib.ListN.{length}
use Rattle.base.specs.Pick.{pick}
use Rattle.base.specs.Sets.{Set}
use Rattle.base.proofs.Bools.{or_split, or_left, or_right, T-ext}
use Rattle.tree.specs.Edges.{Edge, Edges, all, joined}
use Rattle.tree.specs.Inner.{Acyclic}
use Rattle.tree.proofs.Labels.{joined_label, label_joined}
use Rattle.cycles.specs.Cycles.{closes, chosen}
use Rattle.cycles.specs.Statement.{Rejected}
use Rattle.cycles.proofs.Chosen.{chosen_every}
use Rattle.cycles.proofs.Joins.{join_chosen}

-- an edge closes exactly where the edges are not acyclic
pub open_acyclic : (E : Edges) → (T (closes E) → ⊥) → Acyclic E
unfolding closes
open_acyclic [] d = tt
open_acyclic (e ∷ E) d = (λ p. d (or_left (joined all E e.one e.two) (closes E) p), open_acyclic E (λ p. d (or_right (joined all E e.one e.two) (closes E) p)))

pub acyclic_open : (E : Edges) → Acyclic E → T (closes E) → ⊥
unfolding closes
acyclic_open [] k h = h
acyclic_open (e ∷ E) k h = elim (or_split (joined all E e.one e.two) (closes E) h) [ inl p ↦ k.0 p | inr p ↦ acyclic_open E k.1 p ]

-- a rejected edge closes
pub rejected_closes : (E : Edges) → Rejected E → T (closes E)
unfolding closes
rejected_closes [] r = absurd r
rejected_closes (e ∷ E) r = or_left (joined all E e.one e.two) (closes E) r.0

-- after acyclic edges only the latest can close
pub closes_latest : (e : Edge) (E : Edges) → Acyclic E → closes (e ∷ E) ≡ joined all E e.one e.two
unfolding closes
closes_latest e E k = T-ext (a || closes E) a (λ h. elim (or_split a (closes E) h) [ inl p ↦ p | inr p ↦ absurd (acyclic_open E k p) ]) (or_left a (closes E))
  where
    a : Bool
    a = joined all E e.one e.two

-- where an edge closes, one does among more edges
pub closes_mono : (K L : Set) (E : Edges) → ((i : ℕ) → i < length E → T (K i) → T (L i)) → T (closes (chosen K E)) → T (closes (chosen L E))
unfolding closes chosen
closes_mono K L [] s h = h
closes_mono K L (e ∷ E) s h = go (K (length E)) (L (length E)) (s (length E) (omega arith)) h (closes_mono K L E (λ i l. s i (omega arith)))
  where
    A : Edges
    A = chosen K E

    B : Edges
    B = chosen L E

    joins : Edges → Bool
    joins F = joined all F e.one e.two

    up : T (joins A) → T (joins B)
    up p = label_joined all B e.one e.two (join_chosen K L E (λ i l. s i (omega arith)) e.one e.two (joined_label all A e.one e.two p))

    go : (a b : Bool) → (T a → T b) → T (closes (pick a (e ∷ A) A)) → (T (closes A) → T (closes B)) → T (closes (pick b (e ∷ B) B))
    go true true f h ih = elim (or_split (joins A) (closes A) h) [ inl p ↦ or_left (joins B) (closes B) (up p) | inr p ↦ or_right (joins B) (closes B) (ih p) ]
    go true false f h ih = absurd (f tt)
    go false true f h ih = or_right (joins B) (closes B) (ih h)
    go false false f h ih = ih h

-- acyclic edges stay so when some are left out
pub chosen_acyclic : (K : Set) (E : Edges) → Acyclic E → Acyclic (chosen K E)
chosen_acyclic K E k = open_acyclic (chosen K E) (λ h. acyclic_open E k (subst (λ F. T (closes F)) (chosen_every all E (λ _ _. tt)) (closes_mono K all E (λ _ _ _. tt) h)))
