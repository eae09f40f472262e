-- What is shown of the edges up to a rejected one, however many they are: `on_cycle` is the smallest set in which some edge joins ends already joined, and the only one.
use Rattle.std.specs.Prelude.{◌≡◌, [], ◌∷◌, ℕ, ◌-◌, ◌≤◌, ◌<◌, T, length}
use Rattle.base.specs.Sets.{Set}
use Rattle.tree.specs.Edges.{Edges, all, joined}
use Rattle.cycles.specs.Cycles.{closes, chosen, on_cycle}

-- "the edges up to the rejected one, it included": the latest joins ends already joined, and none before it does
abbrev pub Rejected : Edges → Type 0
Rejected [] = ⊥
Rejected (e ∷ E) = T (joined all E e.one e.two) × (T (closes E) → ⊥)

-- among the edges of E whose numbers are in K, some edge joins ends already joined
abbrev pub Closing : Edges → Set → Type 0
Closing E K = T (closes (chosen K E))

pub record Smallest (E : Edges) (C : Set) : Type 0 where
  -- it is such a set
  pub closing : Closing E C
  -- it is contained in every such set, of which nothing else is assumed
  pub least : (K : Set) → Closing E K → (i : ℕ) → T (C i) → T (K i)
  -- and so is the rejected edge, the latest
  pub latest : (K : Set) → Closing E K → T (K (length E - 1))
  -- so none has fewer edges
  pub fewest : (K : Set) → Closing E K → length (chosen C E) ≤ length (chosen K E)
  -- "it is the only one": one that has no more is this one
  pub only : (K : Set) → Closing E K → length (chosen K E) ≤ length (chosen C E) → (i : ℕ) → i < length E → K i ≡ C i

abbrev pub Statement : Type 0
Statement = (E : Edges) → Rejected E → Smallest E (on_cycle E)
