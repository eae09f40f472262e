-- What chosen edges join.
use mathlib.Core.Path.{◌≡◌}
use mathlib.Core.Logic.{◌⊎◌, inl, inr}
use mathlib.Core.List.{◌∷◌}
use Prim.Native.Nat.{ℕ, ◌<◌}
use lib.Dec.{T}
use lib.ListN.{length}
use Rattle.base.specs.Sets.{Set}
use Rattle.tree.specs.Walk.{Walk, here, step}
use Rattle.tree.specs.Edges.{Edge, Edges, Adjacent, all, label}
use Rattle.tree.specs.Inner.{In, Acyclic}
use Rattle.tree.proofs.Labels.{walk_label, label_walk, Across, label_step}
use Rattle.tree.proofs.Acyclic.{apart_ends}
use Rattle.cycles.specs.Cycles.{chosen}
use Rattle.cycles.proofs.Chosen.{chosen_mono, chosen_in}

-- `joined all` as an equation
abbrev pub Joined : Edges → ℕ → ℕ → Type 0
Joined E x y = label all E x ≡ label all E y

-- more edges join more
pub join_more : (E F : Edges) → ((x y : ℕ) → Adjacent E x y → Adjacent F x y) → (x y : ℕ) → Joined E x y → Joined F x y
join_more E F h x y j = walk_label all F (go (label_walk all E x y tt tt j))
  where
    go : {x y : ℕ} → Walk (Adjacent E) (In all) x y → Walk (Adjacent F) (In all) x y
    go (here p) = here p
    go (step {x = x} {y = y} p e w) = step p (h x y e) (go w)

pub join_later : (e : Edge) (E : Edges) (x y : ℕ) → Joined E x y → Joined (e ∷ E) x y
join_later e E x y j = join_more E (e ∷ E) (λ _ _ h. inr h) x y j

pub join_all : (K : Set) (E : Edges) (x y : ℕ) → Joined (chosen K E) x y → Joined E x y
join_all K E x y j = join_more (chosen K E) E (chosen_in K E) x y j

pub join_chosen : (K L : Set) (E : Edges) → ((i : ℕ) → i < length E → T (K i) → T (L i)) → (x y : ℕ) → Joined (chosen K E) x y → Joined (chosen L E) x y
join_chosen K L E s x y j = join_more (chosen K E) (chosen L E) (chosen_mono K L E s) x y j

-- of what the earlier edges join, an edge whose ends they do not join adds nothing to some of them
pub join_before : (e : Edge) (E : Edges) → Acyclic (e ∷ E) → (K : Set) (x y : ℕ) → Joined E x y → Joined (e ∷ chosen K E) x y → Joined (chosen K E) x y
join_before e E k K x y j h = by (label_step all e F x y h)
  where
    F : Edges
    F = chosen K E

    up : (x y : ℕ) → Joined F x y → Joined E x y
    up = join_all K E

    by : Joined F x y ⊎ Across all F e y x ⊎ Across all F e x y → Joined F x y
    by (inl i) = i
    by (inr (inl (_, _, m, n))) = absurd (apart_ends e E k (cc (j, up y e.one m, up x e.two n)))
    by (inr (inr (_, _, m, n))) = absurd (apart_ends e E k (cc (j, up x e.one m, up y e.two n)))
