-- Edges of which a stronger statement would be false.
use mathlib.Core.Path.{◌≡◌, refl}
use mathlib.Core.List.{[], ◌∷◌}
use mathlib.Core.Bool.{true, false}
use Prim.Native.Nat.{ℕ}
use Rattle.tree.specs.Edges.{Edge, Edges, all, label, joined}
use Rattle.tree.specs.Component.{without}
use Rattle.cycles.specs.Cycles.{closes, chosen, on_cycle}
use Rattle.cycles.specs.Statement.{Rejected}

abbrev edge : ℕ → ℕ → Edge
edge a b = record { one = a; two = b }

-- two cycles: the latest edge closes one, and one before it another. No edge is on both, so the set is empty and closes no cycle
abbrev two : Edges
two = edge 2 3 ∷ edge 2 3 ∷ edge 0 1 ∷ edge 0 1 ∷ []

pub two_cycles : (joined all (edge 2 3 ∷ edge 0 1 ∷ edge 0 1 ∷ []) 2 3 ≡ true) × (closes (chosen (on_cycle two) two) ≡ false)
unfolding closes chosen on_cycle joined label without
two_cycles = (refl, refl)

-- a cycle, 0-1, 1-2, 2-0, with a tail, 1-3: the latest edge is rejected, all four edges close the cycle, and the tail is not on it
abbrev tailed : Edges
tailed = edge 2 0 ∷ edge 1 3 ∷ edge 1 2 ∷ edge 0 1 ∷ []

pub tail_chosen : Rejected tailed × (closes (chosen all tailed) ≡ true) × (on_cycle tailed 2 ≡ false)
unfolding closes chosen on_cycle joined label without
tail_chosen = ((tt, λ p. p), refl, refl)
