-- Document 02, Q-3: "the smallest set in which some edge joins ends already joined: the ring it closes".
use Rattle.std.specs.Prelude.{Bool, false, not, ◌||◌, [], ◌∷◌, length}
use Rattle.base.specs.Pick.{pick}
use Rattle.base.specs.Sets.{Set}
use Rattle.tree.specs.Edges.{Edges, all, joined}
use Rattle.tree.specs.Component.{without}

-- "some edge joins ends already joined": by the edges before it
unfoldable pub closes : Edges → Bool
closes [] = false
closes (e ∷ E) = joined all E e.one e.two || closes E

-- A set of edges is a set of their numbers, counted from 0 in plan order: two equal edges have two numbers. The edges whose numbers are in K:
unfoldable pub chosen : Set → Edges → Edges
chosen K [] = []
chosen K (e ∷ E) = pick (K (length E)) (e ∷ chosen K E) (chosen K E)

-- the edges each of which, left out alone, leaves no edge that joins ends already joined
unfoldable pub on_cycle : Edges → Set
on_cycle E i = not (closes (chosen (without all i) E))
