-- Edges in an order in which the tree grows from position 0.
use Rattle.std.specs.Prelude.{List, [], ◌∷◌, Bool, true, false, ◌||◌, ℕ, zero, suc, eqb, ltb, length}
use Rattle.base.specs.Pick.{pick}
use Rattle.base.specs.Sets.{Set}
use Rattle.tree.specs.Edges.{Edge, Edges}

-- the positions that the edges have reached from 0
unfoldable pub reached : Edges → Set
reached [] x = eqb x 0
reached (e ∷ E) x = eqb x e.two || reached E x

-- the edge as a row, turned so that it leads on, where just one of its ends is reached
abbrev pub turned : Bool → Bool → Edge → Edges → Edges
turned true true e F = F
turned true false e F = e ∷ F
turned false true e F = record { one = e.two; two = e.one } ∷ F
turned false false e F = F

abbrev pub extended : Edge → Edges → Edges
extended e F = turned (reached F e.one) (reached F e.two) e F

-- the other ends of the edges at x, that of the latest edge first
unfoldable pub others : ℕ → Edges → List ℕ
others x [] = []
others x (e ∷ E) = pick (eqb x e.one) (e.two ∷ others x E) (pick (eqb x e.two) (e.one ∷ others x E) (others x E))

-- a row more from x to each position of the list, one after the other, that is not reached by then
unfoldable pub branched : ℕ → List ℕ → Edges → Edges
branched x [] F = F
branched x (y ∷ l) F = branched x l (pick (reached F y) F (record { one = x; two = y } ∷ F))

-- the position to which row i leads; row 0 is the oldest
unfoldable pub target : Edges → ℕ → ℕ
target [] i = 0
target (e ∷ F) i = pick (eqb i (length F)) e.two (target F i)

-- Row i, and then each row after it (k of them at most), brings along those edges of E at the position to which it leads that lead on from there.
unfoldable pub absorbed : ℕ → Edges → ℕ → Edges → Edges
absorbed zero E i F = F
absorbed (suc k) E i F = pick (ltb i (length F)) (absorbed k E (suc i) (branched (target F i) (others (target F i) E) F)) F

-- e is read after the edges of E, whose rows are F: if it leads on it becomes a row, and brings along what hangs on it (not more than all edges).
abbrev pub with_edge : Edge → Edges → Edges → Edges
with_edge e E F = absorbed (suc (length E)) E (length F) (extended e F)

-- the edges as rows, taken one by one in their order of reading: one that does not lead on yet waits until a row brings it along
unfoldable pub growth_order : Edges → Edges
growth_order [] = []
growth_order (e ∷ E) = with_edge e E (growth_order E)
