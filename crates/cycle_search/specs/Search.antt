-- What holds of the search's state. Serves contracts of inner functions.
use Rattle.std.specs.Prelude.{List, ℕ}
use Rattle.base.specs.Limits.{max_vertices}
use Rattle.tree.specs.Edges.{Edges}
use Rattle.cycle_search.specs.declared.Search.{Search}
use Rattle.cycle_search.specs.Inner.{Undoable, SameNeed}

-- the first m edges, in the columns `one` and `two`, are joined and can be undone one by one
abbrev pub Joined : ℕ → List ℕ → List ℕ → Search → Type 0
Joined m one two s = Undoable max_vertices m one two s.moved s.up s.ends.from s.ends.to

-- an edge of E is needed among G to join a and b exactly where it is needed among E to join the two vertices kept for its set
abbrev pub Asks : Edges → ℕ → ℕ → Edges → Search → Type 0
Asks G a b E s = SameNeed max_vertices G a b E s.up s.ends.from s.ends.to
