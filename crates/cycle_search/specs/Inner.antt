-- The sets of vertices that edges join, undone edge by edge, and the two vertices that are kept at the root of each. Serves proofs, and contracts of inner functions.
use Rattle.std.specs.Prelude.{◌≡◌, List, [], ◌∷◌, ℕ, ◌^◌, ◌≤◌, ◌<◌, length, get_or, set}
use Rattle.tree.specs.Edges.{Edges, all, joined, Below}
use Rattle.tree.specs.Inner.{Acyclic}
use Rattle.union_find.specs.Inner.{root, steps, Top, together, Rooted}
use Rattle.edges.specs.Rows.{rows}
use Rattle.cycles.specs.Inner.{needed, numbered}

-- the sets of `up` are those that the edges join
pub record Sets (n : ℕ) (E : Edges) (up : List ℕ) : Type 0 where
  pub rooted : Rooted n up
  -- the way from x to its root has at most log n steps
  pub short : (x : ℕ) → x < n → 2 ^ steps n up x ≤ n
  pub agree : (x y : ℕ) → x < n → y < n → together n up x y ≡ joined all E x y

-- l is under a root of `up`
pub record UnderRoot (n l : ℕ) (up : List ℕ) : Type 0 where
  pub inside : l < n
  pub above : Top up (get_or up l 0)

-- `up` with l a root again
abbrev pub cut : ℕ → List ℕ → List ℕ
cut l up = set up l l

-- `moved` has the root that each edge moved: with the latest edge's a root again, the sets are those of the edges before it, and so on
abbrev pub Undoes : ℕ → List ℕ → Edges → List ℕ → Type 0
Undoes n moved [] up = Sets n [] up
Undoes n moved (e ∷ E) up =
    Sets n (e ∷ E) up × UnderRoot n (get_or moved (length E) 0) up × Undoes n moved E (cut (get_or moved (length E) 0) up)

-- the two vertices kept at each root are in its set
pub record Kept (n : ℕ) (up from to : List ℕ) : Type 0 where
  pub first : (r : ℕ) → r < n → Top up r → (get_or from r 0 < n) × (root n up (get_or from r 0) ≡ r)
  pub second : (r : ℕ) → r < n → Top up r → (get_or to r 0 < n) × (root n up (get_or to r 0) ≡ r)

-- the columns have a place for each vertex
pub record Columns (n : ℕ) (up from to : List ℕ) : Type 0 where
  pub up_long : n ≤ length up
  pub from_long : n ≤ length from
  pub to_long : n ≤ length to

-- the first m edges, which close no cycle, are joined and can be undone one by one; two vertices are kept at each root
pub record Undoable (n m : ℕ) (one two moved up from to : List ℕ) : Type 0 where
  pub one_long : m ≤ length one
  pub two_long : m ≤ length two
  pub moved_long : m ≤ length moved
  pub columns : Columns n up from to
  pub below : Below n (rows one two m)
  pub acyclic : Acyclic (rows one two m)
  pub undoes : Undoes n moved (rows one two m) up
  pub kept : Kept n up from to

-- the vertex that a column keeps for the set of x
abbrev pub kept_for : ℕ → List ℕ → List ℕ → ℕ → ℕ
kept_for n up from x = get_or from (root n up x) 0

-- an edge of E is needed among G to join a and b exactly where it is needed among E to join the two vertices kept for its set
abbrev pub SameNeed : ℕ → Edges → ℕ → ℕ → Edges → List ℕ → List ℕ → List ℕ → Type 0
SameNeed n G a b E up from to =
    (j : ℕ) → j < length E → needed G a b j ≡ needed E (kept_for n up from (numbered E j).one) (kept_for n up to (numbered E j).one) j
