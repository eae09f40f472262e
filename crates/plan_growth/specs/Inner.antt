-- Edges in growth order, kept in two lent columns, with a mark at each position that they reach, and edges that hang at their ends in chains: serves
-- proofs only.
use Rattle.std.specs.Prelude.{◌≡◌, ◌⊎◌, List, ◌++◌, ℕ, suc, ◌+◌, ◌-◌, ◌≤◌, ◌<◌, length, get_or, replicate}
use Rattle.base.specs.Limits.{max_vertices, max_rows}
use Rattle.base.specs.Sets.{bit}
use Rattle.tree.specs.Edges.{Edge, Edges, Below}
use Rattle.tree.specs.Inner.{Grown}
use Rattle.tree.specs.Growth.{reached, others}
use Rattle.edges.specs.Rows.{rows, column}

abbrev pub edge : ℕ → ℕ → Edge
edge a b = record { one = a; two = b }

-- l, and then 0 in the rest of n places
abbrev pub filled : ℕ → List ℕ → List ℕ
filled n l = l ++ replicate (n - length l) 0

-- the columns hold the k edges of F and then 0, F grows below v, and 1 stands at the positions that F reaches, 0 at the others
pub record Laid (v : ℕ) (F : Edges) (parent child seen : List ℕ) (k : ℕ) : Type 0 where
  pub some : 0 < v
  pub many : k ≡ length F
  pub parents : parent ≡ filled (length parent) (column (λ e. e.one) F)
  pub children : child ≡ filled (length child) (column (λ e. e.two) F)
  pub places : (v ≤ suc (length parent)) × (v ≤ suc (length child)) × (v ≤ length seen)
  pub grown : Grown F
  pub below : Below v F
  pub marks : (x : ℕ) → x < v → get_or seen x 0 ≡ bit (reached F x)

-- x is an end of edge e of the columns
abbrev pub At : List ℕ → List ℕ → ℕ → ℕ → Type 0
At one two x e = (x ≡ get_or one e 0) ⊎ (x ≡ get_or two e 0)

-- n is the latest of the first i edges that is at x, counted from 1, or 0 where there is none
pub record Latest (one two : List ℕ) (x i n : ℕ) : Type 0 where
  pub most : n ≤ i
  pub there : (e : ℕ) → n ≡ suc e → At one two x e
  pub same : others x (rows one two n) ≡ others x (rows one two i)

-- the first i edges hang at their ends: `latest` says which is the latest at each position, and `before1` and `before2` which is the latest
-- before each edge at its first and at its second end
pub record Hung (v i : ℕ) (one two latest before1 before2 : List ℕ) : Type 0 where
  pub below : Below v (rows one two i)
  pub places : (i ≤ length one) × (i ≤ length two) × (v ≤ length latest) × (i ≤ length before1) × (i ≤ length before2)
  pub last : (x : ℕ) → x < v → Latest one two x i (get_or latest x 0)
  pub ones : (e : ℕ) → e < i → Latest one two (get_or one e 0) e (get_or before1 e 0)
  pub twos : (e : ℕ) → e < i → Latest one two (get_or two e 0) e (get_or before2 e 0)

-- the first `count` edges of two columns of ends
pub record Columns : Type 0 where
  pub one : List ℕ
  pub two : List ℕ
  pub count : ℕ

-- these edges, the latest first
abbrev pub edges_of : Columns → Edges
edges_of s = rows s.one s.two s.count

-- there is an edge after them, whose ends are vertices, and room for it
pub record NextFits (s : Columns) : Type 0 where
  pub columns : (s.count < length s.one) × (s.count < length s.two)
  pub room : s.count < max_rows
  pub below : Below max_vertices (rows s.one s.two (s.count + 1))

-- rows in two columns, how many, and a mark at each position that they reach
pub record Listed : Type 0 where
  pub parent : List ℕ
  pub child : List ℕ
  pub seen : List ℕ
  pub count : ℕ

-- these rows, the latest first
abbrev pub rows_of : Listed → Edges
rows_of l = rows l.parent l.child l.count
