-- The edges read so far, and questions 7 to 9 asked of a further one: for the functions of this crate and of those that read plans.
use Rattle.std.specs.Prelude.{◌≡◌, Bool, not, ◌&&◌, List, [], ℕ, ◌-◌, ◌≤◌, ◌<◌, ltb, get_or}
use Rattle.base.specs.Pick.{pick}
use Rattle.base.specs.Found.{Found, found}
use Rattle.base.specs.Limits.{max_degree}
use Rattle.tree.specs.Edges.{Edges, edges_at}
use Rattle.union_find.specs.Inner.{together}
use Rattle.edges.specs.Reading.{ends_apart, not_joined, room_at_ends, edges_from}

-- the number of the first question that is answered by no, or 0
abbrev pub fault_by : Bool → Bool → Bool → ℕ
fault_by apart free room = pick apart (pick free (pick room 0 9) 8) 7

-- questions 7 to 9 of the ends a and b, asked of the edges before
abbrev pub fault_in : ℕ → Edges → ℕ → ℕ → ℕ
fault_in v E a b = fault_by (ends_apart v a b) (not_joined E a b) (room_at_ends E a b)

-- the same, asked of the forest and of the numbers of edges
unfoldable pub fault_of : ℕ → List ℕ → List ℕ → ℕ → ℕ → ℕ
fault_of v up degree a b =
    fault_by (ends_apart v a b) (not (together v up a b)) (ltb (get_or degree a 0) max_degree && ltb (get_or degree b 0) max_degree)

-- the numbers of edges at each position below v, within their limit
pub record Degrees (v : ℕ) (E : Edges) (degree : List ℕ) : Type 0 where
  pub counted : (x : ℕ) → x < v → get_or degree x 0 ≡ edges_at E x
  pub most : (x : ℕ) → x < v → get_or degree x 0 ≤ max_degree

-- the edges read so far of a tree of so many vertices, the latest first
pub record TreeSoFar : Type 0 where
  pub vertices : ℕ
  pub edges : Edges

-- the edges read and the place past them
pub record Listed : Type 0 where
  pub edges : Edges
  pub past : ℕ

-- the v - 1 edges of a tree of v vertices
abbrev pub edges_of_tree : ℕ → List ℕ → ℕ → Found Listed
edges_of_tree v s at = edges_from v (v - 1) s at [] (λ E end. found (record { edges = E; past = end }))
