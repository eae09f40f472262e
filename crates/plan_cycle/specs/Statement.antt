-- What is shown of the call's answer, for every plan's bytes.
use Rattle.std.specs.Prelude.{◌≡◌, List, ◌++◌, ℕ, ◌≤◌, ◌<◌, ◌^◌, length}
use Rattle.base.specs.Limits.{max_vertices}
use Rattle.base.specs.Found.{refused}
use Rattle.varint.specs.Varint.{AllBytes}
use Rattle.tree.specs.Edges.{Edges, Below}
use Rattle.cycles.specs.Cycles.{on_cycle}
use Rattle.cycles.specs.Statement.{Rejected, Smallest}
use Rattle.plan.specs.Bytes.{tree_bytes}
use Rattle.plan.specs.Reading.{plan_of}
use Rattle.plan_cycle.specs.Cycle.{edges_to_rejected, cycle_among, no_cycle, cycle_of}

-- the bytes start with those of a tree: its kind, the vertex count v, and the edges E
pub record Starts (s : List ℕ) (v : ℕ) (E : Edges) : Type 0 where
  pub rest : List ℕ
  pub bytes : s ≡ tree_bytes v E ++ rest

-- "the edges up to the rejected one, it included"
pub record UpToRejected (s : List ℕ) (E : Edges) : Type 0 where
  -- the bytes start with them
  pub vertices : ℕ
  pub starts : AllBytes s → Starts s vertices E
  -- they are no more than a tree of so many vertices has, and their ends are its vertices
  pub within : vertices ≤ max_vertices
  pub among : length E < vertices
  pub below : Below vertices E
  -- only the latest joins ends already joined
  pub rejected : Rejected E

pub record Explained (s : List ℕ) (E : Edges) : Type 0 where
  pub edges : UpToRejected s E
  -- of the edges with which the bytes start, whatever the vertex count, no others, whose ends have varints, end with a rejected one
  pub unique : (v : ℕ) (F : Edges) → Below (2 ^ 32) F → Starts s v F → Rejected F → F ≡ E
  -- "give in plan order"
  pub given : cycle_of s ≡ cycle_among E
  -- "the smallest set in which some edge joins ends already joined"; "it is the only one"
  pub smallest : Smallest E (on_cycle E)

pub record Explains (s : List ℕ) : Type 0 where
  -- "For such a plan", one that is refused by 8
  pub eight : (place : ℕ) → plan_of s ≡ refused 8 place → Explained s (edges_to_rejected s place)
  -- "Plans that pass or fail otherwise give an empty set."
  pub empty : ((place : ℕ) → plan_of s ≡ refused 8 place → ⊥) → cycle_of s ≡ no_cycle

abbrev pub Statement : Type 0
Statement = (s : List ℕ) → Explains s
