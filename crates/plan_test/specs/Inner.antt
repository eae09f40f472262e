-- What is noted of the rows that were passed: serves proofs only.
use Rattle.std.specs.Prelude.{◌≡◌, List, ℕ, ◌≤◌, ◌<◌, length, get_or}
use Rattle.base.specs.Sets.{bit}
use Rattle.tree.specs.Edges.{Edges, edges_at}
use Rattle.tree.specs.Growth.{reached}

-- for each position below v a mark, 1 where F reaches it, and how many edges of F end there
pub record Noted (v : ℕ) (F : Edges) (seen many : List ℕ) : Type 0 where
  pub places : (v ≤ length seen) × (v ≤ length many)
  pub marks : (x : ℕ) → x < v → get_or seen x 0 ≡ bit (reached F x)
  pub counts : (x : ℕ) → x < v → get_or many x 0 ≡ edges_at F x
