-- What question 19's plan test (crate plan, Valid.antt) says, in terms of reading a plan: `passes` (proofs/Theorem.antt) proves it.
use Rattle.std.specs.Prelude.{◌≡◌, ◌↔◌, List, ℕ, T, length}
use Rattle.base.specs.Limits.{max_rows}
use Rattle.base.specs.Found.{found}
use Rattle.varint.specs.Varint.{AllBytes}
use Rattle.plan.specs.Plan.{Plan}
use Rattle.plan.specs.Reading.{plan_of}
use Rattle.plan.specs.Valid.{plan_valid}

-- the columns of a plan part have the places of the largest tree, as the code's have by their type
pub record Sized (p : Plan) : Type 0 where
  pub parents : length p.parent ≡ max_rows
  pub children : length p.child ≡ max_rows

-- some bytes are read as p
abbrev pub Given : Plan → Type 0
Given p = (s : List ℕ) × AllBytes s × (plan_of s ≡ found p)

pub record Passes : Type 0 where
  -- "whose plan part a plan reading gives"
  pub exactly : (p : Plan) → Sized p → T (plan_valid p) ↔ Given p
