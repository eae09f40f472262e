-- What is kept of a plan, in the definitions' own words. The code's record stands for it by `as_plan` (Tie.antt).
use Rattle.std.specs.Prelude.{List, ℕ}

pub record Plan : Type 0 where
  -- 1: tree, 2: range, 0: no plan
  pub kind : ℕ
  -- how many positions
  pub count : ℕ
  -- the low reading of a range, in offset binary
  pub low : ℕ
  -- a tree's edges in an order in which it grows from vertex 0: each row leads from a position that is reached to one that is not
  pub parent : List ℕ
  pub child : List ℕ
