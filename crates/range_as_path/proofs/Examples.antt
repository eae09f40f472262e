-- The range of the readings 5 to 7 beside the path 0-1-2: an answer at position 1 is reading 6, and vertex 1.
use mathlib.Core.Path.{◌≡◌, refl}
use mathlib.Core.List.{[], ◌∷◌}
use native.Mathlib.Omega.{arith}
use lib.IntN.{pos}
use Rattle.std.specs.Prelude.{Some}
use Rattle.plan.specs.Plan.{Plan}
use Rattle.plan.specs.Positions.{range_plan, tree_plan, reading_of}
use Rattle.board_calls.specs.Answers.{answer_of}
use Rattle.range_as_path.specs.Twin.{TwinAnswer, position}

-- the low reading in offset binary: 2^31 + 5
abbrev range : Plan
range = range_plan 2147483653 2

abbrev path : Plan
path = tree_plan 3 (record { one = 1; two = 2 } ∷ record { one = 0; two = 1 } ∷ [])

pub answers : (answer_of range 1 ≡ Some (pos 6)) × (answer_of path 1 ≡ Some (pos 1))
unfolding answer_of reading_of
answers = (refl, refl)

pub answers_alike : TwinAnswer range (Some (pos 6)) (Some (pos 1))
answers_alike = position {x = 1} (omega arith)
