-- Where a table keeps the sides.
use Rattle.std.specs.Prelude.{ℕ, List, [], get_or}
use Rattle.second_plan.specs.declared.table.Sides.{Sides}

-- what a level keeps of a vertex: one more than its side, or 0
abbrev pub kept_of : Sides → ℕ → ℕ
kept_of sides v = (get_or sides.of v (record { kept = 0 })).kept

-- of all levels, what this one keeps
abbrev pub kept_at : List Sides → ℕ → ℕ → ℕ
kept_at levels level v = kept_of (get_or levels level (record { of = [] })) v
