-- Vertices and readings as the caller gives and gets them.
use Rattle.std.specs.Prelude.{ℕ, ◌+◌, ◌-◌, leb, ltb, eqb, ℤ, pos, negsuc, Option, Some, None}
use Rattle.base.specs.Limits.{offset_zero}
use Rattle.base.specs.Pick.{pick}
use Rattle.plan.specs.Plan.{Plan}
use Rattle.plan.specs.Positions.{reading_of}
use Rattle.level.specs.Level.{no_output}

-- The position of an input: "A start takes a vertex or, for a range, a signed reading".
-- A vertex is its own position; reading z of a range is position z - low. no_output where the input is not on the plan.
abbrev pub on_plan : Plan → ℕ → ℕ
on_plan p x = pick (ltb x p.count) x no_output

abbrev pub vertex_of : Plan → ℤ → ℕ
vertex_of p (pos x) = on_plan p x
vertex_of p (negsuc x) = no_output

-- in offset binary, as the low reading is kept: z + 2^31 - low
abbrev pub range_position : Plan → ℤ → ℕ
range_position p (pos x) = pick (leb p.low (x + offset_zero)) (on_plan p (x + offset_zero - p.low)) no_output
range_position p (negsuc x) = pick (leb (p.low + (x + 1)) offset_zero) (on_plan p (offset_zero - (x + 1) - p.low)) no_output

unfoldable pub position_of : Plan → ℤ → ℕ
position_of p z = pick (eqb p.kind 1) (vertex_of p z) (range_position p z)

-- "the answer comes likewise, or that there is none yet"
abbrev pub Answer : Type 0
Answer = Option ℤ

unfoldable pub answer_of : Plan → ℕ → Answer
answer_of p x = pick (eqb x no_output) None (Some (reading_of p x))
