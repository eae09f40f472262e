-- What a group of a plan says, and what is left to read after it: for the functions that read plans.
use Rattle.std.specs.Prelude.{◌&&◌, List, ℕ, ◌+◌, leb, Result, Ok, Err}
use Rattle.base.specs.Pick.{pick}
use Rattle.base.specs.Found.{Found, refused, ask}
use Rattle.base.specs.Limits.{max_width, max_reading}
use Rattle.base.specs.Question.{number_of}
use Rattle.base.specs.declared.Question.{Question}
use Rattle.base.specs.declared.Question.TheVariants.{RangeLimits}
use Rattle.base.specs.declared.Refusal.{Refusal}
use Rattle.signed.specs.Signed.{offset_of_zigzag}
use Rattle.tree.specs.Edges.{Edges}
use Rattle.tree.specs.Growth.{growth_order}
use Rattle.varint.specs.declared.VarintError.{VarintError}
use Rattle.varint.specs.Reading.{VarintRead}
use Rattle.plan.specs.Plan.{Plan}
use Rattle.plan.specs.Positions.{tree_plan, range_plan}
use Rattle.plan.specs.Reading.{ended}

-- the value that was read, or why none was
abbrev pub value_read : VarintRead → Result ℕ VarintError
value_read (Ok r) = Ok r.value
value_read (Err e) = Err e

-- what is found after a group, from its value and the place past it
abbrev pub After : Type 0
After = ℕ → ℕ → Found Plan

-- go on with what a step gives, or refuse as it does
abbrev pub and_then : {A : Type 0} → Result A Refusal → (A → Found Plan) → Found Plan
and_then (Ok x) go = go x
and_then (Err r) go = refused (number_of r.question) r.place

-- question 10 of a range: its low reading in offset binary
abbrev pub limits_of : ℕ → ℕ → Result ℕ Question
limits_of z width = pick (leb width max_width && leb (offset_of_zigzag z + width) max_reading) (Ok (offset_of_zigzag z)) (Err RangeLimits)

-- after all edges of a tree
abbrev pub tree_end : ℕ → List ℕ → Edges → ℕ → Found Plan
tree_end v s E end = ended s end (tree_plan v (growth_order E))

-- after the width
abbrev pub width_then : ℕ → List ℕ → ℕ → ℕ → ℕ → Found Plan
width_then z s second width next =
    ask (leb width max_width && leb (offset_of_zigzag z + width) max_reading) 10 second
    (ended s next (range_plan (offset_of_zigzag z) width))
