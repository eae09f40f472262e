-- What a board that has not started can start with; no list of steps is held to it (`can_start` in proofs/Accepted.antt).
use Rattle.std.specs.Prelude.{◌≡◌, T}
use Rattle.rounding.specs.Rounding.{size_passes, nearest_step}
use Rattle.plan.specs.Plan.{Plan}
use Rattle.level.specs.Level.{no_output}
use Rattle.board_calls.specs.Answers.{position_of}
use Rattle.agreement.specs.History.{StartInput, plain, by_count}

-- an input on the plan; a count also needs a range and a step size that passes
abbrev pub Startable : Plan → StartInput → Type 0
Startable plan (plain z) = position_of plan z ≡ no_output → ⊥
Startable plan (by_count g c) = T (size_passes g) × (plan.kind ≡ 2) × (position_of plan (nearest_step g c) ≡ no_output → ⊥)
