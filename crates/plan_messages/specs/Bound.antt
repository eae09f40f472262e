-- Document 02, Q-7: "A call works out, from a plan alone, the number of sending levels its deepest component needs and 7 times that."
use Rattle.std.specs.Prelude.{List, ℕ, ◌*◌}
use Rattle.base.specs.Limits.{level_messages}
use Rattle.base.specs.Verdict.{Verdict}
use Rattle.base.specs.Found.{Found, found, refused}
use Rattle.plan.specs.Plan.{Plan}
use Rattle.plan.specs.Reading.{plan_of}
use Rattle.plan_levels.specs.Levels.{levels_of}

-- the verdict of reading the plan, the number of levels and that of messages; 0 where it is refused. The code's result stands for it by `as_bound` (Tie.antt).
pub record Bound : Type 0 where
  pub verdict : Verdict
  pub levels : ℕ
  pub messages : ℕ

-- of what questions 4 to 11 find
abbrev pub bound_by : Found Plan → Bound
bound_by (found p) = record { verdict = Verdict.Accepted; levels = levels_of p; messages = level_messages * levels_of p }
bound_by (refused number place) = record { verdict = Verdict.Refused number place; levels = 0; messages = 0 }

-- from the plan's bytes alone
abbrev pub bound_of : List ℕ → Bound
bound_of s = bound_by (plan_of s)
