-- How the code's records stand for the definitions': this file and the code change where a plan is kept in another form.
use Rattle.std.specs.Prelude.{Result, Ok, Err}
use Rattle.base.specs.Verdict.{Verdict, refused_by}
use Rattle.base.specs.declared.Refusal.{Refusal}
use Rattle.plan.specs.Positions.{no_plan}
use Rattle.plan.specs.Plan.{Plan}
use Rattle.plan.specs.Reading.{PlanRead}
use Rattle.plan.specs.declared.Plan as Code

abbrev pub as_plan : Code.Plan → Plan
as_plan c = record { kind = c.kind; count = c.count; low = c.low; parent = c.parent; child = c.child }

-- what reading gives: no plan comes with a refusal
abbrev pub as_plan_read : Result Code.Plan Refusal → PlanRead
as_plan_read (Ok p) = record { verdict = Verdict.Accepted; plan = as_plan p }
as_plan_read (Err r) = record { verdict = refused_by r; plan = no_plan }
