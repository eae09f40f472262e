-- How the code's answer stands for the definitions'.
use Rattle.std.specs.Prelude.{Result, Ok, Err}
use Rattle.base.specs.Verdict.{Verdict, refused_by}
use Rattle.base.specs.declared.Refusal.{Refusal}
use Rattle.plan_messages.specs.Bound.{Bound}
use Rattle.plan_messages.specs.declared.Bound as Code

abbrev pub as_bound : Result Code.Bound Refusal → Bound
as_bound (Ok b) = record { verdict = Verdict.Accepted; levels = b.levels; messages = b.messages }
as_bound (Err r) = record { verdict = refused_by r; levels = 0; messages = 0 }
