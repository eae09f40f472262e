-- What the answer of reading tells of the bytes that were read.
use mathlib.Core.Path.{◌≡◌, refl, sym, ap}
use Prim.Native.Nat.{ℕ}
use native.Mathlib.Omega.{arith}
use Rattle.std.specs.Prelude.{Ok, Err}
use Rattle.base.specs.Question.{number_of}
use Rattle.base.specs.declared.Refusal.{Refusal}
use Rattle.base.specs.Found.{Found, found, refused}
use Rattle.base.specs.Verdict.{Verdict}
use Rattle.plan.specs.Plan.{Plan}
use Rattle.plan.specs.Reading.{PlanRead, answered}
use Rattle.plan.specs.Tie.{as_plan, as_plan_read}
use Rattle.plan.specs.declared.Plan as Code

-- they are refused as the verdict says
pub verdict_refused : (f : Found Plan) (r : PlanRead) {number place : ℕ} → r ≡ answered f → r.verdict ≡ Verdict.Refused number place → f ≡ refused number place
verdict_refused (found p) r e v = let i = ap (λ (q : PlanRead). q.verdict) e in let z : ◌≡◌ {A = ℕ} 0 1 = cc in absurd (omega arith)
verdict_refused (refused n p) r e v = let i = ap (λ (q : PlanRead). q.verdict) e in cc

-- or are the plan that comes with it
pub verdict_accepted : (f : Found Plan) (r : PlanRead) → r ≡ answered f → r.verdict ≡ Verdict.Accepted → f ≡ found r.plan
verdict_accepted (found p) r e v = ap found (sym (ap (λ (q : PlanRead). q.plan) e))
verdict_accepted (refused n p) r e v = let i = ap (λ (q : PlanRead). q.verdict) e in let z : ◌≡◌ {A = ℕ} 0 1 = cc in absurd (omega arith)

-- the same of what the code gives
pub read_refused : (f : Found Plan) (r : Refusal) → as_plan_read (Err r) ≡ answered f → f ≡ refused (number_of r.question) r.place
read_refused f r e = verdict_refused f (as_plan_read (Err r)) e refl

pub read_accepted : (f : Found Plan) {p : Code.Plan} → as_plan_read (Ok p) ≡ answered f → f ≡ found (as_plan p)
read_accepted f {p} e = verdict_accepted f (as_plan_read (Ok p)) e refl
