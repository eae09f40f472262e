-- `plan_test::range_valid` meets its contract: each question is a part of `range_valid`.
use Rattle.plan.specs.Plan.{Plan}
use native.Mathlib.Omega.{arith}
use Rattle.plan_test.proofs.Answers.{no_range, last_range, refuted, passed}
use Rattle.plan_test.proofs.range_valid.Goals.{Start}
use Rattle.plan_test.proofs.range_valid.Goals as goal

-- the plan part that is asked about
abbrev plan : Start → Plan
plan s = record { kind = 2; count = s.args.count; low = s.args.low; parent = s.args.ps.now; child = s.args.cs.now }

pub returns-then-count-lt1 : goal.returns-then-count-lt1
returns-then-count-lt1 c =
    no_range (plan (goal.at.returns-then-count-lt1 c).Start) (λ t. omega (arith, t.some))

pub returns-then-count : goal.returns-then-count
returns-then-count c =
    no_range (plan (goal.at.returns-then-count c).Start) (λ t. omega (arith, t.most))

pub returns-then-low-count : goal.returns-then-low-count
returns-then-low-count c =
    no_range (plan (goal.at.returns-then-low-count c).Start) (λ t. omega (arith, t.high))

pub returns-then-not-all_zero : goal.returns-then-not-all_zero
returns-then-not-all_zero c =
    no_range (plan (goal.at.returns-then-not-all_zero c).Start) (λ t. refuted c.if-not-all_zero.true c.all_zero.ensures t.parents)

pub returns : goal.returns
returns c =
    last_range (plan (goal.at.returns c).Start) c.all_zero-2.ensures (omega arith) (omega arith) (omega arith) (passed c.if-not-all_zero.false c.all_zero.ensures)
