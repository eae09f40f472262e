-- `plan_test::tree_valid` meets its contract: each question is a part of `tree_valid`.
use Rattle.base.specs.Limits.{max_vertices}
use Rattle.plan.specs.Plan.{Plan}
use native.Mathlib.Omega.{arith}
use Rattle.plan_test.proofs.Answers.{no_tree, last_tree, refuted, passed, noted_none}
use Rattle.plan_test.proofs.tree_valid.Goals.{Start}
use Rattle.plan_test.proofs.tree_valid.Goals as goal

-- the plan part that is asked about
abbrev plan : Start → Plan
plan s = record { kind = 1; count = s.args.count; low = s.args.low; parent = s.args.ps.now; child = s.args.cs.now }

pub returns-then-count-lt1 : goal.returns-then-count-lt1
returns-then-count-lt1 c =
    no_tree (plan (goal.at.returns-then-count-lt1 c).Start) (λ t. omega (arith, t.some))

pub returns-then-count-gt-MAX_VERTICES : goal.returns-then-count-gt-MAX_VERTICES
returns-then-count-gt-MAX_VERTICES c =
    no_tree (plan (goal.at.returns-then-count-gt-MAX_VERTICES c).Start) (λ t. omega (arith, t.most))

pub returns-then-low-ne0 : goal.returns-then-low-ne0
returns-then-low-ne0 c =
    no_tree (plan (goal.at.returns-then-low-ne0 c).Start) (λ t. c.if-low-ne0.true t.no_low)

pub rows_fit-requires : goal.rows_fit-requires
rows_fit-requires c = (noted_none _ max_vertices max_vertices (omega arith) (omega arith), omega arith, omega arith)

pub returns-then-not-rows_fit : goal.returns-then-not-rows_fit
returns-then-not-rows_fit c =
    no_tree (plan (goal.at.returns-then-not-rows_fit c).Start) (λ t. refuted c.if-not-rows_fit.true c.rows_fit.ensures t.fit)

pub returns-then-not-all_zero : goal.returns-then-not-all_zero
returns-then-not-all_zero c =
    no_tree (plan (goal.at.returns-then-not-all_zero c).Start) (λ t. refuted c.if-not-all_zero.true c.all_zero.ensures t.parents)

pub returns : goal.returns
returns c =
    last_tree (plan (goal.at.returns c).Start) c.all_zero-2.ensures (omega arith) (omega arith) c.if-low-ne0.false (passed c.if-not-rows_fit.false c.rows_fit.ensures)
    (passed c.if-not-all_zero.false c.all_zero.ensures)
