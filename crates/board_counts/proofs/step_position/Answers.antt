-- `board_counts::step_position` meets its contract, by the kind.
use mathlib.Core.Path.{ap, ◌∙◌}
use mir.Syntax.{w64}
use mir.ValLaws.{to_z-of_z}
use Rattle.plan.specs.Tie.{as_plan}
use Rattle.board_calls.specs.Answers.{position_of}
use Rattle.board_counts.proofs.Questions.{step_range, step_none}
use Rattle.board_counts.proofs.step_position.Goals as goal

pub returns-then-plan-ne-RANGE-clause-gives : goal.returns-then-plan-ne-RANGE-clause-gives
returns-then-plan-ne-RANGE-clause-gives c = step_none (as_plan c.args.plan) _ c.if-plan-ne-RANGE.true

pub returns-clause-gives : goal.returns-clause-gives
returns-clause-gives c =
    c.position_of.ensures.gives
    ∙ ap (position_of (as_plan c.args.plan)) (to_z-of_z w64 c.args.step c.ranges.step)
    ∙ step_range (as_plan c.args.plan) c.args.step c.if-plan-ne-RANGE.false
