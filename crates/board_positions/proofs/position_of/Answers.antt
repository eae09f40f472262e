-- `board_positions::position_of` meets its contract: a vertex is its own position, and a reading of a range is shifted.
use mathlib.Core.Path.{ap, ◌∙◌}
use native.Mathlib.Omega.{arith}
use mir.Syntax.{w64}
use mir.Val.{to_z, of_z}
use mir.ValLaws.{to_z-of_z}
use Rattle.std.proofs.lemmas.Int.{ints}
use Rattle.board_calls.specs.Answers.{vertex_of}
use Rattle.board_calls.specs.Tie.{as_position}
use Rattle.plan.specs.Tie.{as_plan}
use Rattle.board_laws.proofs.Inputs.{of_tree, of_range, shifted, far}
use Rattle.board_positions.proofs.position_of.Goals as goal

pub returns-then-plan-eq1-clause-gives : goal.returns-then-plan-eq1-clause-gives
returns-then-plan-eq1-clause-gives c =
    c.on_plan.ensures.gives
    ∙ ap (vertex_of (as_plan c.args.plan)) (to_z-of_z w64 c.args.input c.ranges.input)
    ∙ of_tree (as_plan c.args.plan) c.args.input c.if-plan-eq1.true

pub returns-in_err-x-clause-gives : goal.returns-in_err-x-clause-gives
returns-in_err-x-clause-gives c =
    ap as_position c.from_residual.ensures
    ∙ far (as_plan c.args.plan) _ (omega arith) c.in_err-x.ensures
    ∙ shifted (as_plan c.args.plan) c.args.input _ (omega (arith, ints))
    ∙ of_range (as_plan c.args.plan) c.args.input c.if-plan-eq1.false

pub returns-clause-gives : goal.returns-clause-gives
returns-clause-gives c =
    c.on_plan-2.ensures.gives
    ∙ shifted (as_plan c.args.plan) c.args.input (to_z w64 (of_z w64 c.in_ok-x.x)) (omega (arith, ints, c.in_ok-x.ensures))
    ∙ of_range (as_plan c.args.plan) c.args.input c.if-plan-eq1.false
