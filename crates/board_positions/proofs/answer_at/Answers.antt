-- `board_positions::answer_at` meets its contract.
use mathlib.Core.Path.{ap, ◌∙◌}
use native.Mathlib.Omega.{arith}
use Rattle.std.specs.Prelude.{Some}
use Rattle.std.proofs.lemmas.Int.{ints}
use Rattle.plan.specs.Tie.{as_plan}
use Rattle.board_laws.proofs.Inputs.{no_answer, tree_answer, range_answer}
use Rattle.board_positions.proofs.answer_at.Goals as goal

pub returns-then-x-eq-NO_OUTPUT : goal.returns-then-x-eq-NO_OUTPUT
returns-then-x-eq-NO_OUTPUT c = no_answer (as_plan c.args.plan) c.args.x c.if-x-eq-NO_OUTPUT.true

pub returns-then-plan-eq1 : goal.returns-then-plan-eq1
returns-then-plan-eq1 c = ap Some (omega (arith, ints)) ∙ tree_answer (as_plan c.args.plan) c.args.x c.if-x-eq-NO_OUTPUT.false c.if-plan-eq1.true

pub returns : goal.returns
returns c = ap Some (omega (arith, ints)) ∙ range_answer (as_plan c.args.plan) c.args.x c.if-x-eq-NO_OUTPUT.false c.if-plan-eq1.false
