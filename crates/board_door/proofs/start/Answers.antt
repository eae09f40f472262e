-- `board_door::start` meets its contract: it is a start at the input's position.
use mathlib.Core.Path.{ap, ◌∙◌}
use lib.ListN.{length}
use mir.Syntax.{w64}
use mir.ValLaws.{to_z-of_z}
use Rattle.plan.specs.Tie.{as_plan}
use Rattle.party.specs.Tie.{as_party}
use Rattle.board_calls.specs.Answers.{position_of}
use Rattle.board_door.proofs.Doors.{started_from}
use Rattle.board_door.proofs.start.Goals as goal

pub returns : goal.returns
returns c =
    started_from (as_party c.args.p) c.args.input (length c.args.journal.now) c.args.used (length c.args.out.now) c.position_of.result
    (c.position_of.ensures.gives ∙ ap (position_of (as_plan c.args.p.plan)) (to_z-of_z w64 c.args.input c.ranges.input)) c.start_at.ensures
