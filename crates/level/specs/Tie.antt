-- How the code's records stand for the definitions': this file and the code change where a level is kept in another form.
-- The code's record has what the board did at a level; what it heard there, the sets of senders, is lent beside it.
use Rattle.std.specs.Prelude.{List, ℕ, Option, Some, None}
use Rattle.level.specs.Level.{Level}
use Rattle.level.specs.Rules.{Effect, Quiet, Send, Enter, SendEnter, Applied, idle}
use Rattle.level.specs.declared.Level as Code
use Rattle.level.specs.declared.Applied as CodeApplied
use Rattle.level.specs.declared.Effect as CodeEffect
use Rattle.level.specs.declared.Effect.TheVariants as Made

abbrev pub as_level : List ℕ → Code.Level → Level
as_level sets c = record {
  sets = sets;
  entered = c.entered;
  side = c.side;
  position = c.position;
  echoed_port = c.echoed_port;
  echoed_none = c.echoed_none;
  proposal = c.proposal;
  first = c.first;
  echoed = c.echoed;
  second_proposal = c.second_proposal;
  result = c.result;
  sure = c.sure;
  told_centre = c.told_centre;
  output = c.output;
}

abbrev pub as_effect : CodeEffect.Effect → Effect
as_effect Made.Quiet = Quiet
as_effect (Made.Send b) = Send b
as_effect (Made.Enter k keep) = Enter k keep
as_effect (Made.SendEnter k) = SendEnter k

-- what a rule gives: none where it does not apply, and the record is as it was
abbrev pub as_applied : List ℕ → Code.Level → Option CodeApplied.Applied → Applied
as_applied sets l None = idle (as_level sets l)
as_applied sets l (Some a) = record { level = as_level sets a.level; effect = as_effect a.effect }
