-- What is told of a line that was read. proofs/Lines.antt shows that it is what the line says.
use Rattle.std.specs.Prelude.{◌≡◌, Option, None, List, ℕ, eqb}
use Rattle.base.specs.Pick.{pick}
use Rattle.script_commands.specs.declared.Command.{Command}
use Rattle.script_commands.specs.Inner.{command_named}
use Rattle.script_numbers.specs.declared.Number.{Number}
use Rattle.script_numbers.specs.Inner.{reading_of}
use Rattle.script_lines.specs.declared.Line.{Line}
use Rattle.script_lines.specs.Lines.{no_line, line_from}
use Rattle.script.specs.declared.Step.{Step}
use Rattle.script.specs.Script.{with_one, with_two, says}

-- a command and so many words
abbrev pub step_by : Option Command → ℕ → Number → Number → Option Step
step_by c w x y =
    pick (eqb w 2) (with_one c (reading_of x))
    (pick (eqb w 3) (with_two c (reading_of x) (reading_of y))
    None)

-- the step of what was read
unfoldable pub line_step : Line → Option Step
line_step l = step_by (command_named l.keyword) l.words l.second l.third

-- r is the step of what was read, and so what the line's bytes say
pub record Tells (l : Line) (r : Option Step) : Type 0 where
  pub step : r ≡ line_step l
  pub line : (s : List ℕ) → l ≡ line_from no_line s → r ≡ says s
