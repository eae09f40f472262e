-- What is told of a line that was read. proofs/Lines.antt shows that it is what the line says.
use Rattle.std.specs.Prelude.{◌≡◌, Option, Some, None, List, ℕ, eqb}
use Rattle.base.specs.Pick.{pick}
use Rattle.script_commands.specs.declared.Command.{Command}
use Rattle.script_commands.specs.Inner.{command_named}
use Rattle.script_numbers.specs.declared.Number.{Number}
use Rattle.script_numbers.specs.Inner.{reading_of}
use Rattle.script_lines.specs.declared.Line.{Line}
use Rattle.script_lines.specs.Lines.{no_line, line_from}
use Rattle.drawing_lines.specs.declared.Said.{Said}
use Rattle.drawing_lines.specs.Lines.{edge_of, range_by, says}

-- so many words, of which the first is a command or a number
abbrev pub said_by : Option Command → ℕ → Number → Number → Number → Option Said
said_by c w x y z =
    pick (eqb w 0) (Some Said.Nothing)
    (pick (eqb w 2) (edge_of (reading_of x) (reading_of y))
    (pick (eqb w 3) (range_by c (reading_of y) (reading_of z))
    None))

-- what was read says
unfoldable pub line_said : Line → Option Said
line_said l = said_by (command_named l.keyword) l.words l.first l.second l.third

-- r is what was read, and so what the line's bytes say
pub record Tells (l : Line) (r : Option Said) : Type 0 where
  pub read : r ≡ line_said l
  pub line : (s : List ℕ) → l ≡ line_from no_line s → r ≡ says s
