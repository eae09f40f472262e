-- What reading on in standard input gives, of a line so far and of what the last read brought.
use Rattle.std.specs.Prelude.{Option, Some, None, List, ℕ, take, drop}
use Rattle.base.specs.Pick.{pick}
use Rattle.script_lines.specs.declared.Line.{Line}
use Rattle.script_lines.specs.declared.Scanned.{Scanned}
use Rattle.script_lines.specs.Lines.{no_line, scanned}

-- the bytes that the last read brought, from place `at` on
abbrev pub reading_on : Line → List ℕ → ℕ → ℕ → Scanned
reading_on line bytes got at = scanned line (drop at (take got bytes)) at

-- the line, where it ends
abbrev pub line_in : Scanned → Option Line
line_in r = pick r.ended (Some r.line) None

-- what is read on then
abbrev pub rest_of : Scanned → Line
rest_of r = pick r.ended no_line r.line
