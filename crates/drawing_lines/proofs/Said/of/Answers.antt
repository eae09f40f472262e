use mathlib.Core.Path.{ap, ◌∙◌}
use Rattle.std.specs.Prelude.{Option}
use Rattle.script_commands.specs.declared.Command.{Command}
use Rattle.drawing_lines.specs.Inner.{said_by, line_said}
use Rattle.drawing_lines.proofs.Lines.{tells}
use Rattle.drawing_lines.proofs.Said.of.Goals as goal

pub returns : goal.returns
unfolding line_said
returns c =
    let l = c.args.line in
    tells l (c.said_by.ensures ∙ ap (λ (k : Option Command). said_by k l.words l.first l.second l.third) c.named.ensures)
