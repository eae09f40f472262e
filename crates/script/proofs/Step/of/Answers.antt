use mathlib.Core.Path.{ap, ◌∙◌}
use Rattle.std.specs.Prelude.{Option}
use Rattle.script_commands.specs.declared.Command.{Command}
use Rattle.script.specs.Inner.{step_by, line_step}
use Rattle.script.proofs.Lines.{tells}
use Rattle.script.proofs.Step.of.Goals as goal

pub returns : goal.returns
unfolding line_step
returns c =
    let l = c.args.line in
    tells l (c.step_by.ensures ∙ ap (λ (k : Option Command). step_by k l.words l.second l.third) c.named.ensures)
