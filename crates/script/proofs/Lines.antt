-- What is told of a line that was read is what its words say.
use mathlib.Core.Path.{◌≡◌, refl, ap, ap₂, ◌∙◌}
use mathlib.Core.Bool.{Bool}
use mathlib.Core.List.{List, [], ◌∷◌}
use Prim.Native.Nat.{ℕ}
use Rattle.std.specs.Prelude.{Option}
use Rattle.script_commands.specs.declared.Command.{Command}
use Rattle.script_commands.specs.Commands.{command_of}
use Rattle.script_commands.proofs.Keywords.{keyword_named}
use Rattle.script_numbers.proofs.Numbers.{read_number, number_read}
use Rattle.script_lines.specs.declared.Line.{Line}
use Rattle.script_lines.specs.Lines.{no_line, line_from}
use Rattle.script_lines.proofs.Lines as Any
use Rattle.script_lines.proofs.Lines.{num, line_of}
use Rattle.script.specs.declared.Step.{Step}
use Rattle.script.specs.Script.{with_one, with_two, step_of, says}
use Rattle.script.specs.Inner.{line_step, Tells}

line_says : (ws : List (List ℕ)) (inside : Bool) → line_step (line_of ws inside) ≡ step_of ws
unfolding line_step
line_says [] inside = refl
line_says (k ∷ []) inside = refl
line_says (k ∷ x ∷ []) inside = ap₂ with_one (keyword_named k) (number_read x)
line_says (k ∷ x ∷ y ∷ []) inside =
    ap (λ (c : Option Command). with_two c (read_number (num x)) (read_number (num y))) (keyword_named k)
    ∙ ap₂ (with_two (command_of k)) (number_read x) (number_read y)
line_says (k ∷ x ∷ y ∷ z ∷ ws) inside = refl

pub reads : (s : List ℕ) → line_step (line_from no_line s) ≡ says s
reads s = Any.reads line_step step_of line_says s

pub tells : (l : Line) {r : Option Step} → r ≡ line_step l → Tells l r
tells l e = record { step = e; line = λ s f. e ∙ ap line_step f ∙ reads s }
