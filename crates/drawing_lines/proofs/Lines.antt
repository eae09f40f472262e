-- What is told of a line that was read is what its words say.
use mathlib.Core.Path.{◌≡◌, refl, ap, ap₂, ◌∙◌}
use mathlib.Core.Bool.{Bool}
use mathlib.Core.List.{List, [], ◌∷◌}
use Prim.Native.Nat.{ℕ}
use Rattle.std.specs.Prelude.{Option}
use Rattle.script_commands.specs.declared.Command.{Command}
use Rattle.script_commands.specs.Commands.{command_of}
use Rattle.script_commands.proofs.Keywords.{keyword_named}
use Rattle.script_numbers.proofs.Numbers.{read_number, number_read}
use Rattle.script_lines.specs.declared.Line.{Line}
use Rattle.script_lines.proofs.Lines.{num, line_of, reads}
use Rattle.drawing_lines.specs.declared.Said.{Said}
use Rattle.drawing_lines.specs.Lines.{edge_of, range_by, said_by}
use Rattle.drawing_lines.specs.Inner.{line_said, Tells}

line_says : (ws : List (List ℕ)) (inside : Bool) → line_said (line_of ws inside) ≡ said_by ws
unfolding line_said
line_says [] inside = refl
line_says (x ∷ []) inside = refl
line_says (x ∷ y ∷ []) inside = ap₂ edge_of (number_read x) (number_read y)
line_says (k ∷ x ∷ y ∷ []) inside =
    ap (λ (c : Option Command). range_by c (read_number (num x)) (read_number (num y))) (keyword_named k)
    ∙ ap₂ (range_by (command_of k)) (number_read x) (number_read y)
line_says (k ∷ x ∷ y ∷ z ∷ ws) inside = refl

pub tells : (l : Line) {r : Option Said} → r ≡ line_said l → Tells l r
tells l e = record { read = e; line = λ s f. e ∙ ap line_said f ∙ reads line_said said_by line_says s }
