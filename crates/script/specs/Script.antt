-- Document 01, "The bench program": what a line of the script says. A line is the bytes before its newline.
use Rattle.std.specs.Prelude.{Option, Some, None, List, [], ◌∷◌, ℕ}
use Rattle.script_commands.specs.declared.Command.{Command}
use Rattle.script_commands.specs.declared.Command.TheVariants.{Boards, Agreement, Range, Start, Give}
use Rattle.script_commands.specs.Commands.{command_of}
use Rattle.script_numbers.specs.declared.Reading.{Reading}
use Rattle.script_numbers.specs.Numbers.{number_of}
use Rattle.script_numbers.specs.Inner.{natural}
use Rattle.script_words.specs.Words.{words}
use Rattle.script.specs.declared.Step.{Step}

-- what a step needs, if it is there
abbrev pub given : {A : Type 0} → Option A → (A → Option Step) → Option Step
given (Some a) f = f a
given None f = None

-- a command and one number
abbrev pub with_one : Option Command → Option Reading → Option Step
with_one None x = None
with_one (Some Boards) x = None
with_one (Some Agreement) x = given (natural x) (λ a. Some (Step.Agreement a))
with_one (Some Range) x = None
with_one (Some Start) x = None
with_one (Some Give) x = None

-- a command and two numbers
abbrev pub with_two : Option Command → Option Reading → Option Reading → Option Step
with_two None x y = None
with_two (Some Boards) x y = given (natural x) (λ n. given (natural y) (λ t. Some (Step.Boards n t)))
with_two (Some Agreement) x y = None
with_two (Some Range) x y = given x (λ low. given y (λ high. Some (Step.Range low high)))
with_two (Some Start) x y = given (natural x) (λ b. given y (λ r. Some (Step.Start b r)))
with_two (Some Give) x y = given (natural x) (λ m. given (natural y) (λ b. Some (Step.Give m b)))

-- the step that some words say
abbrev pub step_of : List (List ℕ) → Option Step
step_of [] = None
step_of (k ∷ []) = None
step_of (k ∷ x ∷ []) = with_one (command_of k) (number_of x)
step_of (k ∷ x ∷ y ∷ []) = with_two (command_of k) (number_of x) (number_of y)
step_of (k ∷ x ∷ y ∷ z ∷ ws) = None

-- what a line says
abbrev pub says : List ℕ → Option Step
says s = step_of (words s)
