-- What a line of a drawing says. A line is the bytes before its newline.
use Rattle.std.specs.Prelude.{Option, Some, None, List, [], ◌∷◌, ℕ}
use Rattle.script_commands.specs.declared.Command.{Command}
use Rattle.script_commands.specs.declared.Command.TheVariants.{Boards, Agreement, Range, Start, Give}
use Rattle.script_commands.specs.Commands.{command_of}
use Rattle.script_numbers.specs.declared.Reading.{Reading}
use Rattle.script_numbers.specs.Numbers.{number_of}
use Rattle.script_numbers.specs.Inner.{unsigned}
use Rattle.script_words.specs.Words.{words}
use Rattle.drawing_lines.specs.declared.Said.{Said}

-- what is needed, if it is there
abbrev pub given : {A : Type 0} → Option A → (A → Option Said) → Option Said
given (Some a) f = f a
given None f = None

-- two vertices: numbers without a minus
abbrev pub edge_of : Option Reading → Option Reading → Option Said
edge_of x y = given (unsigned x) (λ a. given (unsigned y) (λ b. Some (Said.Edge a b)))

-- the word `range` and two readings
abbrev pub range_by : Option Command → Option Reading → Option Reading → Option Said
range_by None x y = None
range_by (Some Boards) x y = None
range_by (Some Agreement) x y = None
range_by (Some Range) x y = given x (λ low. given y (λ high. Some (Said.Range low high)))
range_by (Some Start) x y = None
range_by (Some Give) x y = None

-- no word says nothing, the numbers of two vertices say an edge, the word `range` and two readings say a range, and nothing else can be read
abbrev pub said_by : List (List ℕ) → Option Said
said_by [] = Some Said.Nothing
said_by (x ∷ []) = None
said_by (x ∷ y ∷ []) = edge_of (number_of x) (number_of y)
said_by (k ∷ x ∷ y ∷ []) = range_by (command_of k) (number_of x) (number_of y)
said_by (k ∷ x ∷ y ∷ z ∷ ws) = None

-- what a line says
abbrev pub says : List ℕ → Option Said
says s = said_by (words s)
