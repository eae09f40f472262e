-- What some lines say: those of document 01, and lines at the edge of what can be read.
use mathlib.Core.Path.{◌≡◌, refl}
use mathlib.Core.Bool.{true, false}
use mathlib.Core.List.{List, [], ◌∷◌, ◌++◌}
use Prim.Native.Nat.{ℕ}
use Rattle.std.specs.Prelude.{Option, Some, None}
use Rattle.script_commands.specs.declared.Command.TheVariants.{Boards, Agreement, Range, Start, Give}
use Rattle.script_numbers.specs.declared.Reading.{Reading}
use Rattle.script.specs.declared.Step.{Step}
use Rattle.script_commands.specs.Commands.{spelling, same, command_of}
use Rattle.script_numbers.specs.Numbers.{all_digits, value_from}
use Rattle.script_words.specs.Words.{words_from}
use Rattle.script.specs.Script.{says}

-- a line's bytes, and the step that it says
pub record Sample : Type 0 where
  pub line : List ℕ
  pub step : Option Step

infix 70 ◌is◌
abbrev pub ◌is◌ : List ℕ → Option Step → Sample
s is r = record { line = s; step = r }

abbrev plus : ℕ → Reading
plus m = record { negative = false; magnitude = m }

abbrev minus : ℕ → Reading
minus m = record { negative = true; magnitude = m }

-- ten digits, 4294967290 and more
abbrev large : ℕ → List ℕ
large d = 32 ∷ 52 ∷ 50 ∷ 57 ∷ 52 ∷ 57 ∷ 54 ∷ 55 ∷ 50 ∷ 57 ∷ d ∷ []

abbrev pub samples : List Sample
samples =
    -- `boards 1 0`, `agreement 1`, `range 0 2`, `start 0 1`, `give 3 0`
    (spelling Boards ++ (32 ∷ 49 ∷ 32 ∷ 48 ∷ [])) is Some (Step.Boards 1 0)
    ∷ (spelling Agreement ++ (32 ∷ 49 ∷ [])) is Some (Step.Agreement 1)
    ∷ (spelling Range ++ (32 ∷ 48 ∷ 32 ∷ 50 ∷ [])) is Some (Step.Range (plus 0) (plus 2))
    ∷ (spelling Start ++ (32 ∷ 48 ∷ 32 ∷ 49 ∷ [])) is Some (Step.Start 0 (plus 1))
    ∷ (spelling Give ++ (32 ∷ 51 ∷ 32 ∷ 48 ∷ [])) is Some (Step.Give 3 0)
    -- blanks, a tab and a carriage return; a negative reading
    ∷ (32 ∷ 32 ∷ spelling Start ++ (9 ∷ 48 ∷ 55 ∷ 32 ∷ 45 ∷ 53 ∷ 13 ∷ [])) is Some (Step.Start 7 (minus 5))
    -- the largest number, and one more
    ∷ (spelling Agreement ++ large 53) is Some (Step.Agreement 4294967295)
    ∷ (spelling Agreement ++ large 54) is None
    -- `give 3`, `give 3 0 0`, `give -3 0`, `give -0 3`
    ∷ (spelling Give ++ (32 ∷ 51 ∷ [])) is None
    ∷ (spelling Give ++ (32 ∷ 51 ∷ 32 ∷ 48 ∷ 32 ∷ 48 ∷ [])) is None
    ∷ (spelling Give ++ (32 ∷ 45 ∷ 51 ∷ 32 ∷ 48 ∷ [])) is None
    ∷ (spelling Give ++ (32 ∷ 45 ∷ 48 ∷ 32 ∷ 51 ∷ [])) is Some (Step.Give 0 3)
    -- `agreement -`, `agreement 1-`, `agreement --1`, `agreement 1x`
    ∷ (spelling Agreement ++ (32 ∷ 45 ∷ [])) is None
    ∷ (spelling Agreement ++ (32 ∷ 49 ∷ 45 ∷ [])) is None
    ∷ (spelling Agreement ++ (32 ∷ 45 ∷ 45 ∷ 49 ∷ [])) is None
    ∷ (spelling Agreement ++ (32 ∷ 49 ∷ 120 ∷ [])) is None
    -- `ranges 0 2`, `rang 0 2`, `Range 0 2`, and nothing
    ∷ (spelling Range ++ (115 ∷ 32 ∷ 48 ∷ 32 ∷ 50 ∷ [])) is None
    ∷ (114 ∷ 97 ∷ 110 ∷ 103 ∷ 32 ∷ 48 ∷ 32 ∷ 50 ∷ []) is None
    ∷ (82 ∷ 97 ∷ 110 ∷ 103 ∷ 101 ∷ 32 ∷ 48 ∷ 32 ∷ 50 ∷ []) is None
    ∷ [] is None
    ∷ []

-- the steps of lines
abbrev pub steps : List Sample → List (Option Step)
steps [] = []
steps (s ∷ rest) = s.step ∷ steps rest

abbrev pub read : List Sample → List (Option Step)
read [] = []
read (s ∷ rest) = says s.line ∷ read rest

pub all_read : read samples ≡ steps samples
unfolding same command_of words_from all_digits value_from
all_read = refl
