-- What some lines say.
use mathlib.Core.Path.{◌≡◌, refl}
use mathlib.Core.Bool.{true, false}
use mathlib.Core.List.{List, [], ◌∷◌, ◌++◌}
use Prim.Native.Nat.{ℕ}
use Rattle.std.specs.Prelude.{Option, Some, None}
use Rattle.script_commands.specs.declared.Command.TheVariants.{Range, Start}
use Rattle.script_commands.specs.Commands.{spelling, same, command_of}
use Rattle.script_numbers.specs.declared.Reading.{Reading}
use Rattle.script_numbers.specs.Numbers.{all_digits, value_from}
use Rattle.script_words.specs.Words.{words_from}
use Rattle.drawing_lines.specs.declared.Said.{Said}
use Rattle.drawing_lines.specs.Lines.{says}

-- a line's bytes, and what it says
pub record Sample : Type 0 where
  pub line : List ℕ
  pub said : Option Said

infix 70 ◌is◌
abbrev pub ◌is◌ : List ℕ → Option Said → Sample
s is r = record { line = s; said = r }

abbrev plus : ℕ → Reading
plus m = record { negative = false; magnitude = m }

abbrev minus : ℕ → Reading
minus m = record { negative = true; magnitude = m }

-- ten digits, 4294967290 and more
abbrev large : ℕ → List ℕ
large d = 52 ∷ 50 ∷ 57 ∷ 52 ∷ 57 ∷ 54 ∷ 55 ∷ 50 ∷ 57 ∷ d ∷ []

abbrev pub samples : List Sample
samples =
    -- `0 12`; a tab, two blanks and a carriage return
    (48 ∷ 32 ∷ 49 ∷ 50 ∷ []) is Some (Said.Edge 0 12)
    ∷ (9 ∷ 48 ∷ 55 ∷ 32 ∷ 32 ∷ 51 ∷ 13 ∷ []) is Some (Said.Edge 7 3)
    -- the largest number, and one more
    ∷ (large 53 ++ (32 ∷ 48 ∷ [])) is Some (Said.Edge 4294967295 0)
    ∷ (large 54 ++ (32 ∷ 48 ∷ [])) is None
    -- no byte, and blanks alone
    ∷ [] is Some Said.Nothing
    ∷ (32 ∷ 9 ∷ 13 ∷ []) is Some Said.Nothing
    -- `1`, `1 2 3`, `1 -2`, `-0 2`, `1 x`
    ∷ (49 ∷ []) is None
    ∷ (49 ∷ 32 ∷ 50 ∷ 32 ∷ 51 ∷ []) is None
    ∷ (49 ∷ 32 ∷ 45 ∷ 50 ∷ []) is None
    ∷ (45 ∷ 48 ∷ 32 ∷ 50 ∷ []) is None
    ∷ (49 ∷ 32 ∷ 120 ∷ []) is None
    -- `range -5 3`, `range 3 -5`; two tabs, a blank and a carriage return
    ∷ (spelling Range ++ (32 ∷ 45 ∷ 53 ∷ 32 ∷ 51 ∷ [])) is Some (Said.Range (minus 5) (plus 3))
    ∷ (spelling Range ++ (32 ∷ 51 ∷ 32 ∷ 45 ∷ 53 ∷ [])) is Some (Said.Range (plus 3) (minus 5))
    ∷ (9 ∷ spelling Range ++ (9 ∷ 48 ∷ 55 ∷ 32 ∷ 56 ∷ 13 ∷ [])) is Some (Said.Range (plus 7) (plus 8))
    -- `range`, `range 1`, `range 1 2 3`, `range 1 x`, `start 1 2`
    ∷ spelling Range is None
    ∷ (spelling Range ++ (32 ∷ 49 ∷ [])) is None
    ∷ (spelling Range ++ (32 ∷ 49 ∷ 32 ∷ 50 ∷ 32 ∷ 51 ∷ [])) is None
    ∷ (spelling Range ++ (32 ∷ 49 ∷ 32 ∷ 120 ∷ [])) is None
    ∷ (spelling Start ++ (32 ∷ 49 ∷ 32 ∷ 50 ∷ [])) is None
    ∷ []

abbrev pub expected : List Sample → List (Option Said)
expected [] = []
expected (s ∷ rest) = s.said ∷ expected rest

abbrev pub read : List Sample → List (Option Said)
read [] = []
read (s ∷ rest) = says s.line ∷ read rest

pub all_read : read samples ≡ expected samples
unfolding same command_of words_from all_digits value_from
all_read = refl
