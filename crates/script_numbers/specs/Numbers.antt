-- Document 01, "The bench program": a number is an optional minus (45) and one digit or more (48 to 57), at most 2^32 - 1.
use Rattle.std.specs.Prelude.{Bool, true, false, ◌&&◌, Option, Some, None, List, [], ◌∷◌, ℕ, ◌+◌, ◌-◌, ◌*◌, eqb, leb}
use Rattle.base.specs.Pick.{pick}
use Rattle.script_numbers.specs.declared.Reading.{Reading}

-- 0 to 9
abbrev pub is_digit : ℕ → Bool
is_digit b = leb 48 b && leb b 57

-- nothing but digits
unfoldable pub all_digits : List ℕ → Bool
all_digits [] = true
all_digits (b ∷ s) = is_digit b && all_digits s

-- the value of digits, after digits of the value m
unfoldable pub value_from : ℕ → List ℕ → ℕ
value_from m [] = m
value_from m (b ∷ s) = value_from (10 * m + (b - 48)) s

-- the largest number
abbrev pub largest : ℕ
largest = 4294967295

-- digits, after a minus or not
abbrev pub digits_of : Bool → List ℕ → Option Reading
digits_of minus [] = None
digits_of minus (b ∷ s) =
    pick (all_digits (b ∷ s) && leb (value_from 0 (b ∷ s)) largest) (Some (record { negative = minus; magnitude = value_from 0 (b ∷ s) })) None

-- the number that a word stands for
abbrev pub number_of : List ℕ → Option Reading
number_of [] = None
number_of (b ∷ s) = pick (eqb b 45) (digits_of true s) (digits_of false (b ∷ s))
