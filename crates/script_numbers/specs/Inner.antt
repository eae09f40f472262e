-- A number read byte by byte: what the functions of this crate compute. proofs/Numbers.antt shows that it is the number that the word stands for.
use Rattle.std.specs.Prelude.{Bool, true, false, not, ◌&&◌, Option, Some, None, ℕ, ◌+◌, ◌-◌, ◌*◌, eqb, leb}
use Rattle.base.specs.Pick.{pick}
use Rattle.script_numbers.specs.declared.Number.{Number}
use Rattle.script_numbers.specs.declared.Number.TheVariants.{Begun, Digits, Unreadable}
use Rattle.script_numbers.specs.declared.Reading.{Reading}
use Rattle.script_numbers.specs.Numbers.{is_digit, largest}

-- no byte yet
abbrev pub no_number : Number
no_number = Begun false

-- a minus stands in front
abbrev pub minus_with : Number → Number
minus_with (Begun negative) = pick negative Unreadable (Begun true)
minus_with (Digits r) = Unreadable
minus_with Unreadable = Unreadable

-- a digit more, if the number stays within its limit
abbrev pub appended : ℕ → ℕ → Option ℕ
appended m d = pick (leb (10 * m + d) largest) (Some (10 * m + d)) None

abbrev pub digits : Bool → Option ℕ → Number
digits negative (Some m) = Digits (record { negative = negative; magnitude = m })
digits negative None = Unreadable

abbrev pub digit_with : Number → ℕ → Number
digit_with (Begun negative) d = digits negative (appended 0 d)
digit_with (Digits r) d = digits r.negative (appended r.magnitude d)
digit_with Unreadable d = Unreadable

-- the number with one byte more
unfoldable pub number_with : Number → ℕ → Number
number_with x b = pick (eqb b 45) (minus_with x) (pick (is_digit b) (digit_with x (b - 48)) Unreadable)

-- what it is, if it is a number
abbrev pub reading_of : Number → Option Reading
reading_of (Begun negative) = None
reading_of (Digits r) = Some r
reading_of Unreadable = None

-- what it is, if it is one of 0 or more
abbrev pub natural : Option Reading → Option ℕ
natural (Some r) = pick (r.negative && not (eqb r.magnitude 0)) None (Some r.magnitude)
natural None = None

abbrev pub natural_of : Number → Option ℕ
natural_of x = natural (reading_of x)

-- what it is, if it is one without a minus
abbrev pub unsigned : Option Reading → Option ℕ
unsigned (Some r) = pick r.negative None (Some r.magnitude)
unsigned None = None

abbrev pub unsigned_of : Number → Option ℕ
unsigned_of x = unsigned (reading_of x)
