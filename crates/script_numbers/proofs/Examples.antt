-- The largest number that a word stands for, and one more.
use mathlib.Core.Path.{◌≡◌, refl}
use mathlib.Core.Bool.{false}
use mathlib.Core.List.{List, [], ◌∷◌}
use Rattle.std.specs.Prelude.{Some, None}
use Prim.Native.Nat.{ℕ}
use Rattle.script_numbers.specs.Numbers.{all_digits, value_from, number_of}

-- ten digits, 4294967290 and more
abbrev large : ℕ → List ℕ
large d = 52 ∷ 50 ∷ 57 ∷ 52 ∷ 57 ∷ 54 ∷ 55 ∷ 50 ∷ 57 ∷ d ∷ []

pub largest_read : number_of (large 53) ≡ Some (record { negative = false; magnitude = 4294967295 })
unfolding all_digits value_from
largest_read = refl

pub one_more : number_of (large 54) ≡ None
unfolding all_digits value_from
one_more = refl
