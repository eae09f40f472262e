-- Sets of numbers as tests, and how many numbers below a bound are in them.
use Rattle.std.specs.Prelude.{Bool, true, false, not, ℕ, zero, suc, ◌+◌, ◌<◌, T}

abbrev pub bit : Bool → ℕ
bit true = 1
bit false = 0

abbrev pub Set : Type 0
Set = ℕ → Bool

-- how many of 0 .. n-1 are in the set
unfoldable pub count : ℕ → Set → ℕ
count zero f = 0
count (suc n) f = bit (f n) + count n f

-- board i is sound: one of the n, and not among the faulty ones
abbrev pub Sound : ℕ → Set → ℕ → Type 0
Sound n bad i = (i < n) × T (not (bad i))
