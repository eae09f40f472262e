-- Document 02, Q-6: "A count c goes to the nearest step, halves towards zero, with the remainder reported", "g even, 2 to 1,000", and the count answer. A table
-- of each, on both sides of every border. proofs/Numbers.antt shows that every row holds.
use Rattle.std.specs.Prelude.{◌≡◌, Bool, true, false, List, [], ◌∷◌, ℕ, ℤ, pos, neg_ℤ}
use Rattle.rounding.specs.Rounding.{size_passes, nearest_step, remainder, count_answer}

abbrev pub minus : ℕ → ℤ
minus n = neg_ℤ (pos n)

-- the most and the least that 64 bits hold with a sign
abbrev pub most : ℤ
most = pos 9223372036854775807

abbrev pub least : ℤ
least = minus 9223372036854775808

pub data Row : Type 0 where
  -- in steps of g counts the count c goes to this step, and so much is left over
  goes : (g : ℕ) (c step rest : ℤ) → Row
  -- g passes as a step's size, or not
  size : (g : ℕ) (passes : Bool) → Row
  -- the count answer of the step answer y, where the board started with the count c
  answers : (g : ℕ) (c y a : ℤ) → Row

-- what is computed, and what the row says of it
pub data Value : Type 0 where
  step_rest : (step rest : ℤ) → Value
  passes : Bool → Value
  count : ℤ → Value

abbrev pub computed : Row → Value
computed (goes g c step rest) = step_rest (nearest_step g c) (remainder g c)
computed (size g p) = passes (size_passes g)
computed (answers g c y a) = count (count_answer g c y)

abbrev pub said : Row → Value
said (goes g c step rest) = step_rest step rest
said (size g p) = passes p
said (answers g c y a) = count a

-- what a row claims
abbrev pub Holds : Row → Type 0
Holds r = computed r ≡ said r

unfoldable pub table : List Row
table =
    -- ---- the nearest step and the remainder: every second count is a half
    goes 2 (minus 3) (minus 1) (minus 1)
    ∷ goes 2 (minus 2) (minus 1) (pos 0)
    ∷ goes 2 (minus 1) (pos 0) (minus 1)
    ∷ goes 2 (pos 0) (pos 0) (pos 0)
    ∷ goes 2 (pos 1) (pos 0) (pos 1)
    ∷ goes 2 (pos 2) (pos 1) (pos 0)
    ∷ goes 2 (pos 3) (pos 1) (pos 1)
    -- before a half, at it and after it
    ∷ goes 10 (pos 4) (pos 0) (pos 4)
    ∷ goes 10 (pos 5) (pos 0) (pos 5)
    ∷ goes 10 (pos 6) (pos 1) (minus 4)
    ∷ goes 10 (pos 14) (pos 1) (pos 4)
    ∷ goes 10 (pos 15) (pos 1) (pos 5)
    ∷ goes 10 (pos 16) (pos 2) (minus 4)
    ∷ goes 10 (minus 4) (pos 0) (minus 4)
    ∷ goes 10 (minus 5) (pos 0) (minus 5)
    ∷ goes 10 (minus 6) (minus 1) (pos 4)
    ∷ goes 10 (minus 14) (minus 1) (minus 4)
    ∷ goes 10 (minus 15) (minus 1) (minus 5)
    ∷ goes 10 (minus 16) (minus 2) (pos 4)
    -- the largest step
    ∷ goes 1000 (pos 499) (pos 0) (pos 499)
    ∷ goes 1000 (pos 500) (pos 0) (pos 500)
    ∷ goes 1000 (pos 501) (pos 1) (minus 499)
    ∷ goes 1000 (pos 1499) (pos 1) (pos 499)
    ∷ goes 1000 (pos 1500) (pos 1) (pos 500)
    ∷ goes 1000 (pos 1501) (pos 2) (minus 499)
    ∷ goes 1000 (minus 499) (pos 0) (minus 499)
    ∷ goes 1000 (minus 500) (pos 0) (minus 500)
    ∷ goes 1000 (minus 501) (minus 1) (pos 499)
    ∷ goes 1000 (minus 1499) (minus 1) (minus 499)
    ∷ goes 1000 (minus 1500) (minus 1) (minus 500)
    ∷ goes 1000 (minus 1501) (minus 2) (pos 499)
    -- the ends of 64 bits
    ∷ goes 2 most (pos 4611686018427387903) (pos 1)
    ∷ goes 10 most (pos 922337203685477581) (minus 3)
    ∷ goes 1000 most (pos 9223372036854776) (minus 193)
    ∷ goes 2 least (minus 4611686018427387904) (pos 0)
    ∷ goes 10 least (minus 922337203685477581) (pos 2)
    ∷ goes 1000 least (minus 9223372036854776) (pos 192)
    -- ---- "g even, 2 to 1,000"
    ∷ size 0 false
    ∷ size 1 false
    ∷ size 2 true
    ∷ size 3 false
    ∷ size 4 true
    ∷ size 999 false
    ∷ size 1000 true
    ∷ size 1001 false
    ∷ size 1002 false
    ∷ size 4294967294 false
    ∷ size 4294967295 false
    -- ---- the count answer, above zero: of step 4, at 40, whose counts run from 35 to 45. At 40; c decides, also at a half; from there on the half does
    ∷ answers 10 (pos 40) (pos 4) (pos 40)
    ∷ answers 10 (pos 41) (pos 4) (pos 41)
    ∷ answers 10 (pos 45) (pos 4) (pos 45)
    ∷ answers 10 (pos 46) (pos 4) (pos 45)
    ∷ answers 10 (pos 100) (pos 4) (pos 45)
    -- and on its other side
    ∷ answers 10 (pos 39) (pos 4) (pos 39)
    ∷ answers 10 (pos 35) (pos 4) (pos 35)
    ∷ answers 10 (pos 34) (pos 4) (pos 35)
    ∷ answers 10 (minus 100) (pos 4) (pos 35)
    -- below zero: the same of step -4
    ∷ answers 10 (minus 40) (minus 4) (minus 40)
    ∷ answers 10 (minus 39) (minus 4) (minus 39)
    ∷ answers 10 (minus 35) (minus 4) (minus 35)
    ∷ answers 10 (minus 34) (minus 4) (minus 35)
    ∷ answers 10 (pos 100) (minus 4) (minus 35)
    ∷ answers 10 (minus 41) (minus 4) (minus 41)
    ∷ answers 10 (minus 45) (minus 4) (minus 45)
    ∷ answers 10 (minus 46) (minus 4) (minus 45)
    ∷ answers 10 (minus 100) (minus 4) (minus 45)
    -- at zero
    ∷ answers 10 (pos 0) (pos 0) (pos 0)
    ∷ answers 10 (pos 5) (pos 0) (pos 5)
    ∷ answers 10 (pos 6) (pos 0) (pos 5)
    ∷ answers 10 (minus 5) (pos 0) (minus 5)
    ∷ answers 10 (minus 6) (pos 0) (minus 5)
    -- the least step: half of it is one count
    ∷ answers 2 (pos 2) (pos 1) (pos 2)
    ∷ answers 2 (pos 3) (pos 1) (pos 3)
    ∷ answers 2 (pos 4) (pos 1) (pos 3)
    ∷ answers 2 (pos 1) (pos 1) (pos 1)
    ∷ answers 2 (pos 0) (pos 1) (pos 1)
    ∷ answers 2 (minus 1) (minus 1) (minus 1)
    ∷ answers 2 (pos 0) (minus 1) (minus 1)
    ∷ answers 2 (minus 3) (minus 1) (minus 3)
    ∷ answers 2 (minus 4) (minus 1) (minus 3)
    -- the largest
    ∷ answers 1000 (pos 2500) (pos 2) (pos 2500)
    ∷ answers 1000 (pos 2501) (pos 2) (pos 2500)
    ∷ answers 1000 (pos 1500) (pos 2) (pos 1500)
    ∷ answers 1000 (pos 1499) (pos 2) (pos 1500)
    ∷ answers 1000 (minus 1500) (minus 2) (minus 1500)
    ∷ answers 1000 (minus 1499) (minus 2) (minus 1500)
    ∷ answers 1000 (minus 2500) (minus 2) (minus 2500)
    ∷ answers 1000 (minus 2501) (minus 2) (minus 2500)
    -- the highest reading and the lowest, the ends of 64 bits
    ∷ answers 1000 most (pos 2147483647) (pos 2147483647500)
    ∷ answers 1000 least (pos 2147483647) (pos 2147483646500)
    ∷ answers 1000 most (minus 2147483648) (minus 2147483647500)
    ∷ answers 1000 least (minus 2147483648) (minus 2147483648500)
    ∷ []
