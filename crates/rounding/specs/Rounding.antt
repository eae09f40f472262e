-- Document 02, Q-6: "Probes give signed 64-bit counts; stations vote in steps of g counts". Counts rounded to steps (quantized), and a step's answer as a count.
use Rattle.std.specs.Prelude.{Bool, ◌&&◌, ℕ, ◌+◌, ◌/◌, ◌%◌, leb, ltb, eqb, ℤ, pos, negsuc, neg_ℤ, nat_abs, ◌+ℤ◌, ◌-ℤ◌, ◌*ℤ◌}
use Rattle.std.specs.Int.Signed.{le_z}
use Rattle.base.specs.Pick.{pick}

-- "g even, 2 to 1,000": how many counts make a step
abbrev pub min_step_size : ℕ
min_step_size = 2

abbrev pub max_step_size : ℕ
max_step_size = 1000

abbrev pub size_passes : ℕ → Bool
size_passes g = eqb (g % 2) 0 && (leb min_step_size g && leb g max_step_size)

-- m with the sign of c
abbrev pub with_sign : ℤ → ℕ → ℤ
with_sign (pos n) m = pos m
with_sign (negsuc n) m = neg_ℤ (pos m)

-- "A count c goes to the nearest step, halves towards zero": by magnitude to the step below, or where more than half of a step is left over to the next one
-- (`Rounds` says it without this rule)
unfoldable pub nearest_step : ℕ → ℤ → ℤ
nearest_step g c = with_sign c (nat_abs c / g + pick (ltb (g / 2) (nat_abs c % g)) 1 0)

-- "with the remainder reported: c = g × step + remainder"
unfoldable pub remainder : ℕ → ℤ → ℤ
remainder g c = c -ℤ pos g *ℤ nearest_step g c

abbrev pub lesser : ℤ → ℤ → ℤ
lesser a b = pick (le_z a b) a b

abbrev pub greater : ℤ → ℤ → ℤ
greater a b = pick (le_z a b) b a

-- "From step answer y and the start's count c .. the count answer is the lesser of g × y + g/2 and c when g × y is at most c, else the greater of g × y - g/2
-- and c."
unfoldable pub count_answer : ℕ → ℤ → ℤ → ℤ
count_answer g c y = pick (le_z (pos g *ℤ y) c) (lesser (pos g *ℤ y +ℤ pos (g / 2)) c) (greater (pos g *ℤ y -ℤ pos (g / 2)) c)
