-- What rule 8 counts and chooses, of the sets of senders of a level in the order of their places.
use Rattle.std.specs.Prelude.{Bool, false, ◌&&◌, List, ℕ, ◌+◌, ◌-◌, leb, ltb, eqb, Option, Some, None}
use Rattle.base.specs.Pick.{pick, smallest}
use Rattle.base.specs.Sets.{count}
use Rattle.message.specs.Message.{none_value}
use Rattle.level_counts.specs.Places.{second_echoes, second_proposals}
use Rattle.level_counts.specs.Choice.{reached, candidate}
use Rattle.level_counts_second_result.specs.declared.Graded.{Graded}

abbrev pub graded : ℕ → Bool → Graded
graded v two = record { value = v; sure = two }

-- t+1 second echoes stand for none and for exactly one value
abbrev pub one_echoed : List ℕ → ℕ → ℕ → Bool
one_echoed sets d t = reached sets second_echoes (t + 1) none_value && eqb (count (d + 1) (reached sets second_echoes (t + 1))) 1

-- that value
abbrev pub unsure_of : List ℕ → ℕ → ℕ → Option ℕ
unsure_of sets d t = pick (one_echoed sets d t) (Some (smallest (d + 1) (reached sets second_echoes (t + 1)))) None

-- candidate i where there is one, and sure if it is a value
abbrev pub sure_or : ℕ → ℕ → Option Graded → Option Graded
sure_or d i other = pick (ltb i (d + 2)) (Some (graded (candidate d i) (leb i d))) other

abbrev pub result_of : List ℕ → ℕ → ℕ → ℕ → Option Graded
result_of sets d n t =
    sure_or d (smallest (d + 2) (λ i. reached sets second_proposals (n - t) (candidate d i)))
    (pick (one_echoed sets d t) (Some (graded (smallest (d + 1) (reached sets second_echoes (t + 1))) false)) None)
