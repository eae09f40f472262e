-- What rule 12 counts and chooses, of the sets of senders of a level in the order of their places.
use Rattle.std.specs.Prelude.{Bool, List, ℕ, ◌+◌, ltb, Option, Some, None}
use Rattle.base.specs.Pick.{pick, smallest}
use Rattle.level_counts.specs.Places.{sides}
use Rattle.level_counts.specs.Choice.{reached}

-- the smallest of the sides 1 to d that passes, if one does
abbrev pub first_side : ℕ → (ℕ → Bool) → Option ℕ
first_side d p = pick (ltb (smallest d (λ i. p (i + 1))) d) (Some (smallest d (λ i. p (i + 1)) + 1)) None

abbrev pub side_of : List ℕ → ℕ → ℕ → Option ℕ
side_of sets d t = first_side d (reached sets sides (t + 1))
