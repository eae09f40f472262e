-- What rule 4 counts and chooses, of the sets of senders of a level in the order of their places.
use Rattle.std.specs.Prelude.{Bool, ◌&&◌, List, ℕ, ◌+◌, ◌-◌, ◌/◌, ◌%◌, ◌^◌, ltb, eqb, get_or, Option}
use Rattle.base.specs.Pick.{smallest}
use Rattle.message.specs.Message.{none_value}
use Rattle.senders.specs.Senders.{union, union_over, at_least}
use Rattle.level_counts.specs.Places.{bit_places, first_proposals}
use Rattle.level_counts.specs.Choice.{reached, first_value_or, none_if}

-- of the values 0 to d, the senders that first-echoed one with digit b at place i
abbrev pub values_with : List ℕ → ℕ → ℕ → ℕ → ℕ
values_with sets d i b = union_over (λ v. eqb ((v / 2 ^ i) % 2) b) (λ v. get_or sets v 0) (d + 1)

-- and those that first-echoed none
abbrev pub with_digit : List ℕ → ℕ → ℕ → ℕ → ℕ
with_digit sets d i b = union (values_with sets d i b) (get_or sets none_value 0)

-- at place i both digits have t+1 senders
abbrev pub split_at_place : List ℕ → ℕ → ℕ → ℕ → Bool
split_at_place sets d t i = at_least (t + 1) (with_digit sets d i 0) && at_least (t + 1) (with_digit sets d i 1)

-- at some place
unfoldable pub splits : List ℕ → ℕ → ℕ → Bool
splits sets d t = ltb (smallest bit_places (split_at_place sets d t)) bit_places

-- n-t first proposals of a value, else none where the echoes split
abbrev pub result_of : List ℕ → ℕ → ℕ → ℕ → Option ℕ
result_of sets d n t = first_value_or d (reached sets first_proposals (n - t)) (none_if (splits sets d t))
