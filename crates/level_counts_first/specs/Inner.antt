-- What rules 2 and 3 count and choose, of the sets of senders of a level in the order of their places.
use Rattle.std.specs.Prelude.{Bool, not, ◌&&◌, List, ℕ, ◌+◌, ◌*◌, eqb, get_or, Option}
use Rattle.message.specs.Message.{none_value}
use Rattle.senders.specs.Senders.{union, union_over, at_least}
use Rattle.level_counts.specs.Choice.{first_value}

-- rule 2
abbrev pub none_due : List ℕ → ℕ → ℕ → ℕ → Bool
none_due sets d port t = at_least (t + 1) (union_over (λ v. not (eqb v port)) (λ v. get_or sets v 0) (d + 1))

-- rule 3: t+1 senders first-echoed v and 2t+1 first-echoed v or none
abbrev pub proposable : List ℕ → ℕ → ℕ → Bool
proposable sets t v = at_least (t + 1) (get_or sets v 0) && at_least (2 * t + 1) (union (get_or sets v 0) (get_or sets none_value 0))

abbrev pub proposal_of : List ℕ → ℕ → ℕ → Option ℕ
proposal_of sets d t = first_value d (proposable sets t)
