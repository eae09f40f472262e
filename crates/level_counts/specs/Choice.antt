-- What several rules count and choose, of the sets of senders of a level.
use Rattle.std.specs.Prelude.{Bool, List, ℕ, ◌+◌, leb, ltb, get_or, Option, Some, None}
use Rattle.base.specs.Pick.{pick, smallest}
use Rattle.message.specs.Message.{none_value}
use Rattle.senders.specs.Senders.{at_least}

-- k senders of w, its set being w places after `from`
abbrev pub reached : List ℕ → ℕ → ℕ → ℕ → Bool
reached sets from k w = at_least k (get_or sets (from + w) 0)

-- the smallest of the values 0 to d that passes, if one does; else `other`
abbrev pub first_value_or : ℕ → (ℕ → Bool) → Option ℕ → Option ℕ
first_value_or d p other = pick (leb (smallest (d + 1) p) d) (Some (smallest (d + 1) p)) other

abbrev pub first_value : ℕ → (ℕ → Bool) → Option ℕ
first_value d p = first_value_or d p None

-- none, if the test holds
abbrev pub none_if : Bool → Option ℕ
none_if b = pick b (Some none_value) None

-- candidates by their place in the order "smallest, none last": the values 0 to d, then none
abbrev pub candidate : ℕ → ℕ → ℕ
candidate d i = pick (leb i d) i none_value

-- the first candidate that passes, if one does
abbrev pub first_candidate : ℕ → (ℕ → Bool) → Option ℕ
first_candidate d p =
    pick (ltb (smallest (d + 2) (λ i. p (candidate d i))) (d + 2)) (Some (candidate d (smallest (d + 2) (λ i. p (candidate d i))))) None
