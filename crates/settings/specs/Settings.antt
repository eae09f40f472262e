-- Document 01, "Questions at the door", 1 to 3: "the first no gives its number".
use Rattle.std.specs.Prelude.{Bool, ◌&&◌, ℕ, ◌*◌, leb, ltb, eqb}
use Rattle.base.specs.Pick.{pick}
use Rattle.base.specs.Limits.{max_boards}

-- the number where the test fails, else what the further questions say
abbrev pub unless : Bool → ℕ → ℕ → ℕ
unless test number further = pick test further number

-- "Is n 1 to 16? 1. Is 3t below n? 2. Is the own number below n? 3.": the number of the first no, or 0
abbrev pub settings_fault : ℕ → ℕ → ℕ → ℕ
settings_fault n t own =
    unless (leb 1 n && leb n max_boards) 1
    (unless (ltb (3 * t) n) 2
    (unless (ltb own n) 3 0))

-- "settings pass 1 to 3"
abbrev pub settings_fit : ℕ → ℕ → ℕ → Bool
settings_fit n t own = eqb (settings_fault n t own) 0
