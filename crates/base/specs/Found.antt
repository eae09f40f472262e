-- Document 01, "Questions at the door": "the first no gives its number. The answer is the number and a place".
use Rattle.std.specs.Prelude.{Bool, ℕ}
use Rattle.base.specs.Pick.{pick}

-- what is found: a value, or a refusal's number and place
pub data Found (A : Type 0) : Type 0 where
  found : A → Found A
  refused : ℕ → ℕ → Found A

-- where the test holds go on, else refuse
abbrev pub ask : {A : Type 0} → Bool → ℕ → ℕ → Found A → Found A
ask test number place go = pick test go (refused number place)
