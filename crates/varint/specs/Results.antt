-- What reading a varint finds, as the code's results have it. `Statement` says when it is found.
use Rattle.std.specs.Prelude.{ℕ, Result, Ok}
use Rattle.varint.specs.declared.Parsed.{Parsed}
use Rattle.varint.specs.declared.VarintError.{VarintError}

-- what reading a varint finds
abbrev pub VarintRead : Type 0
VarintRead = Result (Parsed ℕ) VarintError

-- read: the value, and the place past it
abbrev pub value : ℕ → ℕ → VarintRead
value v next = Ok (record { value = v; next = next })
