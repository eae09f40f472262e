-- What reading by a format finds, as the code's results have it. `Statement` says when it is found.
use Rattle.std.specs.Prelude.{ℕ, Result, Ok, Err}
use Rattle.varint.specs.declared.Parsed.{Parsed}
use Rattle.format.specs.declared.Fault.{Fault}
use Rattle.format.specs.declared.Failure.{Failure}

-- what is read: what the fields say and the place past them, or the fault and its place
abbrev pub Read : Type 0 → Type 0
Read A = Result (Parsed A) Failure

abbrev pub whole : {A : Type 0} → A → ℕ → Read A
whole a next = Ok (record { value = a; next = next })

abbrev pub failed : {A : Type 0} → Fault → ℕ → Read A
failed fault at = Err (record { fault = fault; at = at })
