-- What reading bytes as exactly one message finds, as the code's results have it. `Statement` says when it is found.
use Rattle.std.specs.Prelude.{ℕ, Result, Err}
use Rattle.format.specs.declared.Fault.{Fault}
use Rattle.format.specs.declared.Failure.{Failure}
use Rattle.message.specs.declared.Message.{Message}

-- bytes as exactly one message, or what is wrong with them, and where
abbrev pub Exactly : Type 0
Exactly = Result Message Failure

abbrev pub broken : Fault → ℕ → Exactly
broken fault at = Err (record { fault = fault; at = at })
