-- What the parts of a start by count and of its reading promise each other.
use Rattle.std.specs.Prelude.{◌≡◌, ℕ, ◌^◌, ◌<◌, ℤ, Some, Result, Ok, Err}
use Rattle.std.specs.Int.Signed.{mag}
use Rattle.base.specs.Found.{refused}
use Rattle.base.specs.Question.{number_of}
use Rattle.base.specs.declared.Refusal.{Refusal}
use Rattle.party.specs.Party.{Party}
use Rattle.board_calls.specs.Answers.{Answer}
use Rattle.board_calls.specs.Calls.{Entry, at_door}

-- a start that 25 refuses past the door is refused so
abbrev pub RefusedBy : Party → ℕ → ℕ → ℕ → Result (Unit {0}) Refusal → Type 0
RefusedBy p room used out (Ok u) = ⊥
RefusedBy p room used out (Err r) = at_door {A = Entry} p room used out (refused 25 0) ≡ refused (number_of r.question) r.place

-- a reading as a plan can have it
abbrev pub Small : Answer → Type 0
Small a = (y : ℤ) → a ≡ Some y → mag y < 2 ^ 33
