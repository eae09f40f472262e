-- Document 01, "Questions at the door": "The answer is the number and a place". A call's verdict as the definitions have it, by numbers, and how the code's stands for it.
use Rattle.std.specs.Prelude.{ℕ, Result, Ok, Err}
use Rattle.base.specs.declared.Question.{Question}
use Rattle.base.specs.declared.Refusal.{Refusal}
use Rattle.base.specs.Question.{number_of}

pub data Verdict : Type 0 where
  Accepted : Verdict
  Refused : ℕ → ℕ → Verdict

-- of a refusal
abbrev pub refused_by : Refusal → Verdict
refused_by r = Refused (number_of r.question) r.place

abbrev pub as_verdict : Result (Unit {0}) Refusal → Verdict
as_verdict (Ok u) = Accepted
as_verdict (Err r) = refused_by r

-- "the first no gives its number": of questions asked in turn, or 0 where none is answered by no
abbrev pub fault_number : Result (Unit {0}) Question → ℕ
fault_number (Ok u) = 0
fault_number (Err q) = number_of q
