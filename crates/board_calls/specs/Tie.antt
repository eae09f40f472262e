-- How the code's results stand for the definitions'.
use Rattle.std.specs.Prelude.{ℕ, Option, Some, None, Result, Ok, Err}
use Rattle.base.specs.declared.Refusal.{Refusal}
use Rattle.base.specs.Verdict.{Verdict, refused_by, as_verdict}
use Rattle.level.specs.Level.{no_output}
use Rattle.party.specs.declared.Party as CodeParty
use Rattle.party.specs.Tie.{as_party}
use Rattle.board_calls.specs.Answers.{Answer}
use Rattle.board_calls.specs.Calls.{SetUp, Called, Answered, no_party}
use Rattle.board_calls.specs.declared.Called as CodeCalled
use Rattle.board_calls.specs.declared.Restored as CodeRestored

-- a position, if the input is on the plan
abbrev pub as_position : Option ℕ → ℕ
as_position (Some x) = x
as_position None = no_output

-- "a refused set-up or restore gives no party"
abbrev pub as_set_up : Result CodeParty.Party Refusal → SetUp
as_set_up (Ok p) = record { verdict = Verdict.Accepted; party = as_party p }
as_set_up (Err r) = record { verdict = refused_by r; party = no_party }

abbrev pub as_called : CodeCalled.Called → Called
as_called r = record { verdict = as_verdict r.verdict; party = as_party r.party; used = r.used; sent = r.sent; rules = r.rules }

abbrev pub as_restored : Result CodeRestored.Restored Refusal → Called
as_restored (Ok r) = record { verdict = Verdict.Accepted; party = as_party r.party; used = r.used; sent = r.sent; rules = r.rules }
as_restored (Err r) = record { verdict = refused_by r; party = no_party; used = 0; sent = 0; rules = 0 }

abbrev pub as_answered : Result Answer Refusal → Answered
as_answered (Ok a) = record { verdict = Verdict.Accepted; answer = a }
as_answered (Err r) = record { verdict = refused_by r; answer = None }
