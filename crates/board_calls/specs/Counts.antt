-- Document 02, Q-6: a start by a probe's count, and the answer as a count.
use Rattle.std.specs.Prelude.{not, ℕ, eqb, ℤ, Option, Some, None}
use Rattle.base.specs.Pick.{pick}
use Rattle.base.specs.Verdict.{Verdict}
use Rattle.base.specs.Found.{Found, found, refused, ask}
use Rattle.rounding.specs.Rounding.{size_passes, nearest_step, remainder, count_answer}
use Rattle.plan.specs.Plan.{Plan}
use Rattle.level.specs.Level.{no_output}
use Rattle.party.specs.Party.{Party, output_of}
use Rattle.party.specs.Valid.{party_valid}
use Rattle.board_calls.specs.Answers.{position_of, answer_of, Answer}
use Rattle.board_calls.specs.Calls.{Entry, at_door, start_at, Answered}

-- the position of the count c, in steps of g counts: that of the reading that is its nearest step.
-- "A rounded step off the range, or a plan that is no range, is refused by 12": no_output there
abbrev pub count_position : Plan → ℕ → ℤ → ℕ
count_position p g c = pick (eqb p.kind 2) (position_of p (nearest_step g c)) no_output

-- "25 when g is odd or out of its limits, asked before 13"; the other questions are a start's
unfoldable pub start_count_questions : Party → ℕ → ℤ → ℕ → ℕ → ℕ → Found Entry
start_count_questions p g c room used out =
    at_door p room used out
    (ask (size_passes g) 25 0
    (start_at p (count_position p.plan g c) room used))

-- "with the remainder reported"; a refused start reports none
abbrev pub remainder_in : ℕ → ℤ → Found Entry → Option ℤ
remainder_in g c (found e) = Some (remainder g c)
remainder_in g c (refused number place) = None

-- the answer as a count; "none before an answer"
abbrev pub count_of : ℕ → ℤ → Answer → Answer
count_of g c None = None
count_of g c (Some y) = Some (count_answer g c y)

-- "The count answer's call, on a party, asks 19, 25, 12 as a start does"
unfoldable pub count_questions : Party → ℕ → ℤ → Found Answer
count_questions p g c =
    ask (party_valid p) 19 0
    (ask (size_passes g) 25 0
    (ask (not (eqb (count_position p.plan g c) no_output)) 12 0
    (found (count_of g c (answer_of p.plan (output_of p))))))

-- what that call gives
abbrev pub count_gives : Found Answer → Answered
count_gives (found a) = record { verdict = Verdict.Accepted; answer = a }
count_gives (refused number place) = record { verdict = Verdict.Refused number place; answer = None }
