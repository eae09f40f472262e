-- Document 02, Q-13: "A pair vote is two range votes under two agreement numbers, each started and restored by itself, and answers exactly when both have."
use Rattle.std.specs.Prelude.{not, eqb, ℤ, Option, Some, None}
use Rattle.base.specs.Verdict.{Verdict}
use Rattle.base.specs.Found.{Found, found, refused, ask}
use Rattle.party.specs.Party.{Party}
use Rattle.board_calls.specs.Answers.{Answer}
use Rattle.board_calls.specs.Calls.{answered_of}

-- the readings of the first and of the second vote, if both have an answer
abbrev pub PairAnswer : Type 0
PairAnswer = Option (ℤ × ℤ)

-- what the reading gives
pub record PairAnswered : Type 0 where
  pub verdict : Verdict
  pub answer : PairAnswer

-- "answers exactly when both have"
abbrev pub pair_of : Answer → Answer → PairAnswer
pair_of None b = None
pair_of (Some y) None = None
pair_of (Some y) (Some z) = Some (y, z)

-- a party's own reading asks its questions: where it refuses, so does the pair's, with its number and place
abbrev pub asking : {A : Type 0} → Verdict → Found A → Found A
asking Verdict.Accepted go = go
asking (Verdict.Refused number place) go = refused number place

-- "Its reading asks the first party's questions, the second's, then 27 for equal numbers and 12 for a plan that is no range."
unfoldable pub pair_questions : Party → Party → Found PairAnswer
pair_questions p q =
    asking (answered_of p).verdict
    (asking (answered_of q).verdict
    (ask (not (eqb p.agreement q.agreement)) 27 0
    (ask (eqb p.plan.kind 2) 12 0
    (ask (eqb q.plan.kind 2) 12 0
    (found (pair_of (answered_of p).answer (answered_of q).answer))))))

-- what the call gives
abbrev pub pair_gives : Found PairAnswer → PairAnswered
pair_gives (found a) = record { verdict = Verdict.Accepted; answer = a }
pair_gives (refused number place) = record { verdict = Verdict.Refused number place; answer = None }
