-- For each edit of what 01 allows a history with one step that the edit lets in.
use Rattle.std.specs.Prelude.{false, List, [], ◌∷◌, ℕ, ◌≤◌, eqb, pos, length}
use Rattle.base.specs.Limits.{offset_zero}
use Rattle.base.specs.Sets.{Set, count}
use Rattle.plan.specs.Plan.{Plan}
use Rattle.plan.specs.Positions.{range_plan}
use Rattle.message.specs.declared.Body.TheVariants.{FirstEcho, FirstProposal, SecondEcho, SecondProposal, Centre}
use Rattle.message.specs.Message.{message_bytes}
use Rattle.party.specs.Party.{new_party}
use Rattle.party.specs.Run.{starting}
use Rattle.agreement.specs.History.{Instance, plain, Call, set_up, start, take_message_lem, read_answer, read_count, restore, History, Board}
use Rattle.agreement.specs.Demand.{Holds, Shared}
use Rattle.agreement_histories.specs.Scripts.{Action, sets_up, starts, takes, reads, reads_count, sends, cuts, restores, tries, lent, lent_back, says, followed}
use Rattle.agreement_premises.specs.Edits.{Edit, AllowedWith, taken_unsent, handed_unmade, hands_guard_nothing, answer_guards_nothing, count_guards_nothing, journal_overwritten, record_altered, other_record_read, other_record_counted, other_journal_restored, second_set_up, other_boards, other_faults, other_number, other_plan}

-- ---- the votes

-- the readings 0 and 1, on which a board answers what it starts with and nothing is sent; the readings 0 to 2, centre 1
abbrev pub two : List ℕ
two = 2 ∷ 0 ∷ 1 ∷ []

abbrev pub three : List ℕ
three = 2 ∷ 0 ∷ 2 ∷ []

-- the readings 5 and 6
abbrev pub elsewhere : List ℕ
elsewhere = 2 ∷ 10 ∷ 1 ∷ []

abbrev pub two_plan : Plan
two_plan = range_plan offset_zero 1

abbrev pub three_plan : Plan
three_plan = range_plan offset_zero 2

abbrev pub elsewhere_plan : Plan
elsewhere_plan = range_plan 2147483653 1

-- one board alone; four boards, of which one may be faulty
abbrev pub alone : List ℕ → Instance
alone plan = record { n = 1; t = 0; agreement = 1; plan = plan }

abbrev pub four : List ℕ → Instance
four plan = record { n = 4; t = 1; agreement = 1; plan = plan }

abbrev pub nobody : Set
nobody = λ _. false

abbrev pub last : Set
last = λ i. eqb i 3

-- ---- the histories

-- a script of the vote, and one action in it that 01 does not allow
pub record Example : Type 0 where
  pub vote : Instance
  pub plan : Plan
  pub bad : Set
  pub before : List Action
  pub stray : Action
  pub after : List Action

abbrev pub history_with : Example → History
history_with x = followed x.vote (followed x.vote [] x.before) (x.stray ∷ x.after)

-- Demand 3 with the edit is false: its premises hold of the example, and what it says does not.
pub record Fails (e : Edit) (x : Example) : Type 0 where
  pub shared : Shared x.vote x.plan
  pub few : count x.vote.n x.bad ≤ x.vote.t
  pub steps : AllowedWith e x.vote x.bad (history_with x)
  pub fails : Holds x.vote x.plan x.bad (history_with x) → ⊥

-- a call with other arguments than those that scripts give; no question has the number 0
abbrev pub calls_with : ℕ → (Board → Call) → Action
calls_with i c = tries i 0 c

-- a board alone is set up, starts at 0 of two readings, and its answer is read
abbrev pub answered : List Action
answered = sets_up 0 ∷ starts 0 (pos 0) ∷ reads 0 ∷ []

abbrev pub example_of : Edit → Example
-- The board starts at 0, and takes a message of itself that says centre: it answers 1, where nobody started.
example_of taken_unsent =
    record { vote = alone three; plan = three_plan; bad = nobody; before = sets_up 0 ∷ starts 0 (pos 0) ∷ []; stray = takes 0 0 (says Centre); after = [] }
-- The same, and it has handed the message over.
example_of handed_unmade = record {
  vote = alone three;
  plan = three_plan;
  bad = nobody;
  before = sets_up 0 ∷ starts 0 (pos 0) ∷ [];
  stray = sends 0 (says Centre);
  after = takes 0 0 (says Centre) ∷ [];
}
-- The board starts at 2, hands its echo over, and loses the start. It starts again at 0, takes the echo, and follows it to the answer 2.
example_of hands_guard_nothing = record {
  vote = alone three;
  plan = three_plan;
  bad = nobody;
  before = sets_up 0 ∷ starts 0 (pos 2) ∷ sends 0 (says (FirstEcho 2)) ∷ [];
  stray = cuts 0 0;
  after =
      restores 0
      ∷ starts 0 (pos 0)
      ∷ takes 0 0 (says (FirstEcho 2))
      ∷ sends 0 (says (FirstProposal 2))
      ∷ takes 0 0 (says (FirstProposal 2))
      ∷ sends 0 (says (SecondEcho 2))
      ∷ takes 0 0 (says (SecondEcho 2))
      ∷ sends 0 (says (SecondProposal 2))
      ∷ takes 0 0 (says (SecondProposal 2))
      ∷ [];
}
-- The answer 0 is read, and the start is lost.
example_of answer_guards_nothing = record { vote = alone two; plan = two_plan; bad = nobody; before = answered; stray = cuts 0 0; after = [] }
-- The same, read as the count 0 in steps of 2.
example_of count_guards_nothing = record {
  vote = alone two;
  plan = two_plan;
  bad = nobody;
  before = sets_up 0 ∷ starts 0 (pos 0) ∷ reads_count 0 2 (pos 0) ∷ [];
  stray = cuts 0 0;
  after = [];
}
-- The board starts at 0. The next call is lent a journal whose record says 1; power is cut, and once restored the board would answer 1.
example_of journal_overwritten = record {
  vote = four two;
  plan = two_plan;
  bad = last;
  before = sets_up 0 ∷ starts 0 (pos 0) ∷ [];
  stray = calls_with 0 (λ b. take_message_lem b.party 3 (message_bytes (says (FirstEcho 0))) (lent (1 ∷ 1 ∷ 1 ∷ [])) (length b.journal));
  after = cuts 0 9 ∷ [];
}
-- The board is set up for the readings 0 and 1, and starts with a record of the readings 5 and 6: it answers 5.
example_of record_altered = record {
  vote = alone two;
  plan = two_plan;
  bad = nobody;
  before = sets_up 0 ∷ [];
  stray = calls_with 0 (λ b. start (new_party 1 0 0 1 elsewhere_plan) (plain (pos 5)) (lent b.journal) (length b.journal));
  after = [];
}
-- The board has not started, and the answer is read from a record that has.
example_of other_record_read = record {
  vote = alone two;
  plan = two_plan;
  bad = nobody;
  before = sets_up 0 ∷ [];
  stray = calls_with 0 (λ b. read_answer (starting b.party 0).party);
  after = [];
}
-- The same, read as the count 0 in steps of 2.
example_of other_record_counted = record {
  vote = alone two;
  plan = two_plan;
  bad = nobody;
  before = sets_up 0 ∷ [];
  stray = calls_with 0 (λ b. read_count (starting b.party 0).party 2 (pos 0));
  after = [];
}
-- The board starts at 0, and is restored from a journal whose record says 1: it answers 1.
example_of other_journal_restored = record {
  vote = alone two;
  plan = two_plan;
  bad = nobody;
  before = sets_up 0 ∷ starts 0 (pos 0) ∷ [];
  stray = calls_with 0 (λ b. restore 1 0 0 1 two (lent_back (1 ∷ 1 ∷ 1 ∷ [])));
  after = [];
}
-- The answer 0 is read, and the board set up again.
example_of second_set_up = record { vote = alone two; plan = two_plan; bad = nobody; before = answered; stray = sets_up 0; after = [] }
-- The board is set up for a vote of two boards, and all is delivered: it waits for the other one, and has no answer.
example_of other_boards = record {
  vote = alone three;
  plan = three_plan;
  bad = nobody;
  before = [];
  stray = calls_with 0 (λ b. set_up 2 0 0 1 three);
  after =
      starts 0 (pos 0)
      ∷ sends 0 (says (FirstEcho 1))
      ∷ takes 0 0 (says (FirstEcho 1))
      ∷ sends 0 (says (FirstProposal 1))
      ∷ takes 0 0 (says (FirstProposal 1))
      ∷ [];
}
-- The board is set up for no faults, starts at 0, and one message, of the faulty board, makes it answer 1.
example_of other_faults = record {
  vote = four three;
  plan = three_plan;
  bad = last;
  before = [];
  stray = calls_with 0 (λ b. set_up 4 0 0 1 three);
  after = starts 0 (pos 0) ∷ takes 0 3 (says Centre) ∷ [];
}
-- The board is set up for vote 2 and starts. Power is cut, and no record is lost: as a board of vote 1 it is not restored, and has no answer.
example_of other_number = record {
  vote = alone two;
  plan = two_plan;
  bad = nobody;
  before = [];
  stray = calls_with 0 (λ b. set_up 1 0 0 2 two);
  after = starts 0 (pos 0) ∷ cuts 0 3 ∷ [];
}
-- The board is set up for the readings 5 and 6 where the vote is on 0 and 1: it answers 5.
example_of other_plan = record {
  vote = alone two;
  plan = two_plan;
  bad = nobody;
  before = [];
  stray = calls_with 0 (λ b. set_up 1 0 0 1 elsewhere);
  after = starts 0 (pos 5) ∷ [];
}
