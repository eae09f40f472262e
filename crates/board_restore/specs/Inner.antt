-- What the functions inside this crate ask and give.
use Rattle.std.specs.Prelude.{◌≡◌, Bool, List, [], ℕ, ◌≤◌, length, Result, Ok, Err}
use Rattle.base.specs.Limits.{max_rows, outgoing_size}
use Rattle.base.specs.Verdict.{Verdict}
use Rattle.base.specs.Found.{Found, found, refused}
use Rattle.base.specs.Question.{number_of}
use Rattle.base.specs.declared.Question.{Question}
use Rattle.base.specs.declared.Refusal.{Refusal}
use Rattle.plan.specs.Plan.{Plan}
use Rattle.plan.specs.Tie.{as_plan}
use Rattle.plan.specs.declared.Plan as CodePlan
use Rattle.journal.specs.declared.Record.{Record}
use Rattle.party.specs.declared.Vote.{Vote}
use Rattle.party.specs.Party.{Party, new_party}
use Rattle.party.specs.Run.{Ran, resting}
use Rattle.party.specs.Tie.{party_in, as_party}
use Rattle.party_life.specs.Life.{fault_of}
use Rattle.board_calls.specs.Calls.{Called}
use Rattle.board_calls.specs.Restore.{Replay, replay_from, restore_questions}
use Rattle.board_calls.specs.declared.Restored as CodeRestored
use Rattle.board_laws.specs.Inner.{New, Many}

-- what the questions of a record ask of its party: the vote, and how many positions the plan has
abbrev pub board_of : Vote → ℕ → Party
board_of v count = party_in v (record { kind = 0; count = count; low = 0; parent = []; child = [] }) [] []

pub record OfVote (v : Vote) (count : ℕ) (p : Party) : Type 0 where
  pub n : p.n ≡ v.n
  pub agreement : p.agreement ≡ v.agreement
  pub positions : p.plan.count ≡ count

-- the questions of a record: all pass, or the first that fails
abbrev pub Checks : Party → Bool → Record → Result (Unit {0}) Question → Type 0
Checks p begun x (Ok u) = 0 ≡ fault_of p begun x
Checks p begun x (Err q) = (number_of q ≡ fault_of p begun x) × (number_of q ≡ 0 → ⊥)

-- j's whole records end at `end` and make q of p
pub record Ends (p : Party) (j : List ℕ) (end : ℕ) (q : Ran) : Type 0 where
  pub records : Many j 0 (resting p) end q
  pub replay : replay_from (length j) j 0 (resting p) ≡ found (record { ran = q; used = end })

-- what the questions of the records give: where they end, or a refusal
abbrev pub Scanned : Party → List ℕ → Result ℕ Refusal → Type 0
Scanned p j (Ok end) = (q : Ran) × Ends p j end q
Scanned p j (Err r) = replay_from (length j) j 0 (resting p) ≡ refused (number_of r.question) r.place

-- of every new party of the vote
abbrev pub ScansFor : Vote → ℕ → List ℕ → Result ℕ Refusal → Type 0
ScansFor v count j s = (p : Party) → New p → OfVote v count p → Scanned p j s

-- what replaying the records up to `end` asks
pub record Replayable (p : Party) (j : List ℕ) (end out : ℕ) : Type 0 where
  pub new : New p
  pub parents : length p.plan.parent ≡ max_rows
  pub children : length p.plan.child ≡ max_rows
  pub room : outgoing_size ≤ out
  pub ran : Ran
  pub ends : Ends p j end ran

-- what it gives, in the definitions' words
abbrev pub restored_by : CodeRestored.Restored → Called
restored_by r = record { verdict = Verdict.Accepted; party = as_party r.party; used = r.used; sent = r.sent; rules = r.rules }

-- a new party of the vote on a plan that was read
abbrev pub new_on : Vote → Plan → Party
new_on v plan = new_party v.n v.t v.own v.agreement plan

abbrev pub questions_of : Vote → List ℕ → List ℕ → ℕ → Found Replay
questions_of v bytes j out = restore_questions v.n v.t v.own v.agreement bytes j out

-- what the questions of a restore give: the records of j up to `end` replay on the plan, or a refusal
abbrev pub Answers : Vote → List ℕ → List ℕ → ℕ → Result (CodePlan.Plan × ℕ) Refusal → Type 0
Answers v bytes j out (Ok (plan, end)) =
    Replayable (new_on v (as_plan plan)) j end out × (questions_of v bytes j out ≡ replay_from (length j) j 0 (resting (new_on v (as_plan plan))))
Answers v bytes j out (Err r) = questions_of v bytes j out ≡ refused (number_of r.question) r.place
