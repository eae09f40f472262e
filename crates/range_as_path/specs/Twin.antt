-- Demand 2: "A range of at most 255 readings behaves, position for position, as the same path given as a tree numbered along it."
-- Which plans, parties and results of calls are twins: the same but for the way in which the path was given.
use Rattle.std.specs.Prelude.{◌≡◌, ◌⊎◌, ◌↔◌, List, ℕ, suc, ◌+◌, ◌-◌, ◌<◌, T, ℤ, pos, length, Some, None}
use Rattle.base.specs.Verdict.{Verdict}
use Rattle.signed.specs.Signed.{from_offset}
use Rattle.tree.specs.Edges.{Edges, Adjacent}
use Rattle.base.specs.Found.{Found, found, refused}
use Rattle.plan.specs.Plan.{Plan}
use Rattle.plan.specs.Positions.{edges_of, reading_of}
use Rattle.plan.specs.Reading.{plan_of}
use Rattle.plan.specs.Valid.{plan_valid}
use Rattle.journal.specs.declared.Record.{Record}
use Rattle.party.specs.Party.{Party}
use Rattle.party.specs.Run.{Ran}
use Rattle.board_calls.specs.Answers.{position_of, Answer}
use Rattle.board_calls.specs.Calls.{Called, SetUp, Entry, again, fresh, no_party, set_up_of, start_questions, take_questions, called_of, journal_after, outgoing_after, answered_of, Answered}
use Rattle.board_calls.specs.Restore.{Replay, restore_questions, restored_of, restore_outgoing}

-- ---- plans

-- x and y are neighbouring numbers below n
abbrev pub NextBelow : ℕ → ℕ → ℕ → Type 0
NextBelow n x y = ((y ≡ suc x) ⊎ (x ≡ suc y)) × (x < n) × (y < n)

-- the path of n positions, numbered along itself: the edges join neighbouring numbers, and no others
abbrev pub Numbered : ℕ → Edges → Type 0
Numbered n E = (x y : ℕ) → Adjacent E x y ↔ NextBelow n x y

-- E are the edges of the path of n positions, each once, in any order and direction
pub record PathListed (n : ℕ) (E : Edges) : Type 0 where
  pub numbered : Numbered n E
  pub many : length E ≡ n - 1

-- the range r, and the tree q that is the same path numbered along it
pub record TwinPlans (r q : Plan) : Type 0 where
  pub range : r.kind ≡ 2
  pub tree : q.kind ≡ 1
  pub valid : T (plan_valid r)
  pub valid' : T (plan_valid q)
  pub count : r.count ≡ q.count
  pub path : Numbered q.count (edges_of q)

-- ---- parties

-- the same settings and levels, on twin plans
pub record TwinParties (p p' : Party) : Type 0 where
  pub n : p.n ≡ p'.n
  pub t : p.t ≡ p'.t
  pub own : p.own ≡ p'.own
  pub agreement : p.agreement ≡ p'.agreement
  pub levels : p.levels ≡ p'.levels
  pub plans : TwinPlans p.plan p'.plan

-- as many rules, the same messages in the same order, twin parties
pub record TwinRan (a b : Ran) : Type 0 where
  pub party : TwinParties a.party b.party
  pub rules : a.rules ≡ b.rules
  pub made : a.made ≡ b.made

-- ---- what the questions at the door find

-- both a value, and these are related; or both refused, with the same number and place
pub data TwinFound {A : Type 0} (R : A → A → Type 0) : Found A → Found A → Type 0 where
  both : {a b : A} → R a b → TwinFound R (found a) (found b)
  neither : {number place : ℕ} → TwinFound R (refused number place) (refused number place)

-- a message held already, or the same record and twin runs
pub data TwinEntry : Entry → Entry → Type 0 where
  held : TwinEntry again again
  recorded : {r : Record} {a b : Ran} → TwinRan a b → TwinEntry (fresh r a) (fresh r b)

-- the same used length, and twin runs
pub record TwinReplay (a b : Replay) : Type 0 where
  pub ran : TwinRan a.ran b.ran
  pub used : a.used ≡ b.used

-- ---- what the calls give

-- the same verdict, used length, outgoing bytes and rules, and twin parties
pub record TwinCalled (a b : Called) : Type 0 where
  pub verdict : a.verdict ≡ b.verdict
  pub party : TwinParties a.party b.party
  pub used : a.used ≡ b.used
  pub sent : a.sent ≡ b.sent
  pub rules : a.rules ≡ b.rules

-- a start or take of p and of p' that found a and b at the door: what it gives, and both buffers after it
pub record TwinCall (p p' : Party) (j : List ℕ) (used : ℕ) (out : List ℕ) (a b : Found Entry) : Type 0 where
  pub called : TwinCalled (called_of p used a) (called_of p' used b)
  pub journal : journal_after j used a ≡ journal_after j used b
  pub outgoing : outgoing_after out a ≡ outgoing_after out b

-- a set-up and a restore: twin parties, or the same refusal, which gives no party
pub data TwinSetUp : SetUp → SetUp → Type 0 where
  set_up : {p p' : Party} → TwinParties p p' → TwinSetUp (record { verdict = Verdict.Accepted; party = p }) (record { verdict = Verdict.Accepted; party = p' })
  not_set_up : {number place : ℕ}
      → TwinSetUp (record { verdict = Verdict.Refused number place; party = no_party }) (record { verdict = Verdict.Refused number place; party = no_party })

pub data TwinRestored : Called → Called → Type 0 where
  restored : {a b : Called} → a.verdict ≡ Verdict.Accepted → TwinCalled a b → TwinRestored a b
  not_restored : {a : Called} {number place : ℕ} → a.verdict ≡ Verdict.Refused number place → TwinRestored a a

pub record TwinRestore (out : List ℕ) (a b : Found Replay) : Type 0 where
  pub called : TwinRestored (restored_of a) (restored_of b)
  pub outgoing : restore_outgoing out a ≡ restore_outgoing out b

-- ---- answers

-- none yet, or the same position x: reading low + x of the range, vertex x of the tree
pub data TwinAnswer (r : Plan) : Answer → Answer → Type 0 where
  nothing : TwinAnswer r None None
  position : {x : ℕ} → x < r.count → TwinAnswer r (Some (from_offset (r.low + x))) (Some (pos x))

pub record TwinAnswered (r : Plan) (a b : Answered) : Type 0 where
  pub verdict : a.verdict ≡ b.verdict
  pub answer : TwinAnswer r a.answer b.answer

-- ---- the demand's sentence, call by call

-- bytes that give twin plans
pub record TwinBytes (s s' : List ℕ) : Type 0 where
  pub range : Plan
  pub tree : Plan
  pub read : plan_of s ≡ found range
  pub read' : plan_of s' ≡ found tree
  pub twins : TwinPlans range tree

-- "behaves, position for position, as": set-up and restore on such bytes, and every call on twin parties with inputs of the same position, give twins
pub record SameBehaviour : Type 0 where
  pub set_up : (s s' : List ℕ) → TwinBytes s s' → (n t own agreement : ℕ) → TwinSetUp (set_up_of n t own agreement s) (set_up_of n t own agreement s')
  -- the inputs of position x are of the same position on both plans: reading low + x, and vertex x
  pub inputs : (r q : Plan) → TwinPlans r q → (x : ℕ) → position_of r (reading_of r x) ≡ position_of q (reading_of q x)
  pub start : (p p' : Party) → TwinParties p p' → (z z' : ℤ) → position_of p.plan z ≡ position_of p'.plan z' → (j : List ℕ) (used : ℕ) (out : List ℕ)
      → TwinCall p p' j used out (start_questions p z (length j) used (length out)) (start_questions p' z' (length j) used (length out))
  pub take : (p p' : Party) → TwinParties p p' → (sender : ℕ) (bytes : List ℕ) (j : List ℕ) (used : ℕ) (out : List ℕ)
      → TwinCall p p' j used out (take_questions p sender bytes (length j) used (length out)) (take_questions p' sender bytes (length j) used (length out))
  pub answer : (p p' : Party) → TwinParties p p' → TwinAnswered p.plan (answered_of p) (answered_of p')
  pub restore : (s s' : List ℕ) → TwinBytes s s' → (n t own agreement : ℕ) (j out : List ℕ)
      → TwinRestore out (restore_questions n t own agreement s j (length out)) (restore_questions n t own agreement s' j (length out))
