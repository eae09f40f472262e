-- Scripts: histories told action by action, the oldest first. Each call but those refused gets the record, the journal and its used length as the call before
-- left them; one kind of restore is lent a torn record behind them.
use Rattle.std.specs.Prelude.{◌≡◌, List, [], ◌∷◌, ◌++◌, ℕ, ◌<◌, ℤ, length, get_or, replicate, None}
use Rattle.base.specs.Sets.{Set}
use Rattle.base.specs.Limits.{outgoing_size}
use Rattle.plan.specs.Plan.{Plan}
use Rattle.message.specs.declared.Body.{Body}
use Rattle.message.specs.declared.Message.{Message}
use Rattle.message.specs.Message.{message_bytes}
use Rattle.agreement.specs.History.{Instance, Lent, plain, by_count, Call, set_up, start, take_message_lem, read_answer, read_count, restore, Step, calls, hands, cut, History, Board, board_after}
use Rattle.agreement.specs.Allowed.{RefusedBy}
use Rattle.agreement.specs.Demand.{answer_now, Complete, Premises}
use Rattle.board_calls.specs.Answers.{Answer}

-- a message of the vote with this number at this level, and one of vote 1 at level 0
abbrev pub saying : ℕ → ℕ → Body → Message
saying a l b = record { number = a; level = l; body = b }

abbrev pub says : Body → Message
says b = saying 1 0 b

-- what a sound board does, its number first
pub data Action : Type 0 where
  sets_up : ℕ → Action
  -- at a vertex or a reading
  starts : ℕ → ℤ → Action
  -- by a count, in steps of so many counts
  starts_count : ℕ → ℕ → ℤ → Action
  -- from a board, a message
  takes : ℕ → ℕ → Message → Action
  reads : ℕ → Action
  -- as a count, by the size of a step and the start's count
  reads_count : ℕ → ℕ → ℤ → Action
  -- to all boards
  sends : ℕ → Message → Action
  -- a cut leaves so many bytes of the journal
  cuts : ℕ → ℕ → Action
  restores : ℕ → Action
  -- lent these bytes behind the used ones: a torn record
  restores_torn : ℕ → List ℕ → Action
  -- a call that the question with this number refuses, given anything; what the board has may be used for it
  tries : ℕ → ℕ → (Board → Call) → Action

abbrev pub actor : Action → ℕ
actor (sets_up i) = i
actor (starts i z) = i
actor (starts_count i g c) = i
actor (takes i s m) = i
actor (reads i) = i
actor (reads_count i g c) = i
actor (sends i m) = i
actor (cuts i k) = i
actor (restores i) = i
actor (restores_torn i tail) = i
actor (tries i k c) = i

-- lent to a start or take: a journal with the used bytes and room for one more record, and an outgoing buffer
abbrev pub lent : List ℕ → Lent
lent used = record { journal = used ++ replicate 32 0; out = outgoing_size }

-- lent to a restore: a journal with these bytes, and an outgoing buffer
abbrev pub lent_back : List ℕ → Lent
lent_back bytes = record { journal = bytes; out = outgoing_size }

-- the step of a board that is b before it
abbrev pub step_of : Instance → Board → Action → Step
step_of v b (sets_up i) = calls i (set_up v.n v.t i v.agreement v.plan)
step_of v b (starts i z) = calls i (start b.party (plain z) (lent b.journal) (length b.journal))
step_of v b (starts_count i g c) = calls i (start b.party (by_count g c) (lent b.journal) (length b.journal))
step_of v b (takes i s m) = calls i (take_message_lem b.party s (message_bytes m) (lent b.journal) (length b.journal))
step_of v b (reads i) = calls i (read_answer b.party)
step_of v b (reads_count i g c) = calls i (read_count b.party g c)
step_of v b (sends i m) = hands i (message_bytes m)
step_of v b (cuts i k) = cut i k
step_of v b (restores i) = calls i (restore v.n v.t i v.agreement v.plan (lent_back b.journal))
step_of v b (restores_torn i tail) = calls i (restore v.n v.t i v.agreement v.plan (lent_back (b.journal ++ tail)))
step_of v b (tries i k c) = calls i (c b)

-- the history h and then the actions
unfoldable pub followed : Instance → History → List Action → History
followed v h [] = h
followed v h (a ∷ rest) = followed v (step_of v (board_after h (actor a)) a ∷ h) rest

-- where an action of a board that is b before it is a call to be refused, it is
abbrev pub RefusedIn : Board → Action → Type 0
RefusedIn b (sets_up i) = Unit {0}
RefusedIn b (starts i z) = Unit {0}
RefusedIn b (starts_count i g c) = Unit {0}
RefusedIn b (takes i s m) = Unit {0}
RefusedIn b (reads i) = Unit {0}
RefusedIn b (reads_count i g c) = Unit {0}
RefusedIn b (sends i m) = Unit {0}
RefusedIn b (cuts i k) = Unit {0}
RefusedIn b (restores i) = Unit {0}
RefusedIn b (restores_torn i tail) = Unit {0}
RefusedIn b (tries i k c) = RefusedBy k (c b)

-- every call of the actions after h that is to be refused is refused by its question
unfoldable pub Refusing : Instance → History → List Action → Type 0
Refusing v h [] = Unit {0}
Refusing v h (a ∷ rest) = RefusedIn (board_after h (actor a)) a × Refusing v (step_of v (board_after h (actor a)) a ∷ h) rest

-- "from boards not yet set up"
abbrev pub history_of : Instance → List Action → History
history_of v script = followed v [] script

-- the premises hold, all is delivered, and the boards 0, 1, .. have these answers
pub record Concludes (v : Instance) (plan : Plan) (bad : Set) (h : History) (answers : List Answer) : Type 0 where
  pub premises : Premises v plan bad h
  pub complete : Complete v bad h
  pub answer : (i : ℕ) → i < length answers → answer_now v h i ≡ get_or answers i None
