-- Demand 3 on logs: for boards of which only the log is known, whatever program they run, if their messages and answers are those that the rules make of the log.
-- A board's log holds its starts and the messages that it took, those of lost calls left out. What the board has made, holds and answers is what the
-- rules make of its log (`called`, a call that would be refused changes nothing). The steps, the log that they leave, and what a cut must leave of it
-- are those of execution/specs/History.
use Rattle.std.specs.Prelude.{◌≡◌, ◌⊎◌, ℕ, ◌*◌, ◌≤◌, ◌<◌, T, length}
use mathlib.Core.List.{List, [], ◌∷◌, ◌++◌, Memᴰ}
use Rattle.base.specs.Sets.{Set, Sound, count}
use Rattle.base.specs.Limits.{max_boards}
use Rattle.tree.specs.Walk.{Walk, OnPath}
use Rattle.tree.specs.Edges.{Adjacent}
use Rattle.plan.specs.Plan.{Plan}
use Rattle.plan.specs.Positions.{edges_of}
use Rattle.plan.specs.Valid.{plan_valid}
use Rattle.message.specs.declared.Message.{Message}
use Rattle.level.specs.Level.{no_output}
use Rattle.party.specs.Party.{Party, level_at, held_by, output_of}
use Rattle.execution.specs.Machine.{Event}
use Rattle.execution.specs.History.{HStep, act, hand, mark, cut, log, held, after, FairH}
use Rattle.vote_machine.specs.Machine.{called, vote_machine}

-- "Boards share n, t, agreement number and plan"
module _ (n t agreement : ℕ) (plan : Plan) where
  -- steps of the boards, the latest first: recorded calls, messages handed over, answers read or records restored, cuts
  abbrev pub Steps : Type 0
  Steps = List (HStep (vote_machine n t agreement plan))

  -- board i's log after some steps, the latest call first
  abbrev pub log_of : Steps → ℕ → List (Event Message ℕ)
  log_of h i = log (vote_machine n t agreement plan) i h

  -- the party that a log gives board i, from its set-up on
  abbrev pub party_by : ℕ → List (Event Message ℕ) → Party
  party_by i l = after (vote_machine n t agreement plan) i l

  abbrev pub party_of : Steps → ℕ → Party
  party_of h i = party_by i (log_of h i)

  -- the messages that the calls of a log made, in order
  unfoldable pub messages_by : ℕ → List (Event Message ℕ) → List Message
  messages_by i [] = []
  messages_by i (e ∷ l) = messages_by i l ++ (called (party_by i l) e).made

  -- ---- which steps are allowed

  module _ (bad : Set) where
    -- a step after the steps h
    abbrev pub May : HStep (vote_machine n t agreement plan) → Steps → Type 0
    -- "a message taken as a sound board's was handed over earlier by it"; of others anything may be taken
    May (act i e) h = FairH (vote_machine n t agreement plan) n bad e h
    -- only what calls made that are not lost is handed over: at any time, in any order, also twice or never
    May (hand i m) h = Memᴰ m (messages_by i (log_of h i))
    May (mark i) h = Unit {0}
    -- "A cut leaves .. every record .. written before the last handing over of a message or reading of an answer, and every record that a restore gave back"
    May (cut i k) h = (held (vote_machine n t agreement plan) i h ≤ k) × (k ≤ length (log_of h i))

    -- every step of the list is allowed
    abbrev pub Allowed : Steps → Type 0
    Allowed [] = Unit {0}
    Allowed (s ∷ h) = Allowed h × May s h

  -- ---- what a board has done

  -- "A board enters level 0 at its start, at its input": board i started at position x
  abbrev pub StartedAt : Steps → ℕ → ℕ → Type 0
  StartedAt h i x = T (level_at (party_of h i) 0).entered × ((level_at (party_of h i) 0).position ≡ x)

  -- "Level 0's output is the answer": board i has the answer x
  abbrev pub AnswersNow : Steps → ℕ → ℕ → Type 0
  AnswersNow h i x = (x ≡ no_output → ⊥) × (output_of (party_of h i) ≡ x)

  -- "held then or read earlier"
  abbrev pub Answers : Steps → ℕ → ℕ → Type 0
  Answers h i x = AnswersNow h i x ⊎ ((later : Steps) × (before : Steps) × (h ≡ later ++ (mark i ∷ before)) × AnswersNow before i x)

  -- ---- the demand

  -- "each lies on the path between two started inputs of sound boards, which may be the same one"
  abbrev pub BetweenInputs : Set → Steps → ℕ → Type 0
  BetweenInputs bad h y =
      (i : ℕ) × (j : ℕ) × (a : ℕ) × (b : ℕ) × Sound n bad i × Sound n bad j × StartedAt h i a × StartedAt h j b
      × Walk (Adjacent (edges_of plan)) (λ _. Unit {0}) a b × OnPath (Adjacent (edges_of plan)) a b y

  -- "If every sound board has started, has handed over all that its calls made, and has taken every message that sound boards handed over": what this comes
  -- to, whenever and however often a message was handed over
  pub record Complete (bad : Set) (h : Steps) : Type 0 where
    pub started : (i : ℕ) → Sound n bad i → (x : ℕ) × StartedAt h i x
    pub taken : (i j : ℕ) (m : Message) → Sound n bad i → Sound n bad j → Memᴰ m (messages_by j (log_of h j)) → T (held_by (party_of h i) j m)

  -- what holds after the steps
  pub record Holds (bad : Set) (h : Steps) : Type 0 where
    -- "Any two answers of sound boards, held then or read earlier, are at most one edge apart"
    pub near : (i j x y : ℕ) → Sound n bad i → Sound n bad j → Answers h i x → Answers h j y → (x ≡ y) ⊎ Adjacent (edges_of plan) x y
    -- "and each lies on the path between two started inputs of sound boards"
    pub validity : (i x : ℕ) → Sound n bad i → Answers h i x → BetweenInputs bad h x
    -- "each has an answer"
    pub ending : Complete bad h → (i : ℕ) → Sound n bad i → (x : ℕ) × AnswersNow h i x

  -- what is asked of the settings, of the faulty boards and of the steps
  pub record Premises (bad : Set) (h : Steps) : Type 0 where
    -- "n 1 to 16", at least one board by the next line
    pub boards : n ≤ max_boards
    -- "3t below n"
    pub faults : 3 * t < n
    -- the plan is one that a plan reading gives
    pub valid : T (plan_valid plan)
    -- "Whichever boards, at most t of the n, are faulty"
    pub few : count n bad ≤ t
    -- "whatever they say, in whatever order and however often the wire delivers, and wherever power is cut"
    pub allowed : Allowed bad h

abbrev pub LogDemand3 : Type 0
LogDemand3 = (n t agreement : ℕ) (plan : Plan) (bad : Set) (h : Steps n t agreement plan) → Premises n t agreement plan bad h → Holds n t agreement plan bad h
