-- Demand 3, sentence by sentence.
use Rattle.std.specs.Prelude.{◌≡◌, ◌⊎◌, Bool, true, false, ◌&&◌, ℕ, ◌*◌, ◌≤◌, ◌<◌, eqb, ℤ, Ok, Some}
use mathlib.Core.List.{List, [], ◌∷◌, Memᴰ}
use Rattle.base.specs.Pick.{pick}
use Rattle.base.specs.Sets.{Set, count}
use Rattle.base.specs.Limits.{max_boards, max_number, outgoing_size}
use Rattle.base.specs.Found.{Found, found, refused}
use Rattle.tree.specs.Walk.{Walk, OnPath}
use Rattle.tree.specs.Edges.{Adjacent}
use Rattle.plan.specs.Plan.{Plan}
use Rattle.plan.specs.Positions.{edges_of, reading_of}
use Rattle.plan.specs.Reading.{plan_of}
use Rattle.message.specs.declared.Message.{Message}
use Rattle.message.specs.Message.{message_bytes}
use Rattle.message.specs.Reading.{exact_message}
use Rattle.party.specs.Party.{Party}
use Rattle.board_calls.specs.Answers.{Answer}
use Rattle.board_calls.specs.Calls.{answered_of, no_party}
use Rattle.board_calls.specs.Restore.{Replay, restored_of}
use Rattle.agreement.specs.History.{Instance, StartInput, voted_input, set_up, start, take_message_lem, read_answer, read_count, restore, restore_finds, read_as_count, Step, calls, hands, cut, History, Stage, waiting, running, down, a_start, a_take, Counted, Board, board_after}
use Rattle.agreement.specs.Allowed.{Sound, Handed, Allowed}

-- ---- started, taken, made

-- "Started and taken mean in an accepted call not lost": board i started at position x, and this is what its caller gave
abbrev pub StartedBy : History → ℕ → ℕ → StartInput → Type 0
StartedBy h i x input = (c : Counted) × Memᴰ c (board_after h i).counted × (c.act ≡ a_start x input)

-- it started at position x with the vertex or reading z: its caller gave z, or a count whose nearest step is z
abbrev pub Started : History → ℕ → ℕ → ℤ → Type 0
Started h i x z = (input : StartInput) × StartedBy h i x input × (voted_input input ≡ z)

-- it took message m from board s, held already or not
abbrev pub Took : History → ℕ → ℕ → Message → Type 0
Took h i s m = (c : Counted) × Memᴰ c (board_after h i).counted × (c.act ≡ a_take s (Ok m))

-- a call of it made the message m: "what a board's calls made leaves lost calls out"
abbrev pub Made : History → ℕ → Message → Type 0
Made h i m = (c : Counted) × Memᴰ c (board_after h i).counted × Memᴰ m c.made

-- ---- handing over

-- what a restore's questions find: accepted, or refused
abbrev pub accepted : Found Replay → Bool
accepted (found r) = true
accepted (refused number place) = false

-- the step is an accepted restore of board i, after a cut or without one; a refused one is none
abbrev pub is_restore_of : ℕ → Step → Bool
is_restore_of i (calls j (set_up n t own agreement plan)) = false
is_restore_of i (calls j (start p input lent used)) = false
is_restore_of i (calls j (take_message_lem p sender bytes lent used)) = false
is_restore_of i (calls j (read_answer p)) = false
is_restore_of i (calls j (read_count p g c)) = false
is_restore_of i (calls j (restore n t own agreement plan lent)) = eqb j i && accepted (restore_finds n t own agreement plan lent)
is_restore_of i (hands j bytes) = false
is_restore_of i (cut j left) = false

-- the steps since board i's last accepted restore; all where there is none, and of those it hands something over only after its set-up
unfoldable pub since_restore : ℕ → History → History
since_restore i [] = []
since_restore i (s ∷ h) = pick (is_restore_of i s) [] (s ∷ since_restore i h)

-- document 02, Q-5: "for answering .., handing over counts only from the last restore", of the board that hands over. Only the ending asks this: what is
-- taken as a sound board's message is anything that it ever handed over (`Accepts`), also before a cut
abbrev pub HandedSince : ℕ → List ℕ → History → Type 0
HandedSince i bytes h = Handed i bytes (since_restore i h)

-- ---- answers

-- the party of a board by its stage: none before the set-up; after a cut, the one that a restore would give
abbrev pub party_by : Instance → ℕ → Board → Stage → Party
party_by v i b waiting = no_party
party_by v i b running = b.party
party_by v i b down = (restored_of (restore_finds v.n v.t i v.agreement v.plan (record { journal = b.journal; out = outgoing_size }))).party

-- the party that a reading of board i would be asked of: after a cut, the one restored
abbrev pub party_now : Instance → History → ℕ → Party
party_now v h i = party_by v i (board_after h i) (board_after h i).stage

-- "A board's answer is what reading gives or, after a cut, would give once restored."
abbrev pub answer_now : Instance → History → ℕ → Answer
answer_now v h i = (answered_of (party_now v h i)).answer

-- board i's answer was "read earlier", from the party p: as it is, or by a reading that gave it as a count
abbrev pub WasRead : History → ℕ → Party → Type 0
WasRead h i p =
    Memᴰ (calls i (read_answer p)) h
    ⊎ ((g : ℕ) × (c : ℤ) × (a : ℤ) × Memᴰ (calls i (read_count p g c)) h × ((read_as_count p g c).answer ≡ Some a))

-- "held then or read earlier"
abbrev pub Answers : Instance → History → ℕ → ℤ → Type 0
Answers v h i z = (answer_now v h i ≡ Some z) ⊎ ((p : Party) × WasRead h i p × ((answered_of p).answer ≡ Some z))

-- ---- the demand

-- "at most one edge apart": the same, or joined by an edge of the plan; on a range, readings at most 1 apart (Ranges, `near_readings`)
abbrev pub Near : Plan → ℕ → ℕ → Type 0
Near p x y = (x ≡ y) ⊎ Adjacent (edges_of p) x y

-- position x of the plan is what the caller knows as z
abbrev pub Stands : Plan → ℕ → ℤ → Type 0
Stands p x z = (x < p.count) × (reading_of p x ≡ z)

-- board i started with the vertex or reading z, whose position is x
pub record StartedWith (plan : Plan) (h : History) (i x : ℕ) (z : ℤ) : Type 0 where
  pub started : Started h i x z
  pub stands : Stands plan x z

-- "each lies on the path between two started inputs of sound boards, which may be the same one"
abbrev pub BetweenInputs : Instance → Plan → Set → History → ℕ → Type 0
BetweenInputs v plan bad h y =
    (i : ℕ) × (j : ℕ) × (a : ℕ) × (b : ℕ) × (p : ℤ) × (q : ℤ) × Sound v bad i × Sound v bad j × StartedWith plan h i a p × StartedWith plan h j b q
    × Walk (Adjacent (edges_of plan)) (λ _. Unit {0}) a b × OnPath (Adjacent (edges_of plan)) a b y

-- "If every sound board has started, has handed over all that its calls made, and has taken every message that sound boards handed over", where handing
-- over counts from the last restore on. What was handed over are bytes, and they read as one message (Words, `handed_one`).
pub record Complete (v : Instance) (bad : Set) (h : History) : Type 0 where
  pub started : (i : ℕ) → Sound v bad i → (x : ℕ) × (z : ℤ) × Started h i x z
  pub handed : (i : ℕ) (m : Message) → Sound v bad i → Made h i m → HandedSince i (message_bytes m) h
  pub taken : (i j : ℕ) (bytes : List ℕ) (m : Message) → Sound v bad i → Sound v bad j → HandedSince j bytes h → exact_message bytes ≡ Ok m
      → Took h i j m

-- what holds after a list of steps
pub record Holds (v : Instance) (plan : Plan) (bad : Set) (h : History) : Type 0 where
  -- "Any two answers of sound boards, held then or read earlier, are at most one edge apart"
  pub near : (i j : ℕ) (y z : ℤ) → Sound v bad i → Sound v bad j → Answers v h i y → Answers v h j z
      → (x : ℕ) × (w : ℕ) × Stands plan x y × Stands plan w z × Near plan x w
  -- "and each lies on the path between two started inputs of sound boards"
  pub validity : (i : ℕ) (y : ℤ) → Sound v bad i → Answers v h i y → (x : ℕ) × Stands plan x y × BetweenInputs v plan bad h x
  -- "each has an answer"
  pub ending : Complete v bad h → (i : ℕ) → Sound v bad i → (z : ℤ) × (answer_now v h i ≡ Some z)

-- ---- what the demand asks first

-- "Boards share n, t, agreement number and plan, 3t below n, and each has its own number": that board i's own number is i stands in `Ours`
pub record Shared (v : Instance) (plan : Plan) : Type 0 where
  -- "n 1 to 16", at least one board by the next line
  pub boards : v.n ≤ max_boards
  -- "3t below n"
  pub faults : 3 * v.t < v.n
  -- "An agreement number (0 to 4,294,967,295) names one vote"
  pub number : v.agreement ≤ max_number
  -- the plan that the shared bytes give
  pub reads : plan_of v.plan ≡ found plan

-- what is asked of the vote, of the faulty boards and of the list of steps
pub record Premises (v : Instance) (plan : Plan) (bad : Set) (h : History) : Type 0 where
  pub shared : Shared v plan
  -- "Whichever boards, at most t of the n, are faulty"
  pub few : count v.n bad ≤ v.t
  -- "whatever they say, in whatever order and however often the wire delivers, and wherever power is cut: for every list of steps that 01 allows the
  -- sound boards (set-up, start, take, reading the answer, restore, handing over, cut; refused calls included), from boards not yet set up"
  pub allowed : Allowed v bad h

-- "this holds after it"
abbrev pub Demand3 : Type 0
Demand3 = (v : Instance) (plan : Plan) (bad : Set) (h : History) → Premises v plan bad h → Holds v plan bad h
