-- Document 02, Q-7: "With at most t faulty boards, a sound board makes at most 7 different messages of kinds 1 to 6 at each level, so at most 105 and 840
-- bytes in a vote. State it of demand 3's histories, lost calls left out."
use Rattle.std.specs.Prelude.{◌≡◌, ℕ, suc, ◌*◌, ◌≤◌, ◌<◌, length}
use mathlib.Core.List.{List, [], ◌∷◌, ◌++◌, Memᴰ}
use Rattle.base.specs.Sets.{Set}
use Rattle.base.specs.Limits.{max_number, sending_levels, level_messages, message_size}
use Rattle.base.specs.Found.{found}
use Rattle.base.specs.Distinct.{Distinct}
use Rattle.message.specs.declared.Message.{Message}
use Rattle.plan.specs.Plan.{Plan}
use Rattle.plan.specs.Reading.{plan_of}
use Rattle.plan_levels.specs.Statement.{Deep}
use Rattle.plan_messages.specs.Bound.{bound_of}
use Rattle.party.specs.Run.{bytes_of}
use Rattle.agreement.specs.History.{Instance, History, Counted, board_after}
use Rattle.agreement.specs.Allowed.{Sound, Allowed}
use Rattle.agreement.specs.Demand.{Made, Shared, Premises}
use Rattle.agreement_levels.specs.Statement.{AloneMakes}

-- different messages, all of which calls of board i made that are not lost; every message is of one of the kinds 1 to 6
pub record Different (h : History) (i : ℕ) (ms : List Message) : Type 0 where
  pub once : Distinct ms
  pub made : (m : Message) → Memᴰ m ms → Made h i m

-- so many messages at most, and so many bytes, each message having at most 8
pub record Within (most : ℕ) (ms : List Message) : Type 0 where
  pub messages : length ms ≤ most
  pub bytes : length (bytes_of ms) ≤ most * message_size

-- "at most 7 different messages .. at each level", with any number
abbrev pub LevelBound : ℕ → Instance → Set → History → Type 0
LevelBound most v bad h =
    (i L : ℕ) (ms : List Message) → Sound v bad i → Different h i ms → ((m : Message) → Memᴰ m ms → m.level ≡ L) → Within most ms

-- of what sound boards made after a history
pub record Bounded (v : Instance) (bad : Set) (h : History) : Type 0 where
  pub level : LevelBound level_messages v bad h
  -- "so at most 105 and 840 bytes in a vote"
  pub vote : (i : ℕ) (ms : List Message) → Sound v bad i → Different h i ms → Within (level_messages * sending_levels) ms
  -- and at most as many as the call says of the shared plan's bytes
  pub call : (i : ℕ) (ms : List Message) → Sound v bad i → Different h i ms → Within (bound_of v.plan).messages ms

-- those numbers
pub record Numbers : Type 0 where
  pub messages : level_messages * sending_levels ≡ 105
  pub bytes : level_messages * sending_levels * message_size ≡ 840

-- with demand 3's very premises
abbrev pub Statement : Type 0
Statement = (v : Instance) (plan : Plan) (bad : Set) (h : History) → Premises v plan bad h → Bounded v bad h

-- ---- the same of one life, and of a plan's levels, whoever is faulty

-- the messages that calls made, in order
unfoldable pub made_in_all : List Counted → List Message
made_in_all [] = []
made_in_all (c ∷ cs) = made_in_all cs ++ c.made

-- no call of a sound board that is not lost makes a message twice, or one that another such call made
abbrev pub OnceInHistory : Type 0
OnceInHistory =
    (v : Instance) (plan : Plan) (bad : Set) (h : History) → Shared v plan → Allowed v bad h
    → (i : ℕ) → Sound v bad i → Distinct (made_in_all (board_after h i).counted)

-- what the call says of the levels of a plan's bytes, by what boards do
pub record Levels (bytes : List ℕ) (plan : Plan) : Type 0 where
  -- no sound board of any vote on the plan makes a message at a level at or beyond it
  pub most : (v : Instance) (bad : Set) (h : History) → Shared v plan → Allowed v bad h
      → (i : ℕ) (m : Message) → Sound v bad i → Made h i m → m.level < (bound_of bytes).levels
  -- for a figure of k levels, k at least 1, some position lies in a component of three or more positions at level k - 1 of its chain of sides, and a board alone
  -- that starts there makes a message at every such level
  pub reached : (L : ℕ) → suc L ≡ (bound_of bytes).levels → (x : ℕ) × Deep plan x L × ((a : ℕ) → a ≤ max_number → AloneMakes a bytes plan x)

-- for every plan that passes
abbrev pub Tied : Type 0
Tied = (bytes : List ℕ) (plan : Plan) → plan_of bytes ≡ found plan → Levels bytes plan
