-- Demand 3's words on logs by the calls of a log. Logs.antt says started, taken and made by the party that the rules make of a log; `Words` says that each is
-- so just where an accepted call of the log made it so, and that refused calls count for nothing. It holds of every log (proofs/Words.antt `log_words`).
use Rattle.std.specs.Prelude.{◌≡◌, ◌↔◌, ℕ, ◌*◌, ◌≤◌, ◌<◌, T}
use mathlib.Core.List.{List, ◌∷◌, ◌++◌, Memᴰ}
use Rattle.base.specs.Sets.{Set}
use Rattle.base.specs.Limits.{max_boards}
use Rattle.plan.specs.Plan.{Plan}
use Rattle.plan.specs.Valid.{plan_valid}
use Rattle.message.specs.declared.Message.{Message}
use Rattle.message.specs.Message.{in_table}
use Rattle.party.specs.Party.{held_by}
use Rattle.execution.specs.Machine.{Event, start, take}
use Rattle.execution.specs.History.{Handed}
use Rattle.vote_machine.specs.Machine.{accepts, accepted, vote_machine}
use Rattle.log_agreement.specs.Logs.{Steps, log_of, party_by, party_of, messages_by, Allowed, StartedAt}

module _ (n t agreement : ℕ) (plan : Plan) where
  -- call e stands in board i's log l, and was accepted when it was called: at the party that the older part of the log gives
  pub record AcceptedCall (i : ℕ) (l : List (Event Message ℕ)) (e : Event Message ℕ) : Type 0 where
    pub later : List (Event Message ℕ)
    pub older : List (Event Message ℕ)
    pub stands : l ≡ later ++ (e ∷ older)
    pub fits : T (accepts (party_by n t agreement plan i older) e)

  -- an accepted call of the log made message m
  abbrev pub CallMade : ℕ → List (Event Message ℕ) → Message → Type 0
  CallMade i l m = (e : Event Message ℕ) × (c : AcceptedCall i l e) × Memᴰ m (accepted (party_by n t agreement plan i c.older) e).made

  -- of board i, whatever its log l
  pub record Calls (i : ℕ) (l : List (Event Message ℕ)) : Type 0 where
    -- a start is accepted next: the log has no accepted start, and it is on the plan
    pub starts : (x : ℕ) → T (accepts (party_by n t agreement plan i l) (start x)) ↔ (((y : ℕ) → AcceptedCall i l (start y) → ⊥) × (x < plan.count))
    -- a message is accepted next: it is of this vote, from one of its boards and of the table
    pub takes : (s : ℕ) (m : Message) → T (accepts (party_by n t agreement plan i l) (take s m)) ↔ ((m.number ≡ agreement) × (s < n) × T (in_table m))
    -- where a call is refused next, any longer log gives the same party and messages without it
    pub refused : (e : Event Message ℕ) → (T (accepts (party_by n t agreement plan i l) e) → ⊥) → (later : List (Event Message ℕ))
        → (party_by n t agreement plan i (later ++ (e ∷ l)) ≡ party_by n t agreement plan i (later ++ l))
        × (messages_by n t agreement plan i (later ++ (e ∷ l)) ≡ messages_by n t agreement plan i (later ++ l))

  -- board i's log after some steps has the accepted call e
  abbrev pub Logged : Steps n t agreement plan → ℕ → Event Message ℕ → Type 0
  Logged h i e = AcceptedCall i (log_of n t agreement plan h i) e

  -- of board i, whatever the steps
  pub record Words (h : Steps n t agreement plan) (i : ℕ) : Type 0 where
    -- it started at x: its log has an accepted start there
    pub started : (x : ℕ) → StartedAt n t agreement plan h i x ↔ Logged h i (start x)
    -- it has taken message m from board s: its log has an accepted take of it. `held_by` looks at m's level and body only
    pub taken : (s : ℕ) (m : Message)
        → ((m.number ≡ agreement) × T (in_table m) × T (held_by (party_of n t agreement plan h i) s m)) ↔ Logged h i (take s m)
    -- so of a message that was handed over in allowed steps: it is of this vote and of the table
    pub handed : (bad : Set) → Allowed n t agreement plan bad h → (j : ℕ) (m : Message) → Handed (vote_machine n t agreement plan) j m h
        → T (held_by (party_of n t agreement plan h i) j m) ↔ Logged h i (take j m)
    -- its calls made message m: an accepted one of its log did
    pub made : (m : Message)
        → Memᴰ m (messages_by n t agreement plan i (log_of n t agreement plan h i)) ↔ CallMade i (log_of n t agreement plan h i) m

-- for every vote with valid settings and plan
abbrev pub LogWords : Type 0
LogWords =
    (n t agreement : ℕ) (plan : Plan) → n ≤ max_boards → 3 * t < n → T (plan_valid plan)
    → ((i : ℕ) (l : List (Event Message ℕ)) → Calls n t agreement plan i l) × ((h : Steps n t agreement plan) (i : ℕ) → Words n t agreement plan h i)
