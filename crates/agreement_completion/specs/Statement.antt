-- The ending's premise can always be met: from every allowed history further steps lead to a complete delivery, so nothing that is allowed is a dead end.
-- Document 02, Q-5: "A vote with such cuts must come through".
use Rattle.std.specs.Prelude.{◌≡◌, ◌⊎◌, ℕ, ℤ, Some}
use mathlib.Core.List.{[], ◌∷◌, ◌++◌, Memᴰ}
use Rattle.base.specs.Sets.{Set}
use Rattle.plan.specs.Plan.{Plan}
use Rattle.message.specs.declared.Message.{Message}
use Rattle.message.specs.Message.{message_bytes}
use Rattle.agreement.specs.History.{Instance, StartInput, set_up, start, take_message_lem, read_answer, read_count, restore, Step, calls, hands, cut, History, waiting, down, board_after}
use Rattle.agreement.specs.Allowed.{Sound, Allowed}
use Rattle.agreement.specs.Starts.{Startable}
use Rattle.agreement.specs.Demand.{StartedBy, HandedSince, answer_now, Complete, Shared, Premises}

-- all that board i may hand over it has handed over, since its last restore
abbrev pub AllHandedOver : History → ℕ → Type 0
AllHandedOver h i = (m : Message) → Memᴰ m (board_after h i).outbox → HandedSince i (message_bytes m) h

-- A step after the history h that is no cut, sets up no board but one that waits, restores none but one that a cut stopped, and keeps document 01's order: "It
-- hands over all messages of one call before the next call, unless a cut comes between". What is taken is a sound board's, handed over since its last
-- restore: nothing is asked of faulty boards, and nothing of what a wire module forgot.
abbrev pub Orderly : Instance → Set → Step → History → Type 0
Orderly v bad (calls i (set_up n t own agreement plan)) h = (board_after h i).stage ≡ waiting
Orderly v bad (calls i (start p input lent used)) h = AllHandedOver h i
Orderly v bad (calls i (take_message_lem p sender bytes lent used)) h = Sound v bad sender × HandedSince sender bytes h × AllHandedOver h i
Orderly v bad (calls i (read_answer p)) h = AllHandedOver h i
Orderly v bad (calls i (read_count p g c)) h = AllHandedOver h i
Orderly v bad (calls i (restore n t own agreement plan lent)) h = (board_after h i).stage ≡ down
Orderly v bad (hands i bytes) h = Unit {0}
Orderly v bad (cut i left) h = ⊥

-- such steps, one after the other, after the history h
abbrev pub InOrder : Instance → Set → History → History → Type 0
InOrder v bad h [] = Unit {0}
InOrder v bad h (s ∷ more) = Orderly v bad s (more ++ h) × InOrder v bad h more

-- further steps without a cut, in document 01's order and without help from faulty boards, after which delivery is complete. What lies
-- behind a journal's used bytes is free (`Continues`), so a start or take may be lent more room than the call before
pub record Completed (v : Instance) (bad : Set) (h : History) : Type 0 where
  pub more : History
  pub order : InOrder v bad h more
  pub allowed : Allowed v bad (more ++ h)
  pub complete : Complete v bad (more ++ h)

-- from every allowed history, however many boards are faulty
abbrev pub Completes : Type 0
Completes = (v : Instance) (plan : Plan) (bad : Set) (h : History) → Shared v plan → Allowed v bad h → Completed v bad h

-- further steps whose starts are all given this input: of the starts that are not lost, all others were there before
pub record CompletedWith (v : Instance) (bad : Set) (h : History) (input : StartInput) : Type 0 where
  pub completed : Completed v bad h
  pub starts : (i x : ℕ) (other : StartInput) → StartedBy (completed.more ++ h) i x other → StartedBy h i x other ⊎ (other ≡ input)

-- so with any input that a board which has not started can start with; on a range, document 02, Q-6, with any count on it
abbrev pub CompletesWith : Type 0
CompletesWith =
    (v : Instance) (plan : Plan) (bad : Set) (h : History) (input : StartInput) → Shared v plan → Startable plan input → Allowed v bad h
    → CompletedWith v bad h input

-- so every vote can come through: with demand 3's premises, every sound board has an answer then
abbrev pub ComesThrough : Type 0
ComesThrough =
    (v : Instance) (plan : Plan) (bad : Set) (h : History) → Premises v plan bad h
    → (c : Completed v bad h) × ((i : ℕ) → Sound v bad i → (z : ℤ) × (answer_now v (c.more ++ h) i ≡ Some z))
