-- The must-fail edits of what 01 allows (`agreement`, specs/History.antt): which steps each of them lets in, and demand 3 as it leaves it.
use Rattle.std.specs.Prelude.{◌≡◌, ◌⊎◌, Bool, true, false, List, [], ◌∷◌, ℕ, ◌≤◌, ℤ}
use Rattle.base.specs.Pick.{pick}
use Rattle.base.specs.Sets.{Set, count}
use Rattle.plan.specs.Plan.{Plan}
use Rattle.message.specs.declared.Message.{Message}
use Rattle.message.specs.Message.{message_bytes}
use Rattle.party.specs.Party.{Party}
use Rattle.agreement.specs.History.{Instance, Lent, StartInput, set_up, start, take_message_lem, read_answer, read_count, restore, Step, calls, hands, cut, whose, History, running, board_after}
use Rattle.agreement.specs.Allowed.{Sound, Continues, Ours, Accepts, May}
use Rattle.agreement.specs.Demand.{Holds, Shared}

-- named as in agreement/must-fail
pub data Edit : Type 0 where
  taken_unsent : Edit
  handed_unmade : Edit
  hands_guard_nothing : Edit
  answer_guards_nothing : Edit
  count_guards_nothing : Edit
  journal_overwritten : Edit
  record_altered : Edit
  other_record_read : Edit
  other_record_counted : Edit
  other_journal_restored : Edit
  second_set_up : Edit
  other_boards : Edit
  other_faults : Edit
  other_number : Edit
  other_plan : Edit

-- ---- a history without some of its steps

abbrev pub is_handing : Step → Bool
is_handing (calls i c) = false
is_handing (hands i bytes) = true
is_handing (cut i left) = false

abbrev pub is_reading : Step → Bool
is_reading (calls i (set_up n t own agreement plan)) = false
is_reading (calls i (start p input lent used)) = false
is_reading (calls i (take_message_lem p sender bytes lent used)) = false
is_reading (calls i (read_answer p)) = true
is_reading (calls i (read_count p g c)) = true
is_reading (calls i (restore n t own agreement plan lent)) = false
is_reading (hands i bytes) = false
is_reading (cut i left) = false

abbrev pub is_counting : Step → Bool
is_counting (calls i (set_up n t own agreement plan)) = false
is_counting (calls i (start p input lent used)) = false
is_counting (calls i (take_message_lem p sender bytes lent used)) = false
is_counting (calls i (read_answer p)) = false
is_counting (calls i (read_count p g c)) = true
is_counting (calls i (restore n t own agreement plan lent)) = false
is_counting (hands i bytes) = false
is_counting (cut i left) = false

abbrev pub is_cut : Step → Bool
is_cut (calls i c) = false
is_cut (hands i bytes) = false
is_cut (cut i left) = true

unfoldable pub without : (Step → Bool) → History → History
without f [] = []
without f (s ∷ h) = pick (f s) (without f h) (s ∷ without f h)

-- ---- what an edit lets in

-- Steps after h that the edit lets in: each meets every clause of its kind of step but the one that the edit drops, so `Allowed` as the edit leaves it
-- holds of them too (by reading: the edit and the clause side by side).
pub data Lets (v : Instance) (bad : Set) (h : History) : Edit → Step → Type 0 where
  -- without "a message taken as a sound board's was handed over earlier by it for that vote"
  unsent : {i sender used : ℕ} {p : Party} {bytes : List ℕ} {lent : Lent} → Sound v bad i → Continues (board_after h i) p lent used
      → Lets v bad h taken_unsent (calls i (take_message_lem p sender bytes lent used))
  -- a board hands over what its calls made; without that, any message
  unmade : {i : ℕ} {bytes : List ℕ} (m : Message) → Sound v bad i → (board_after h i).stage ≡ running → bytes ≡ message_bytes m
      → Lets v bad h handed_unmade (hands i bytes)
  -- without "before the last handing over of a message": the cut may come where nothing was handed over
  unhanded : {i left : ℕ} → May v bad (cut i left) (without is_handing h) → Lets v bad h hands_guard_nothing (cut i left)
  -- without "or reading of an answer": the cut may come where no answer was read
  unread : {i left : ℕ} → May v bad (cut i left) (without is_reading h) → Lets v bad h answer_guards_nothing (cut i left)
  -- the same where it was read as a count
  uncounted : {i left : ℕ} → May v bad (cut i left) (without is_counting h) → Lets v bad h count_guards_nothing (cut i left)
  -- without "with nobody else writing them": the take would be accepted if another journal were lent
  overwritten : {i sender used : ℕ} {p : Party} {bytes : List ℕ} {lent : Lent} (kept : Lent) → Sound v bad i
      → Accepts v bad i h (board_after h i) (take_message_lem p sender bytes kept used) → Lets v bad h journal_overwritten (calls i (take_message_lem p sender bytes lent used))
  -- without "each later call gets the record .. as the call before left": the start would be accepted if another record were given
  altered : {i used : ℕ} {p : Party} {input : StartInput} {lent : Lent} (left : Party) → Sound v bad i
      → Accepts v bad i h (board_after h i) (start left input lent used) → Lets v bad h record_altered (calls i (start p input lent used))
  -- the same for a reading
  misread : {i : ℕ} {p : Party} (left : Party) → Sound v bad i → Accepts v bad i h (board_after h i) (read_answer left)
      → Lets v bad h other_record_read (calls i (read_answer p))
  miscounted : {i g : ℕ} {c : ℤ} {p : Party} (left : Party) → Sound v bad i → Accepts v bad i h (board_after h i) (read_count left g c)
      → Lets v bad h other_record_counted (calls i (read_count p g c))
  -- without "from what the cut left": the restore would be accepted if another journal were lent
  restored : {i n t own agreement : ℕ} {plan : List ℕ} {lent : Lent} (left : Lent) → Sound v bad i
      → Accepts v bad i h (board_after h i) (restore n t own agreement plan left)
      → Lets v bad h other_journal_restored (calls i (restore n t own agreement plan lent))
  -- without "A sound board's first call of a vote is its one set-up": the board may have been set up before
  again : {i n t own agreement : ℕ} {plan : List ℕ} → Sound v bad i → Ours v i n t own agreement plan
      → Lets v bad h second_set_up (calls i (set_up n t own agreement plan))
  -- "Boards share n, t, agreement number and plan", without n: the step would be allowed in a vote with more boards
  boards : {s : Step} (n : ℕ) → v.n ≤ n → Sound v bad (whose s) → May (record { n = n; t = v.t; agreement = v.agreement; plan = v.plan }) bad s h
      → Lets v bad h other_boards s
  -- without t, the agreement number, the plan: it would be allowed in a vote with another one
  faults : {s : Step} (t : ℕ) → May (record { n = v.n; t = t; agreement = v.agreement; plan = v.plan }) bad s h → Lets v bad h other_faults s
  number : {s : Step} (agreement : ℕ) → May (record { n = v.n; t = v.t; agreement = agreement; plan = v.plan }) bad s h → Lets v bad h other_number s
  plan : {s : Step} (plan : List ℕ) → May (record { n = v.n; t = v.t; agreement = v.agreement; plan = plan }) bad s h → Lets v bad h other_plan s

-- every step of the list is allowed, or let in by the edit
abbrev pub AllowedWith : Edit → Instance → Set → History → Type 0
AllowedWith e v bad [] = Unit {0}
AllowedWith e v bad (s ∷ h) = (May v bad s h ⊎ Lets v bad h e s) × AllowedWith e v bad h

-- demand 3 with the edit
abbrev pub Demand3With : Edit → Type 0
Demand3With e =
    (v : Instance) (plan : Plan) (bad : Set) (h : History) → Shared v plan → count v.n bad ≤ v.t → AllowedWith e v bad h → Holds v plan bad h
