-- The history over logs that a history of calls, bytes and cuts amounts to.
use mathlib.Core.Path.{◌≡◌, refl, sym, subst}
use mathlib.Core.Logic.{◌⊎◌, inl, inr}
use mathlib.Core.Bool.{Bool, true, false}
use mathlib.Core.List.Memᴰ
use mathlib.Core.List.{List, [], ◌∷◌}
use Prim.Native.Nat.{ℕ, ◌-◌, ◌≤◌}
use lib.Dec.{eqb}
use lib.ListN.{length, take, drop}
use Rattle.std.specs.Prelude.{Ok, Some, None, Err}
use Rattle.base.specs.Pick.{pick}
use Rattle.base.specs.Sets.{Set}
use Rattle.base.specs.Found.{Found, found, refused}
use Rattle.plan.specs.Plan.{Plan}
use Rattle.message.specs.declared.Message.{Message}
use Rattle.message.specs.Reading.{Exactly, broken, exact_message}
use Rattle.journal.specs.Reading.{records_from}
use Rattle.board_calls.specs.Answers.{Answer}
use Rattle.board_calls.specs.Calls.{Entry, again, fresh, answered_of}
use Rattle.board_calls.specs.Restore.{Replay}
use Rattle.execution.specs.Machine.{Event, Machine}
use Rattle.execution.specs.History as logs
use Rattle.execution.specs.History.{HStep, act, hand, mark, log, held, FairH}
use Rattle.execution.specs.Inner.{ValidH}
use Rattle.vote_machine.specs.Machine.{vote_machine, event_of}
use Rattle.agreement.specs.History.{Instance, Call, set_up, start, take_message_lem, read_answer, read_count, restore, start_finds, take_finds, restore_finds, read_as_count, Step, calls, hands, cut, whose, History, Stage, waiting, running, down, Board, board_after}
use Rattle.agreement.specs.Allowed.{Handed}

-- the vote as a machine
abbrev pub machine_of : Instance → Plan → Machine
machine_of v plan = vote_machine v.n v.t v.agreement plan

-- ---- what a step is for its board's log

-- nothing; a recorded call; a message handed over; a reading or restore that guards every record; a cut that leaves so many records
pub data Tale : Type 0 where
  nothing : Tale
  acts : Event Message ℕ → Tale
  gives : Message → Tale
  marks : Tale
  cuts : ℕ → Tale

abbrev pub entry_tale : Found Entry → Tale
entry_tale (found again) = nothing
entry_tale (found (fresh r ran)) = acts (event_of r)
entry_tale (refused number place) = nothing

abbrev pub answer_tale : Answer → Tale
answer_tale None = nothing
answer_tale (Some z) = marks

abbrev pub restore_tale : Found Replay → Tale
restore_tale (found r) = marks
restore_tale (refused number place) = nothing

abbrev pub call_tale : Call → Tale
call_tale (set_up n t own agreement plan) = nothing
call_tale (start p input lent used) = entry_tale (start_finds p input lent used)
call_tale (take_message_lem p sender bytes lent used) = entry_tale (take_finds p sender bytes lent used)
call_tale (read_answer p) = answer_tale (answered_of p).answer
call_tale (read_count p g c) = answer_tale (read_as_count p g c).answer
call_tale (restore n t own agreement plan lent) = restore_tale (restore_finds n t own agreement plan lent)

-- the message that the bytes are
abbrev pub hand_tale : Exactly → Tale
hand_tale (Ok m) = gives m
hand_tale (Err e) = nothing

-- how many whole records the bytes begin with
abbrev pub whole_records : List ℕ → ℕ
whole_records j = length (records_from (length j) j 0 [])

-- before the set-up there is nothing to cut
abbrev pub cut_tale : Stage → ℕ → Tale
cut_tale waiting k = nothing
cut_tale running k = cuts k
cut_tale down k = cuts k

abbrev pub tale_of : Board → Step → Tale
tale_of b (calls i c) = call_tale c
tale_of b (hands i bytes) = hand_tale (exact_message bytes)
tale_of b (cut i left) = cut_tale b.stage (whole_records (take left b.journal))

-- the log after it
abbrev pub log_after : Tale → List (Event Message ℕ) → List (Event Message ℕ)
log_after nothing l = l
log_after (acts e) l = e ∷ l
log_after (gives m) l = l
log_after marks l = l
log_after (cuts k) l = drop (length l - k) l

-- and how many of its records no cut may take
abbrev pub held_after : Tale → List (Event Message ℕ) → ℕ → ℕ
held_after nothing l x = x
held_after (acts e) l x = x
held_after (gives m) l x = length l
held_after marks l x = length l
held_after (cuts k) l x = x

module _ (v : Instance) (plan : Plan) where
  abbrev M : Machine
  M = vote_machine v.n v.t v.agreement plan

  -- the history with it
  abbrev pub added : ℕ → Tale → List (HStep (machine_of v plan)) → List (HStep (machine_of v plan))
  added i nothing h = h
  added i (acts e) h = act i e ∷ h
  added i (gives m) h = hand i m ∷ h
  added i marks h = mark i ∷ h
  added i (cuts k) h = logs.cut i k ∷ h

  -- the history over logs
  unfoldable pub told : History → List (HStep (machine_of v plan))
  told [] = []
  told (s ∷ h) = added (whose s) (tale_of (board_after h (whose s)) s) (told h)

  same : {A : Type 0} (b : Bool) (x : A) → x ≡ pick b x x
  same true x = refl
  same false x = refl

  pub log_added : (j : ℕ) (t : Tale) (h : List (HStep (machine_of v plan))) (i : ℕ)
      → log (machine_of v plan) i (added j t h) ≡ pick (eqb j i) (log_after t (log (machine_of v plan) i h)) (log (machine_of v plan) i h)
  unfolding log
  log_added j nothing h i = same (eqb j i) (log M i h)
  log_added j (acts e) h i = refl
  log_added j (gives m) h i = same (eqb j i) (log M i h)
  log_added j marks h i = same (eqb j i) (log M i h)
  log_added j (cuts k) h i = refl

  pub held_added : (j : ℕ) (t : Tale) (h : List (HStep (machine_of v plan))) (i : ℕ)
      → held (machine_of v plan) i (added j t h) ≡ pick (eqb j i) (held_after t (log (machine_of v plan) i h) (held (machine_of v plan) i h)) (held (machine_of v plan) i h)
  unfolding held
  held_added j nothing h i = same (eqb j i) (held M i h)
  held_added j (acts e) h i = same (eqb j i) (held M i h)
  held_added j (gives m) h i = refl
  held_added j marks h i = refl
  held_added j (cuts k) h i = same (eqb j i) (held M i h)

  -- ---- what was handed over

  later_handed : (i : ℕ) (t : Tale) (h : List (HStep (machine_of v plan))) (j : ℕ) (m : Message) → logs.Handed M j m h → logs.Handed M j m (added i t h)
  later_handed i nothing h j m x = x
  later_handed i (acts e) h j m x = x
  later_handed i (gives k) h j m x = inr x
  later_handed i marks h j m x = x
  later_handed i (cuts k) h j m x = x

  -- the bytes of a message handed over are that message handed over
  pub handed_told : (h : History) (j : ℕ) (bytes : List ℕ) (m : Message) → Handed j bytes h → exact_message bytes ≡ Ok m
      → logs.Handed (machine_of v plan) j m (told h)
  unfolding told
  handed_told [] j bytes m x e = absurd (Memᴰ.not-nil x)
  handed_told (s ∷ h) j bytes m x e = go (Memᴰ.cases_cons x) (λ y. handed_told h j bytes m y e)
    where
      go : (hands j bytes ≡ s) ⊎ Handed j bytes h → (Handed j bytes h → logs.Handed M j m (told h))
          → logs.Handed M j m (added (whose s) (tale_of (board_after h (whose s)) s) (told h))
      go (inl i) ih =
          subst (λ (y : Step). logs.Handed M j m (added (whose y) (tale_of (board_after h (whose y)) y) (told h))) i
          (subst (λ (z : Exactly). logs.Handed M j m (added j (hand_tale z) (told h))) (sym e) (inl (refl, refl)))
      go (inr y) ih = later_handed (whose s) (tale_of (board_after h (whose s)) s) (told h) j m (ih y)

  -- ---- what may be told next

  module _ (bad : Set) where
    abbrev pub MayTell : ℕ → Tale → List (HStep (machine_of v plan)) → Type 0
    MayTell i nothing h = Unit {0}
    MayTell i (acts e) h = FairH (machine_of v plan) v.n bad e h
    MayTell i (gives m) h = (machine_of v plan).Sent (logs.after (machine_of v plan) i (log (machine_of v plan) i h)) m
    MayTell i marks h = Unit {0}
    MayTell i (cuts k) h = (held (machine_of v plan) i h ≤ k) × (k ≤ length (log (machine_of v plan) i h))

    pub valid_added : (i : ℕ) (t : Tale) (h : List (HStep (machine_of v plan))) → ValidH (machine_of v plan) v.n bad h → MayTell i t h
        → ValidH (machine_of v plan) v.n bad (added i t h)
    valid_added i nothing h w m = w
    valid_added i (acts e) h w m = (w, m)
    valid_added i (gives x) h w m = (w, m)
    valid_added i marks h w m = (w, m)
    valid_added i (cuts k) h w m = (w, m)
