-- Document 01, "Journal and cuts": which lists of steps 01 allows the sound boards.
use Rattle.std.specs.Prelude.{◌≡◌, ◌⊎◌, ℕ, ◌≤◌, length, take, Err}
use mathlib.Core.List.{List, [], ◌∷◌, Memᴰ}
use Rattle.base.specs.Sets.{Set, Sound as SoundOf}
use Rattle.base.specs.Verdict.{Verdict}
use Rattle.base.specs.Found.{refused}
use Rattle.message.specs.declared.Message.{Message}
use Rattle.message.specs.Message.{message_bytes}
use Rattle.journal.specs.declared.RecordError.TheVariants.{Torn}
use Rattle.journal.specs.Reading.{record_at, records_in}
use Rattle.journal.specs.Records.{journal_bytes}
use Rattle.party.specs.Party.{Party}
use Rattle.board_calls.specs.Calls.{set_up_of, answered_of}
use Rattle.agreement.specs.History.{Instance, Lent, Call, set_up, start, take_message_lem, read_answer, read_count, restore, start_finds, take_finds, restore_finds, read_as_count, Step, calls, hands, cut, History, waiting, running, Board, board_after}

-- board i is sound: it "follows these rules for its whole life"; bad are the faulty ones
abbrev pub Sound : Instance → Set → ℕ → Type 0
Sound v bad i = SoundOf v.n bad i

-- board i handed these bytes over
abbrev pub Handed : ℕ → List ℕ → History → Type 0
Handed i bytes h = Memᴰ (hands i bytes) h

-- the question with this number refuses the call
abbrev pub RefusedBy : ℕ → Call → Type 0
RefusedBy k (set_up n t own agreement plan) = (at : ℕ) × ((set_up_of n t own agreement plan).verdict ≡ Verdict.Refused k at)
RefusedBy k (start p input lent used) = (at : ℕ) × (start_finds p input lent used ≡ refused k at)
RefusedBy k (take_message_lem p sender bytes lent used) = (at : ℕ) × (take_finds p sender bytes lent used ≡ refused k at)
RefusedBy k (read_answer p) = (at : ℕ) × ((answered_of p).verdict ≡ Verdict.Refused k at)
RefusedBy k (read_count p g c) = (at : ℕ) × ((read_as_count p g c).verdict ≡ Verdict.Refused k at)
RefusedBy k (restore n t own agreement plan lent) = (at : ℕ) × (restore_finds n t own agreement plan lent ≡ refused k at)

-- the call is refused: then it may be given anything, since it changes nothing
abbrev pub Refuses : Call → Type 0
Refuses c = (k : ℕ) × RefusedBy k c

-- "each later call gets the record, journal and used length as the call before left them": the lent journal begins with the used bytes
pub record Continues (b : Board) (p : Party) (lent : Lent) (used : ℕ) : Type 0 where
  pub up : b.stage ≡ running
  pub same : p ≡ b.party
  pub at : used ≡ length b.journal
  pub kept : take used lent.journal ≡ b.journal

-- board i's settings in the vote
pub record Ours (v : Instance) (i n t own agreement : ℕ) (plan : List ℕ) : Type 0 where
  pub boards : n ≡ v.n
  pub faults : t ≡ v.t
  pub seat : own ≡ i
  pub number : agreement ≡ v.agreement
  pub bytes : plan ≡ v.plan

-- The journal has the whole records of the used bytes, and after them a torn one or nothing. A torn record that a restore dropped still stands behind the
-- used bytes if the power fails before the next record is written, and the next restore may be lent it again.
pub record TornAfter (used journal : List ℕ) : Type 0 where
  pub kept : take (length (journal_bytes (records_in used))) journal ≡ journal_bytes (records_in used)
  pub torn : record_at journal (length (journal_bytes (records_in used))) ≡ Err Torn

-- what a restore may be lent: exactly the used bytes, or their whole records and then a torn one, which covers more histories
abbrev pub Lendable : List ℕ → List ℕ → Type 0
Lendable used journal = (journal ≡ used) ⊎ TornAfter used journal

-- an accepted call of board i
abbrev pub Accepts : Instance → Set → ℕ → History → Board → Call → Type 0
-- "A sound board's first call of a vote is its one set-up"
Accepts v bad i h b (set_up n t own agreement plan) = (b.stage ≡ waiting) × Ours v i n t own agreement plan
Accepts v bad i h b (start p input lent used) = Continues b p lent used
-- "a message taken as a sound board's was handed over earlier by it for that vote"
Accepts v bad i h b (take_message_lem p sender bytes lent used) = Continues b p lent used × (Sound v bad sender → Handed sender bytes h)
Accepts v bad i h b (read_answer p) = (b.stage ≡ running) × (p ≡ b.party)
Accepts v bad i h b (read_count p g c) = (b.stage ≡ running) × (p ≡ b.party)
-- "each restore has the same settings, and after a cut later than the set-up only a restore goes on, from what the cut left"
Accepts v bad i h b (restore n t own agreement plan lent) = (b.stage ≡ waiting → ⊥) × Ours v i n t own agreement plan × Lendable b.journal lent.journal

-- a step after the history h
abbrev pub May : Instance → Set → Step → History → Type 0
May v bad (calls i c) h = Sound v bad i × (Refuses c ⊎ Accepts v bad i h (board_after h i) c)
-- a message that a call since the set-up or the last restore made, or that this restore gave again (every message of its records' calls): at any time
-- before a cut, in any order, also twice or never; "all messages of one call before the next call" is not asked
May v bad (hands i bytes) h =
    Sound v bad i × ((board_after h i).stage ≡ running) × ((m : Message) × (bytes ≡ message_bytes m) × Memᴰ m (board_after h i).outbox)
-- "A cut leaves a beginning of the journal's used bytes that holds every record in them written before the last handing over of a message or
-- reading of an answer, and every record that a restore gave back"
May v bad (cut i left) h = Sound v bad i × ((board_after h i).guarded ≤ left)

-- every step of the list is allowed
abbrev pub Allowed : Instance → Set → History → Type 0
Allowed v bad [] = Unit {0}
Allowed v bad (s ∷ h) = May v bad s h × Allowed v bad h
