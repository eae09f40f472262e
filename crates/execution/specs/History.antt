-- Histories: recorded calls, messages handed over, readings and power cuts, newest first.
-- A board's log is the list of its recorded calls that are not lost, newest first; a cut leaves its oldest k records.
use Rattle.std.specs.Prelude.{◌≡◌, ◌⊎◌, List, [], ◌∷◌, ℕ, ◌-◌, eqb, length, drop}
use Rattle.base.specs.Pick.{pick}
use Rattle.base.specs.Sets.{Set, Sound}
use Rattle.execution.specs.Machine.{Event, start, take, Machine}

module _ (M : Machine) where
  -- act i e: board i makes the recorded call e.
  -- hand i m: board i hands the message m over.
  -- mark i: board i's answer is read, or a restore gives its records back.
  -- cut i k: a power cut leaves board i's oldest k records.
  pub data HStep : Type 0 where
    act : (i : ℕ) → Event M.Msg M.Input → HStep
    hand : (i : ℕ) → M.Msg → HStep
    mark : (i : ℕ) → HStep
    cut : (i k : ℕ) → HStep

  -- the log of board i
  unfoldable pub log : ℕ → List HStep → List (Event M.Msg M.Input)
  log i [] = []
  log i (act j e ∷ h) = pick (eqb j i) (e ∷ log i h) (log i h)
  log i (hand j m ∷ h) = log i h
  log i (mark j ∷ h) = log i h
  log i (cut j k ∷ h) = pick (eqb j i) (drop (length (log i h) - k) (log i h)) (log i h)

  -- how many of its oldest records no cut may take: those written before the last handing over or mark
  unfoldable pub held : ℕ → List HStep → ℕ
  held i [] = 0
  held i (act j e ∷ h) = held i h
  held i (hand j m ∷ h) = pick (eqb j i) (length (log i h)) (held i h)
  held i (mark j ∷ h) = pick (eqb j i) (length (log i h)) (held i h)
  held i (cut j k ∷ h) = held i h

  -- the state that a log gives board i
  unfoldable pub after : ℕ → List (Event M.Msg M.Input) → M.State
  after i [] = M.initial i
  after i (e ∷ l) = M.run (after i l) e

  -- board j has handed m over
  abbrev pub Handed : ℕ → M.Msg → List HStep → Type 0
  Handed j m [] = ⊥
  Handed j m (act i e ∷ h) = Handed j m h
  Handed j m (hand i k ∷ h) = ((i ≡ j) × (k ≡ m)) ⊎ Handed j m h
  Handed j m (mark i ∷ h) = Handed j m h
  Handed j m (cut i k ∷ h) = Handed j m h

  module _ (n : ℕ) (bad : Set) where
    -- a message taken as a sound board's was handed over by it before
    abbrev pub FairH : Event M.Msg M.Input → List HStep → Type 0
    FairH (start x) h = Unit {0}
    FairH (take s m) h = Sound n bad s → Handed s m h
