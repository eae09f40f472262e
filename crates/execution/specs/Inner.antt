-- What the laws of executions speak of: executions without cuts, and valid histories with cuts. These definitions serve proofs only.
use Rattle.std.specs.Prelude.{◌≡◌, ◌⊎◌, List, [], ◌∷◌, Bool, true, false, ℕ, ◌≤◌, eqb, length}
use Rattle.base.specs.Sets.{Set, Sound}
use Rattle.execution.specs.Machine.{Event, start, take, Machine}
use Rattle.execution.specs.History.{HStep, act, hand, mark, cut, log, held, after, FairH}

module _ (M : Machine) where
  -- ---- executions without cuts: lists of (board, recorded call), newest first

  -- one board's recorded call
  pub record Step : Type 0 where
    pub who : ℕ
    pub what : Event M.Msg M.Input

  -- a board's state after a step that is its own, or is not
  unfoldable pub move : Bool → M.State → Event M.Msg M.Input → M.State
  move true s e = M.run s e
  move false s e = s

  -- board i's state after an execution
  unfoldable pub state : ℕ → List Step → M.State
  state i [] = M.initial i
  state i (x ∷ tr) = move (eqb x.who i) (state i tr) x.what

  module _ (n : ℕ) (bad : Set) where
    -- a message taken as a sound board's was made by it before; of others anything may be taken
    abbrev pub Fair : Event M.Msg M.Input → List Step → Type 0
    Fair (start x) tr = Unit {0}
    Fair (take s m) tr = Sound n bad s → M.Sent (state s tr) m

    -- every call was fair when it was made
    abbrev pub Valid : List Step → Type 0
    Valid [] = Unit {0}
    Valid (x ∷ tr) = Valid tr × Fair x.what tr

  -- ---- histories

  -- P held of board j's state at some mark or handing over of it
  abbrev pub Seen : ℕ → (M.State → Type 0) → List (HStep M) → Type 0
  Seen j P [] = ⊥
  Seen j P (act i e ∷ h) = Seen j P h
  Seen j P (hand i m ∷ h) = ((i ≡ j) × P (after M j (log M j h))) ⊎ Seen j P h
  Seen j P (mark i ∷ h) = ((i ≡ j) × P (after M j (log M j h))) ⊎ Seen j P h
  Seen j P (cut i k ∷ h) = Seen j P h

  module _ (n : ℕ) (bad : Set) where
    -- what the steps so far allow next: only made messages are handed over, and a cut leaves what is held
    abbrev pub May : HStep M → List (HStep M) → Type 0
    May (act i e) h = FairH M n bad e h
    May (hand i m) h = M.Sent (after M i (log M i h)) m
    May (mark i) h = Unit {0}
    May (cut i k) h = (held M i h ≤ k) × (k ≤ length (log M i h))

    -- every step was allowed when it was made
    abbrev pub ValidH : List (HStep M) → Type 0
    ValidH [] = Unit {0}
    ValidH (x ∷ h) = ValidH h × May x h
