-- Document 02, Q-13: histories of two votes together, each with its own steps, and readings of both as a pair.
use Rattle.std.specs.Prelude.{Bool, true, false, List, [], ◌∷◌, ◌++◌, map, ℕ, Some, None}
use Rattle.base.specs.Pick.{pick}
use Rattle.base.specs.Found.{Found, found, refused}
use Rattle.party.specs.Party.{Party}
use Rattle.board_pair.specs.Pair.{pair_questions, PairAnswer}
use Rattle.agreement.specs.History.{read_answer, Step, calls, History}

-- the coordinates of a pair: the first vote and the second
pub data Coordinate : Type 0 where
  first : Coordinate
  second : Coordinate

-- whether two coordinates are the same one
abbrev pub same : Coordinate → Coordinate → Bool
same first first = true
same first second = false
same second first = false
same second second = true

-- a board, by its own number in each vote: that is one of the settings, and each vote has its own settings
abbrev pub Seats : Type 0
Seats = Coordinate → ℕ

-- a step of one of the votes, "each started and restored by itself"; a board reads its two records as a pair
pub data PairStep : Type 0 where
  in_vote : (c : Coordinate) (s : Step) → PairStep
  reads_pair : (own : Seats) (p : Coordinate → Party) → PairStep

-- the latest step first
abbrev pub PairHistory : Type 0
PairHistory = List PairStep

-- What a pair reading is in a vote where the board has the number i and p is the record read: if it gives an answer, a reading of the answer, which guards the
-- journal's records written before it, so it guards both journals. One that gives none, or is refused, guards nothing, which covers more cuts.
abbrev pub read_steps : ℕ → Party → Found PairAnswer → History
read_steps i p (found None) = []
read_steps i p (found (Some (y, z))) = calls i (read_answer p) ∷ []
read_steps i p (refused number place) = []

-- What a step is in a vote. A board that is sound in one vote c only reads that vote by `in_vote c (calls i (read_answer ..))`. A cut of a board's power is one
-- step in each vote; histories in which it comes in one vote alone are covered too.
abbrev pub steps_in : Coordinate → PairStep → History
steps_in c (in_vote d s) = pick (same c d) (s ∷ []) []
steps_in c (reads_pair own p) = read_steps (own c) (p c) (pair_questions (p first) (p second))

-- the history of one of the votes
unfoldable pub history_in : Coordinate → PairHistory → History
history_in c [] = []
history_in c (s ∷ h) = steps_in c s ++ history_in c h

-- steps of one vote, as a history of both
abbrev pub within : Coordinate → History → PairHistory
within c h = map (in_vote c) h

-- steps of each vote: the first vote's, and after them the second's
abbrev pub in_both : (Coordinate → History) → PairHistory
in_both h = within second (h second) ++ within first (h first)
