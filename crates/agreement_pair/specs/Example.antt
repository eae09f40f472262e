-- Document 02, Q-13: "the pair may lie off the line between two sound pairs". Two boards hold both votes, and each has the same number in both. In the first they
-- start at 2 and 0 and answer 1 and 2 (`agreement_histories`, Grades); in the second, on the readings 0 and 1, each answers what it started with. So they started
-- with the pairs (2, 0) and (0, 1), and read (1, 0) and (2, 1). Each reading of (2, 1) was started with by somebody, the two together by nobody, and neither pair
-- lies on a line between two pairs that boards started with.
use Rattle.std.specs.Prelude.{◌≡◌, false, ℕ, zero, suc, ◌<◌, ℤ, pos, ◌-ℤ◌, ◌*ℤ◌, Some}
use mathlib.Core.List.{List, [], ◌∷◌, Memᴰ}
use Rattle.base.specs.Limits.{offset_zero}
use Rattle.base.specs.Sets.{Set}
use Rattle.base.specs.Found.{found}
use Rattle.plan.specs.Plan.{Plan}
use Rattle.plan.specs.Positions.{range_plan}
use Rattle.party.specs.Party.{Party}
use Rattle.board_pair.specs.Pair.{pair_questions}
use Rattle.agreement.specs.History.{Instance, History, board_after}
use Rattle.agreement.specs.Demand.{StartedWith, Complete}
use Rattle.agreement.specs.Ranges.{Between}
use Rattle.agreement_histories.specs.Scripts.{Action, sets_up, starts, history_of}
use Rattle.agreement_histories.specs.Grades as grades
use Rattle.agreement_pair.specs.History.{Coordinate, first, second, Seats, PairHistory, reads_pair, history_in, in_both}
use Rattle.agreement_pair.specs.Demand.{SoundInBoth, pair_now, PairPremises}

-- ---- lines

-- y lies on the line between the pairs p and q, which may be the same one
pub record OnLine (p q y : Coordinate → ℤ) : Type 0 where
  pub between : (c : Coordinate) → Between (p c) (q c) (y c)
  pub straight : (y first -ℤ p first) *ℤ (q second -ℤ p second) ≡ (y second -ℤ p second) *ℤ (q first -ℤ p first)

-- a board with the same number in both votes
abbrev pub both : ℕ → Seats
both i c = i

-- a board with the same number in both votes, and sound in both, started them with the pair p
pub record InputPair (v : Coordinate → Instance) (plan : Coordinate → Plan) (bad : Coordinate → Set) (h : PairHistory) (p : Coordinate → ℤ) : Type 0 where
  pub board : ℕ
  pub sound : SoundInBoth v bad (both board)
  pub position : Coordinate → ℕ
  pub started : (c : Coordinate) → StartedWith (plan c) (history_in c h) board (position c) (p c)

-- board i has the pair answer y, has read it, and it lies on no line between two sound pairs
pub record OffTheLine (v : Coordinate → Instance) (plan : Coordinate → Plan) (bad : Coordinate → Set) (h : PairHistory) (i : ℕ) (y : Coordinate → ℤ) : Type 0 where
  pub premises : PairPremises v plan bad h
  pub complete : (c : Coordinate) → Complete (v c) (bad c) (history_in c h)
  pub sound : SoundInBoth v bad (both i)
  pub held : pair_now v h (both i) ≡ Some (y first, y second)
  pub read : (p : Coordinate → Party) × Memᴰ (reads_pair (both i) p) h × (pair_questions (p first) (p second) ≡ found (Some (y first, y second)))
  pub off : (p q : Coordinate → ℤ) → InputPair v plan bad h p → InputPair v plan bad h q → OnLine p q y → ⊥

-- ---- the votes

abbrev pub vote : Coordinate → Instance
vote first = grades.vote
vote second = record { n = 2; t = 0; agreement = 2; plan = 2 ∷ 0 ∷ 1 ∷ [] }

abbrev pub plan : Coordinate → Plan
plan first = grades.plan
plan second = range_plan offset_zero 1

abbrev pub bad : Coordinate → Set
bad c = λ _. false

-- ---- the history

abbrev pub script : Coordinate → List Action
script first = grades.script
script second = sets_up 0 ∷ sets_up 1 ∷ starts 0 (pos 0) ∷ starts 1 (pos 1) ∷ []

abbrev pub before : Coordinate → History
before c = history_of (vote c) (script c)

-- board i's records
abbrev pub record_of : ℕ → Coordinate → Party
record_of i c = (board_after (before c) i).party

-- at last both boards read the pair
abbrev pub history : PairHistory
history = reads_pair (both 1) (record_of 1) ∷ reads_pair (both 0) (record_of 0) ∷ in_both before

-- ---- what is said of it

-- what board i started with: (2, 0), (0, 1)
abbrev pub input : ℕ → Coordinate → ℤ
input zero first = pos 2
input zero second = pos 0
input (suc i) first = pos 0
input (suc i) second = pos 1

abbrev pub Inputs : Type 0
Inputs = (i : ℕ) → i < 2 → InputPair vote plan bad history (input i)

-- what it answers: (1, 0), (2, 1)
abbrev pub answer : ℕ → Coordinate → ℤ
answer i first = pos (suc i)
answer i second = pos i

abbrev pub Example : Type 0
Example = (i : ℕ) → i < 2 → OffTheLine vote plan bad history i (answer i)
