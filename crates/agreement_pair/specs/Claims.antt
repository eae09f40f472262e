-- The must-fail edits of this crate: what each of them claims, and the histories against it.
use Rattle.std.specs.Prelude.{◌≡◌, false, ◌||◌, ℕ, ◌≤◌, eqb, ℤ, pos, take, ◌≤ℤ◌, Some}
use mathlib.Core.List.{List, [], ◌∷◌, ◌++◌, Memᴰ}
use Rattle.base.specs.Limits.{offset_zero}
use Rattle.base.specs.Sets.{Set}
use Rattle.base.specs.Found.{found}
use Rattle.plan.specs.Plan.{Plan}
use Rattle.plan.specs.Positions.{range_plan}
use Rattle.party.specs.Party.{Party, new_party}
use Rattle.board_pair.specs.Pair.{pair_questions}
use Rattle.agreement.specs.History.{Instance, plain, start, restore, calls, cut, History, running, board_after}
use Rattle.agreement.specs.Demand.{Complete, Premises}
use Rattle.agreement.specs.Ranges.{apart, Input}
use Rattle.agreement_histories.specs.Scripts.{Action, sets_up, starts, lent, lent_back, history_of}
use Rattle.agreement_histories.specs.Grades as grades
use Rattle.agreement_pair.specs.History.{Coordinate, first, second, Seats, PairHistory, in_vote, reads_pair, history_in, within, in_both}
use Rattle.agreement_pair.specs.Demand.{SoundInBoth, pair_now, PairAnswers, PairPremises}
use Rattle.agreement_pair.specs.Example.{both}

-- ---- one_journal: a pair reading is a reading in the first vote only

unfoldable pub without_pair_readings : PairHistory → PairHistory
without_pair_readings [] = []
without_pair_readings (in_vote c s ∷ h) = in_vote c s ∷ without_pair_readings h
without_pair_readings (reads_pair own p ∷ h) = without_pair_readings h

abbrev pub guarding_one : Coordinate → PairHistory → History
guarding_one first h = history_in first h
guarding_one second h = history_in second (without_pair_readings h)

-- all the same, a pair reading is asked of the board's own two records
abbrev pub OwnRecords : PairHistory → Type 0
OwnRecords [] = Unit {0}
OwnRecords (in_vote c s ∷ h) = OwnRecords h
OwnRecords (reads_pair own p ∷ h) =
    ((c : Coordinate) → ((board_after (guarding_one c h) (own c)).stage ≡ running) × (p c ≡ (board_after (guarding_one c h) (own c)).party)) × OwnRecords h

-- a pair answer that was read lies between sound readings
abbrev pub OneJournal : Type 0
OneJournal =
    (v : Coordinate → Instance) (plan : Coordinate → Plan) (bad : Coordinate → Set) (h : PairHistory)
    → ((c : Coordinate) → Premises (v c) (plan c) (bad c) (guarding_one c h)) → OwnRecords h → ((c : Coordinate) → (plan c).kind ≡ 2)
    → ((v first).agreement ≡ (v second).agreement → ⊥) → (own : Seats) (y : Coordinate → ℤ) → SoundInBoth v bad own
    → (p : Coordinate → Party) → Memᴰ (reads_pair own p) h → pair_questions (p first) (p second) ≡ found (Some (y first, y second))
    → (c : Coordinate)
    → (a : ℤ) × (b : ℤ) × Input (v c) (plan c) (bad c) (guarding_one c h) a × Input (v c) (plan c) (bad c) (guarding_one c h) b × (a ≤ℤ y c) × (y c ≤ℤ b)

-- A board alone votes twice on the readings 0 and 1. It starts both votes at 0 and reads the pair (0, 0). Its power goes, in both votes at once: the cut leaves
-- the guarded bytes of the first journal, and takes the record of its start in the second vote. It restores both, and starts the second vote at 1.
abbrev pub alone : ℕ → Instance
alone agreement = record { n = 1; t = 0; agreement = agreement; plan = 2 ∷ 0 ∷ 1 ∷ [] }

abbrev pub vote : Coordinate → Instance
vote first = alone 1
vote second = alone 2

abbrev pub plan : Coordinate → Plan
plan c = range_plan offset_zero 1

abbrev pub bad : Coordinate → Set
bad c = λ _. false

abbrev pub begins : List Action
begins = sets_up 0 ∷ starts 0 (pos 0) ∷ []

abbrev pub begun : Coordinate → History
begun c = history_of (vote c) begins

abbrev pub record_of : Coordinate → Party
record_of c = (board_after (begun c) 0).party

abbrev pub power_goes : Coordinate → History
power_goes first = cut 0 3 ∷ []
power_goes second = cut 0 0 ∷ []

abbrev pub starts_anew : Coordinate → History
starts_anew first = calls 0 (restore 1 0 0 1 (vote first).plan (lent_back (take 3 (board_after (begun first) 0).journal))) ∷ []
starts_anew second =
    calls 0 (start (new_party 1 0 0 2 (plan second)) (plain (pos 1)) (lent []) 0)
    ∷ calls 0 (restore 1 0 0 2 (vote second).plan (lent_back []))
    ∷ []

abbrev pub lost : PairHistory
lost = in_both starts_anew ++ (in_both power_goes ++ (reads_pair (both 0) record_of ∷ in_both begun))

-- ---- same_reading: false of the history of `Example`

abbrev pub SameReading : Type 0
SameReading =
    (v : Coordinate → Instance) (plan : Coordinate → Plan) (bad : Coordinate → Set) (h : PairHistory) → PairPremises v plan bad h
    → (own own' : Seats) (y z : Coordinate → ℤ) → SoundInBoth v bad own → SoundInBoth v bad own' → PairAnswers v h own y → PairAnswers v h own' z
    → (c : Coordinate) → apart (y c) (z c) ≤ 0

-- ---- one_complete: the first vote is complete

abbrev pub OneComplete : Type 0
OneComplete =
    (v : Coordinate → Instance) (plan : Coordinate → Plan) (bad : Coordinate → Set) (h : PairHistory) → PairPremises v plan bad h
    → Complete (v first) (bad first) (history_in first h) → (own : Seats) → SoundInBoth v bad own
    → (y : Coordinate → ℤ) × (pair_now v h own ≡ Some (y first, y second))

-- the board alone starts the first vote, and has not set up the second
abbrev pub half : PairHistory
half = within first (begun first)

-- ---- inputs_of_both: each reading lies between those of boards that are sound in both votes, of boards with the same number in both

-- faulty in one of the votes, or in both
abbrev pub in_either : (Coordinate → Set) → Set
in_either bad = λ i. bad first i || bad second i

abbrev pub InputsOfBoth : Type 0
InputsOfBoth =
    (v : Coordinate → Instance) (plan : Coordinate → Plan) (bad : Coordinate → Set) (h : PairHistory) → PairPremises v plan bad h
    → (i : ℕ) (y : Coordinate → ℤ) → SoundInBoth v bad (both i) → PairAnswers v h (both i) y → (c : Coordinate)
    → (a : ℤ) × (b : ℤ) × Input (v c) (plan c) (in_either bad) (history_in c h) a × Input (v c) (plan c) (in_either bad) (history_in c h) b × (a ≤ℤ y c) × (y c ≤ℤ b)

-- Boards 0 and 1 hold the first vote, start it at 2 and 0, and board 0 answers 1. In the second board 1 is faulty, and board 0 has started it with 0. So board 0
-- has the pair (1, 0), and alone of the boards sound in both it started the first vote: with 2.
abbrev pub mixed_vote : Coordinate → Instance
mixed_vote first = grades.vote
mixed_vote second = record { n = 4; t = 1; agreement = 2; plan = 2 ∷ 0 ∷ 1 ∷ [] }

abbrev pub mixed_plan : Coordinate → Plan
mixed_plan first = grades.plan
mixed_plan second = plan second

abbrev pub mixed_bad : Coordinate → Set
mixed_bad first = grades.bad
mixed_bad second = eqb 1

abbrev pub mixed_script : Coordinate → List Action
mixed_script first = grades.script
mixed_script second = begins

abbrev pub mixed : PairHistory
mixed = in_both (λ c. history_of (mixed_vote c) (mixed_script c))
