-- Document 02, Q-13: "Answers are at most 1 apart in each reading, and each reading lies between sound ones", of histories of both votes together.
use Rattle.std.specs.Prelude.{◌≡◌, ◌⊎◌, ◌↔◌, ℕ, ◌≤◌, ℤ, length, ◌≤ℤ◌, Some}
use mathlib.Core.List.{◌∷◌, Memᴰ}
use Rattle.base.specs.Sets.{Set}
use Rattle.base.specs.Found.{found}
use Rattle.plan.specs.Plan.{Plan}
use Rattle.party.specs.Party.{Party}
use Rattle.board_pair.specs.Pair.{pair_questions, pair_gives, PairAnswer}
use Rattle.agreement.specs.History.{Instance, History, board_after}
use Rattle.agreement.specs.Allowed.{Sound}
use Rattle.agreement.specs.Demand.{party_now, answer_now, Complete, Premises}
use Rattle.agreement.specs.Ranges.{apart, Input}
use Rattle.agreement_pair.specs.History.{Coordinate, first, second, Seats, PairHistory, reads_pair, history_in}

-- sound means sound in both votes
abbrev pub SoundInBoth : (Coordinate → Instance) → (Coordinate → Set) → Seats → Type 0
SoundInBoth v bad own = (c : Coordinate) → Sound (v c) (bad c) (own c)

-- ---- answers

abbrev pub pair_now : (Coordinate → Instance) → PairHistory → Seats → PairAnswer
pair_now v h own =
    (pair_gives (pair_questions (party_now (v first) (history_in first h) (own first)) (party_now (v second) (history_in second h) (own second)))).answer

-- a board answers with the readings y: held then or read earlier
abbrev pub PairAnswers : (Coordinate → Instance) → PairHistory → Seats → (Coordinate → ℤ) → Type 0
PairAnswers v h own y =
    (pair_now v h own ≡ Some (y first, y second))
    ⊎ ((p : Coordinate → Party) × Memᴰ (reads_pair own p) h × (pair_questions (p first) (p second) ≡ found (Some (y first, y second))))

-- ---- the demand

-- what holds after a list of steps of both votes
pub record PairHolds (v : Coordinate → Instance) (plan : Coordinate → Plan) (bad : Coordinate → Set) (h : PairHistory) : Type 0 where
  -- "Answers are at most 1 apart in each reading"
  pub near : (own own' : Seats) (y z : Coordinate → ℤ) → SoundInBoth v bad own → SoundInBoth v bad own' → PairAnswers v h own y → PairAnswers v h own' z
      → (c : Coordinate) → apart (y c) (z c) ≤ 1
  -- "and each reading lies between sound ones": two readings with which boards sound in that vote started it, which may be the same one
  pub validity : (own : Seats) (y : Coordinate → ℤ) → SoundInBoth v bad own → PairAnswers v h own y → (c : Coordinate)
      → (p : ℤ) × (q : ℤ) × Input (v c) (plan c) (bad c) (history_in c h) p × Input (v c) (plan c) (bad c) (history_in c h) q × (p ≤ℤ y c) × (y c ≤ℤ q)
  -- when both votes are complete every sound board has a pair answer
  pub ending : ((c : Coordinate) → Complete (v c) (bad c) (history_in c h)) → (own : Seats) → SoundInBoth v bad own
      → (y : Coordinate → ℤ) × (pair_now v h own ≡ Some (y first, y second))

-- what is asked first
pub record PairPremises (v : Coordinate → Instance) (plan : Coordinate → Plan) (bad : Coordinate → Set) (h : PairHistory) : Type 0 where
  -- demand 3's premises of each vote, with its own settings, plan and faulty boards
  pub votes : (c : Coordinate) → Premises (v c) (plan c) (bad c) (history_in c h)
  -- "two range votes under two agreement numbers"
  pub ranges : (c : Coordinate) → (plan c).kind ≡ 2
  pub numbers : (v first).agreement ≡ (v second).agreement → ⊥

abbrev pub PairDemand : Type 0
PairDemand = (v : Coordinate → Instance) (plan : Coordinate → Plan) (bad : Coordinate → Set) (h : PairHistory) → PairPremises v plan bad h → PairHolds v plan bad h

-- "and answers exactly when both have": `Exact` (board_pair) says it of any two records, and this of a sound board in a history
abbrev pub PairExactly : Type 0
PairExactly =
    (v : Coordinate → Instance) (plan : Coordinate → Plan) (bad : Coordinate → Set) (h : PairHistory) → PairPremises v plan bad h
    → (own : Seats) (y : Coordinate → ℤ) → SoundInBoth v bad own
    → (pair_now v h own ≡ Some (y first, y second)) ↔ ((c : Coordinate) → answer_now (v c) (history_in c h) (own c) ≡ Some (y c))

-- a pair once read is the board's pair ever after, whatever cuts came between
abbrev pub PairStays : Type 0
PairStays =
    (v : Coordinate → Instance) (plan : Coordinate → Plan) (bad : Coordinate → Set) (h : PairHistory) → PairPremises v plan bad h
    → (own : Seats) (y : Coordinate → ℤ) → SoundInBoth v bad own → PairAnswers v h own y → pair_now v h own ≡ Some (y first, y second)

-- What is guarded right after a pair reading: if it gave an answer, every byte that either journal then had; otherwise nothing new, since it is a step of neither
-- vote. `PairStays` says that the pair stays.
pub record PairGuards (own : Seats) (p : Coordinate → Party) (h : PairHistory) : Type 0 where
  pub guards : (y : Coordinate → ℤ) → pair_questions (p first) (p second) ≡ found (Some (y first, y second)) → (c : Coordinate)
      → (board_after (history_in c (reads_pair own p ∷ h)) (own c)).guarded ≡ length (board_after (history_in c h) (own c)).journal
  pub otherwise : ((y : Coordinate → ℤ) → pair_questions (p first) (p second) ≡ found (Some (y first, y second)) → ⊥) → (c : Coordinate)
      → history_in c (reads_pair own p ∷ h) ≡ history_in c h
