-- Document 02, Q-6: "Where sound boards start only by counts at one g, their count answers are at most 2g apart and between the least and greatest sound
-- counts.", of demand 3's histories.
use Rattle.std.specs.Prelude.{◌≡◌, ◌⊎◌, ℕ, ◌*◌, ◌≤◌, ℤ, ◌≤ℤ◌, Some}
use mathlib.Core.List.{Memᴰ}
use Rattle.base.specs.Sets.{Set}
use Rattle.plan.specs.Plan.{Plan}
use Rattle.party.specs.Party.{Party}
use Rattle.agreement.specs.History.{Instance, StartInput, by_count, read_count, read_as_count, calls, History}
use Rattle.agreement.specs.Allowed.{Sound}
use Rattle.agreement.specs.Demand.{StartedBy, party_now, Complete, Premises}
use Rattle.agreement.specs.Ranges.{apart}
use Rattle.board_calls.specs.Answers.{Answer}

-- board i started with the count c, in steps of g counts, in an accepted call not lost
abbrev pub StartedByCount : History → ℕ → ℕ → ℤ → Type 0
StartedByCount h i g c = (x : ℕ) × StartedBy h i x (by_count g c)

-- "Where sound boards start only by counts at one g": every start of a sound board that is not lost is one
abbrev pub OnlyCounts : Instance → Set → ℕ → History → Type 0
OnlyCounts v bad g h = (i x : ℕ) (input : StartInput) → Sound v bad i → StartedBy h i x input → (c : ℤ) × (input ≡ by_count g c)

-- a sound count: one that a sound board started with
abbrev pub SoundCount : Instance → Set → ℕ → History → ℤ → Type 0
SoundCount v bad g h c = (i : ℕ) × Sound v bad i × StartedByCount h i g c

-- ---- count answers

-- "From step answer y and the start's count c, which the caller keeps": what a reading of board i by the count c gives or, after a cut, would give once restored
abbrev pub count_now : Instance → History → ℕ → ℕ → ℤ → Answer
count_now v h i g c = (read_as_count (party_now v h i) g c).answer

-- board i's count answer is a, held then or read earlier, where its caller gives back the count of its own start not lost
abbrev pub CountAnswers : Instance → History → ℕ → ℕ → ℤ → Type 0
CountAnswers v h i g a =
    (c : ℤ) × StartedByCount h i g c
    × ((count_now v h i g c ≡ Some a) ⊎ ((p : Party) × Memᴰ (calls i (read_count p g c)) h × ((read_as_count p g c).answer ≡ Some a)))

-- ---- the demand

-- what holds after a list of steps
pub record CountsHold (v : Instance) (bad : Set) (g : ℕ) (h : History) : Type 0 where
  -- "their count answers are at most 2g apart"
  pub near : (i j : ℕ) (a b : ℤ) → Sound v bad i → Sound v bad j → CountAnswers v h i g a → CountAnswers v h j g b → apart a b ≤ 2 * g
  -- "and between the least and greatest sound counts": between two sound counts, which may be the same one
  pub between : (i : ℕ) (a : ℤ) → Sound v bad i → CountAnswers v h i g a
      → (p : ℤ) × (q : ℤ) × SoundCount v bad g h p × SoundCount v bad g h q × (p ≤ℤ a) × (a ≤ℤ q)
  -- once delivery is complete each sound board has a count answer
  pub ending : Complete v bad h → (i : ℕ) → Sound v bad i → (c : ℤ) × (a : ℤ) × StartedByCount h i g c × (count_now v h i g c ≡ Some a)

-- nothing is asked of the plan and of g: a start by count is accepted on ranges only, and only where g passes
abbrev pub CountsDemand : Type 0
CountsDemand = (v : Instance) (plan : Plan) (bad : Set) (g : ℕ) (h : History) → Premises v plan bad h → OnlyCounts v bad g h → CountsHold v bad g h

-- ---- what makes this believable

-- a board has one start that is not lost: so the count that its caller gives back is one
abbrev pub OneStart : Type 0
OneStart =
    (v : Instance) (plan : Plan) (bad : Set) (h : History) → Premises v plan bad h → (i x y : ℕ) (input input' : StartInput) → Sound v bad i
    → StartedBy h i x input → StartedBy h i y input' → (x ≡ y) × (input ≡ input')

-- a count answer once read is the board's ever after, whatever cuts came between
abbrev pub CountStays : Type 0
CountStays =
    (v : Instance) (plan : Plan) (bad : Set) (h : History) → Premises v plan bad h → (i g : ℕ) (c a : ℤ) (p : Party) → Sound v bad i
    → Memᴰ (calls i (read_count p g c)) h → (read_as_count p g c).answer ≡ Some a → count_now v h i g c ≡ Some a
