-- The must-fail edits of this crate: what each of them claims, and the histories against it.
use Rattle.std.specs.Prelude.{◌≡◌, List, [], ◌∷◌, ℕ, zero, suc, ◌*◌, ◌<◌, ℤ, pos, negsuc, ◌≤ℤ◌, Some}
use Rattle.base.specs.Sets.{Set}
use Rattle.plan.specs.Plan.{Plan}
use Rattle.agreement.specs.History.{Instance, StartInput, plain, by_count, History}
use Rattle.agreement.specs.Allowed.{Sound}
use Rattle.agreement.specs.Demand.{StartedBy, Premises}
use Rattle.agreement.specs.Ranges.{apart}
use Rattle.agreement_histories.specs.Scripts.{Action, sets_up, starts, starts_count}
use Rattle.agreement_histories.specs.Grades as grades
use Rattle.agreement_counts.specs.Demand.{StartedByCount, OnlyCounts, SoundCount, count_now, CountAnswers}
use Rattle.agreement_counts.specs.Example.{with_starts}

-- ---- nearer: count answers less than 2g apart. At no g that passes it holds, by the history of `BoundReached`

abbrev pub Nearer : ℕ → Type 0
Nearer g =
    (v : Instance) (plan : Plan) (bad : Set) (h : History) → Premises v plan bad h → OnlyCounts v bad g h
    → (i j : ℕ) (a b : ℤ) → Sound v bad i → Sound v bad j → CountAnswers v h i g a → CountAnswers v h j g b → apart a b < 2 * g

-- ---- other_starts, other_sizes: sound boards may start otherwise

abbrev pub BetweenCounts : Instance → Set → ℕ → History → (ℕ → ℤ → Type 0) → Type 0
BetweenCounts v bad g h answers =
    (i : ℕ) (a : ℤ) → Sound v bad i → answers i a → (p : ℤ) × (q : ℤ) × SoundCount v bad g h p × SoundCount v bad g h q × (p ≤ℤ a) × (a ≤ℤ q)

-- by whatever they like
abbrev pub OtherStarts : Type 0
OtherStarts = (v : Instance) (plan : Plan) (bad : Set) (g : ℕ) (h : History) → Premises v plan bad h → BetweenCounts v bad g h (λ i a. CountAnswers v h i g a)

-- by counts, each in steps of its own size
abbrev pub OtherSizes : Type 0
OtherSizes =
    (v : Instance) (plan : Plan) (bad : Set) (g : ℕ) (h : History) → Premises v plan bad h
    → ((i x : ℕ) (input : StartInput) → Sound v bad i → StartedBy h i x input → (k : ℕ) × (c : ℤ) × (input ≡ by_count k c))
    → BetweenCounts v bad g h (λ i a. CountAnswers v h i g a)

-- Of the boards of `Pulled` board 1 starts with the count -2 as there, in steps of 4 counts, and board 0 at the step 2 by a reading, or by the count 4 in steps
-- of 2. Board 1 answers the step 2 and reads 6, and no count in steps of 4 but -2 was started with.
abbrev pub beside : StartInput → ℕ → ℤ → Action
beside (plain y) zero z = starts 0 y
beside (by_count g c) zero z = starts_count 0 g c
beside input (suc i) z = starts_count (suc i) 4 (negsuc 1)

abbrev pub beside_script : StartInput → List Action
beside_script input = with_starts (beside input) grades.script

-- ---- any_count: the caller gives back any count

abbrev pub AnswersByAny : Instance → History → ℕ → ℕ → ℤ → Type 0
AnswersByAny v h i g a = (c : ℤ) × ((b : ℤ) × StartedByCount h i g b) × (count_now v h i g c ≡ Some a)

abbrev pub AnyCount : Type 0
AnyCount =
    (v : Instance) (plan : Plan) (bad : Set) (g : ℕ) (h : History) → Premises v plan bad h → OnlyCounts v bad g h → BetweenCounts v bad g h (λ i a. AnswersByAny v h i g a)

-- A board alone votes on the readings 0 and 1, in steps of 2 counts, and starts with the count 0. Given back 3, it reads 1.
abbrev pub begins : List Action
begins = sets_up 0 ∷ starts_count 0 2 (pos 0) ∷ []
