-- Votes by counts. In the first, for every g that passes, the count answers are 2g apart, so that no smaller bound holds at any g (`Nearer` in Claims). In the
-- second messages pull the boards to other steps than their own, and both read a count that none started with. In the third a board's start is lost, and its
-- count answer is that of its next start.
use Rattle.std.specs.Prelude.{◌≡◌, false, List, [], ◌∷◌, ℕ, zero, suc, ◌+◌, ◌*◌, ◌/◌, T, ℤ, pos, negsuc, neg_ℤ, Some}
use Rattle.base.specs.Limits.{offset_zero}
use Rattle.base.specs.Sets.{Set}
use Rattle.rounding.specs.Rounding.{size_passes}
use Rattle.plan.specs.Plan.{Plan}
use Rattle.plan.specs.Positions.{range_plan}
use Rattle.agreement.specs.History.{Instance, History}
use Rattle.agreement.specs.Allowed.{Sound}
use Rattle.agreement.specs.Demand.{Complete, Premises}
use Rattle.agreement.specs.Ranges.{apart}
use Rattle.agreement_histories.specs.Scripts.{Action, sets_up, starts, starts_count, takes, reads, reads_count, sends, cuts, restores, restores_torn, tries, history_of}
use Rattle.agreement_histories.specs.Grades as grades
use Rattle.agreement_counts.specs.Demand.{StartedByCount, OnlyCounts, count_now, CountAnswers}

-- all is delivered, sound boards started only by counts at g, board i by the one given, and these are the count answers
pub record CountsEnd (v : Instance) (plan : Plan) (bad : Set) (g : ℕ) (h : History) (count answer : ℕ → ℤ) : Type 0 where
  pub premises : Premises v plan bad h
  pub complete : Complete v bad h
  pub only : OnlyCounts v bad g h
  pub started : (i : ℕ) → Sound v bad i → StartedByCount h i g (count i)
  pub answers : (i : ℕ) → Sound v bad i → count_now v h i g (count i) ≡ Some (answer i)

-- ---- 2g apart

-- Two boards vote on the readings 0 and 1, in steps of g counts. They start with the counts -g/2 and g + g/2, half a step outside of 0 and g: each answers its
-- own step at once, and reads its own count.
abbrev pub vote : Instance
vote = record { n = 2; t = 0; agreement = 1; plan = 2 ∷ 0 ∷ 1 ∷ [] }

abbrev pub plan : Plan
plan = range_plan offset_zero 1

abbrev pub bad : Set
bad = λ _. false

abbrev pub count : ℕ → ℕ → ℤ
count g zero = neg_ℤ (pos (g / 2))
count g (suc i) = pos (g + g / 2)

abbrev pub script : ℕ → List Action
script g =
    sets_up 0
    ∷ sets_up 1
    ∷ starts_count 0 g (count g 0)
    ∷ starts_count 1 g (count g 1)
    ∷ reads_count 0 g (count g 0)
    ∷ reads_count 1 g (count g 1)
    ∷ []

pub record ReachedAt (g : ℕ) : Type 0 where
  pub ends : CountsEnd vote plan bad g (history_of vote (script g)) (count g) (count g)
  pub answers : (i : ℕ) → Sound vote bad i → CountAnswers vote (history_of vote (script g)) i g (count g i)
  pub reached : apart (count g 0) (count g 1) ≡ 2 * g

abbrev pub BoundReached : Type 0
BoundReached = (g : ℕ) → T (size_passes g) → ReachedAt g

-- ---- pulled to other steps

-- a script with other starts
abbrev pub starting_as : (ℕ → ℤ → Action) → Action → Action
starting_as f (sets_up i) = sets_up i
starting_as f (starts i z) = f i z
starting_as f (starts_count i g c) = starts_count i g c
starting_as f (takes i s m) = takes i s m
starting_as f (reads i) = reads i
starting_as f (reads_count i g c) = reads_count i g c
starting_as f (sends i m) = sends i m
starting_as f (cuts i k) = cuts i k
starting_as f (restores i) = restores i
starting_as f (restores_torn i tail) = restores_torn i tail
starting_as f (tries i k c) = tries i k c

unfoldable pub with_starts : (ℕ → ℤ → Action) → List Action → List Action
with_starts f [] = []
with_starts f (a ∷ rest) = starting_as f a ∷ with_starts f rest

-- Two boards vote on the readings 0 to 2 (`agreement_histories`, Grades), in steps of 4 counts. They start with the counts 10 and -2, at the steps 2 and 0, and
-- answer the steps 1 and 2. Board 0 reads the lesser of 4 + 2 and 10, board 1 the greater of 8 - 2 and -2: both read 6.
abbrev pub pulled_count : ℕ → ℤ
pulled_count zero = pos 10
pulled_count (suc i) = negsuc 1

abbrev pub pulled_script : List Action
pulled_script = with_starts (λ i z. starts_count i 4 (pulled_count i)) grades.script

abbrev pub Pulled : Type 0
Pulled = CountsEnd grades.vote grades.plan grades.bad 4 (history_of grades.vote pulled_script) pulled_count (λ i. pos 6)

-- ---- the count of the own start not lost

-- A board alone votes on the readings 0 and 1, in steps of 2 counts. It starts with the count -1, and a cut loses this start; restored, it starts with the count
-- 3 and reads 3. After a cut that leaves the 3 bytes of that start its count answer is still 3. Given back -1 it would be 1.
abbrev pub alone : Instance
alone = record { n = 1; t = 0; agreement = 1; plan = 2 ∷ 0 ∷ 1 ∷ [] }

abbrev pub anew_script : List Action
anew_script =
    sets_up 0
    ∷ starts_count 0 2 (negsuc 0)
    ∷ cuts 0 0
    ∷ restores 0
    ∷ starts_count 0 2 (pos 3)
    ∷ reads_count 0 2 (pos 3)
    ∷ cuts 0 3
    ∷ []

pub record Anew : Type 0 where
  pub ends : CountsEnd alone plan bad 2 (history_of alone anew_script) (λ i. pos 3) (λ i. pos 3)
  pub lost : StartedByCount (history_of alone anew_script) 0 2 (negsuc 0) → ⊥
  pub given_lost : count_now alone (history_of alone anew_script) 0 2 (negsuc 0) ≡ Some (pos 1)
