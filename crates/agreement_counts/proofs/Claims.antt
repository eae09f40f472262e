-- What the must-fail edits claim is false: count answers less than 2g apart, starts that are no counts at g, a count that is not the own start's.
use mathlib.Core.Path.{◌≡◌, refl, ◌∙◌, subst}
use mathlib.Core.Logic.{inl}
use mathlib.Core.Bool.{true}
use mathlib.Core.List.{List, [], ◌∷◌}
use Prim.Native.Nat.{ℕ, zero, suc, ◌<◌}
use native.Mathlib.Omega.{arith}
use lib.Dec.{T}
use lib.IntN.{ℤ, pos, negsuc}
use lib.Signed.{◌≤ℤ◌}
use Rattle.std.specs.Prelude.{Some}
use Rattle.rounding.specs.Rounding.{size_passes}
use Rattle.agreement.specs.History.{StartInput, plain, by_count, History}
use Rattle.agreement.specs.Allowed.{Sound}
use Rattle.agreement.specs.Demand.{StartedBy, Premises}
use Rattle.agreement_histories.specs.Scripts.{history_of}
use Rattle.agreement_histories.specs.Grades as grades
use Rattle.agreement_histories.proofs.Worlds.{board_of}
use Rattle.agreement_histories.proofs.Passing.{passes, ending, premises_of}
use Rattle.agreement_histories.proofs.Computing.{computing}
use Rattle.agreement_counts.specs.Demand.{SoundCount, CountAnswers}
use Rattle.agreement_counts.specs.Example.{vote, plan, bad, count, script, ReachedAt, with_starts, alone}
use Rattle.agreement_counts.specs.Claims.{Nearer, BetweenCounts, OtherStarts, OtherSizes, beside_script, AnyCount, begins}
use Rattle.agreement_counts.proofs.Inputs.{inputs_in, count_in, started_by_lem, only_by, count_now_lem}
use Rattle.agreement_counts.proofs.Reached.{bound_reached}

-- ---- nearer

pub nearer : (g : ℕ) → T (size_passes g) → Nearer g → ⊥
nearer g ok claim =
    let d = claim vote plan bad (history_of vote (script g)) r.ends.premises r.ends.only 0 1 (count g 0) (count g 1) zeroth first
    (r.answers 0 zeroth) (r.answers 1 first) in
    omega (arith, r.reached)
  where
    r : ReachedAt g
    r = bound_reached g ok

    zeroth : Sound vote bad 0
    zeroth = (omega arith, tt)

    first : Sound vote bad 1
    first = (omega arith, tt)

-- ---- other starts

-- what board i starts with, where board 0 starts with this input
abbrev input_at : StartInput → ℕ → StartInput
input_at input zero = input
input_at input (suc i) = by_count 4 (negsuc 1)

abbrev of : StartInput → History
of input = history_of grades.vote (beside_script input)

module _ (input : StartInput) (f : passes grades.vote grades.bad (beside_script input) ≡ true)
    (inputs : (i : ℕ) → i < 2 → inputs_in (board_of (ending grades.vote (beside_script input)) i).counted ≡ input_at input i ∷ [])
    (six : count_in grades.vote (ending grades.vote (beside_script input)) 1 4 (negsuc 1) ≡ Some (pos 6)) where
  premises : Premises grades.vote grades.plan grades.bad (history_of grades.vote (beside_script input))
  unfolding computing
  premises = premises_of grades.vote grades.bad (beside_script input) f grades.plan refl refl

  -- board 1 reads 6, and no sound count but its own is one in steps of 4
  beyond : ((c : ℤ) → by_count 4 c ≡ input → ⊥)
      → BetweenCounts grades.vote grades.bad 4 (history_of grades.vote (beside_script input)) (λ i a. CountAnswers grades.vote (of input) i 4 a) → ⊥
  beyond differ claim =
      let r = claim 1 (pos 6) (omega arith, tt) (
        negsuc 1,
        started_by_lem grades.vote grades.bad (beside_script input) f 1 (by_count 4 (negsuc 1)) (inputs 1 (omega arith)),
        inl (count_now_lem grades.vote grades.bad (beside_script input) f 1 4 (negsuc 1) ∙ six),
      ) in
      none r.1 r.3 r.5
    where
      none : (q : ℤ) → SoundCount grades.vote grades.bad 4 (of input) q → pos 6 ≤ℤ q → ⊥
      none q (zero, o, s) l = differ q (only_by grades.vote grades.bad (beside_script input) f 0 input (inputs 0 o.0) s.0 (by_count 4 q) s.1)
      none q (suc zero, o, s) l =
          let e = only_by grades.vote grades.bad (beside_script input) f 1 (by_count 4 (negsuc 1)) (inputs 1 o.0) s.0 (by_count 4 q) s.1 in
          let n : q ≡ negsuc 1 = cc in
          (subst (λ (z : ℤ). pos 6 ≤ℤ z) n l).le
      none q (suc (suc i), o, s) l = absurd (omega (arith, o.0))

-- by a reading

plain_passes : passes grades.vote grades.bad (beside_script (plain (pos 2))) ≡ true
unfolding computing grades.script with_starts
plain_passes = refl

plain_inputs : (i : ℕ) → i < 2 → inputs_in (board_of (ending grades.vote (beside_script (plain (pos 2)))) i).counted ≡ input_at (plain (pos 2)) i ∷ []
unfolding computing inputs_in grades.script with_starts
plain_inputs zero l = refl
plain_inputs (suc zero) l = refl
plain_inputs (suc (suc i)) l = absurd (omega arith)

plain_six : count_in grades.vote (ending grades.vote (beside_script (plain (pos 2)))) 1 4 (negsuc 1) ≡ Some (pos 6)
unfolding computing grades.script with_starts
plain_six = refl

pub other_starts : OtherStarts → ⊥
other_starts claim =
    beyond (plain (pos 2)) plain_passes plain_inputs plain_six
    (λ c e. let o : ◌≡◌ {A = ℕ} 0 1 = cc in omega arith)
    (claim grades.vote grades.plan grades.bad 4 (of (plain (pos 2))) (premises (plain (pos 2)) plain_passes plain_inputs plain_six))

-- by a count in other steps

size_passes_lem : passes grades.vote grades.bad (beside_script (by_count 2 (pos 4))) ≡ true
unfolding computing grades.script with_starts
size_passes_lem = refl

size_inputs : (i : ℕ) → i < 2 → inputs_in (board_of (ending grades.vote (beside_script (by_count 2 (pos 4)))) i).counted ≡ input_at (by_count 2 (pos 4)) i ∷ []
unfolding computing inputs_in grades.script with_starts
size_inputs zero l = refl
size_inputs (suc zero) l = refl
size_inputs (suc (suc i)) l = absurd (omega arith)

size_six : count_in grades.vote (ending grades.vote (beside_script (by_count 2 (pos 4)))) 1 4 (negsuc 1) ≡ Some (pos 6)
unfolding computing grades.script with_starts
size_six = refl

pub other_sizes : OtherSizes → ⊥
other_sizes claim =
    beyond (by_count 2 (pos 4)) size_passes_lem size_inputs size_six
    (λ c e. let o : ◌≡◌ {A = ℕ} 4 2 = cc in omega arith)
    (claim grades.vote grades.plan grades.bad 4 (of (by_count 2 (pos 4))) (premises (by_count 2 (pos 4)) size_passes_lem size_inputs size_six) counts)
  where
    counts : (i x : ℕ) (input : StartInput) → Sound grades.vote grades.bad i → StartedBy (of (by_count 2 (pos 4))) i x input → (k : ℕ) × (c : ℤ) × (input ≡ by_count k c)
    counts zero x input o s =
        (2, pos 4, only_by grades.vote grades.bad (beside_script (by_count 2 (pos 4))) size_passes_lem 0 (by_count 2 (pos 4)) (size_inputs 0 o.0) x input s)
    counts (suc zero) x input o s =
        (4, negsuc 1, only_by grades.vote grades.bad (beside_script (by_count 2 (pos 4))) size_passes_lem 1 (by_count 4 (negsuc 1)) (size_inputs 1 o.0) x input s)
    counts (suc (suc i)) x input o s = absurd (omega (arith, o.0))

-- ---- any count

begins_passes : passes alone bad begins ≡ true
unfolding computing
begins_passes = refl

begins_input : inputs_in (board_of (ending alone begins) 0).counted ≡ by_count 2 (pos 0) ∷ []
unfolding computing inputs_in
begins_input = refl

one : count_in alone (ending alone begins) 0 2 (pos 3) ≡ Some (pos 1)
unfolding computing
one = refl

begins_premises : Premises alone plan bad (history_of alone begins)
unfolding computing
begins_premises = premises_of alone bad begins begins_passes plan refl refl

-- the board started with the count 0, and with nothing else
only_zero : (i x : ℕ) (input : StartInput) → Sound alone bad i → StartedBy (history_of alone begins) i x input → input ≡ by_count 2 (pos 0)
only_zero zero x input o s = only_by alone bad begins begins_passes 0 (by_count 2 (pos 0)) begins_input x input s
only_zero (suc i) x input o s = absurd (omega (arith, o.0))

pub any_count : AnyCount → ⊥
any_count claim =
    let r = claim alone plan bad 2 (history_of alone begins) begins_premises (λ i x input o s. (pos 0, only_zero i x input o s)) 0 (pos 1) (omega arith, tt)
    (pos 3, (pos 0, started_by_lem alone bad begins begins_passes 0 (by_count 2 (pos 0)) begins_input), count_now_lem alone bad begins begins_passes 0 2 (pos 3) ∙ one) in
    above r.1 r.3 r.5
  where
    above : (q : ℤ) → SoundCount alone bad 2 (history_of alone begins) q → pos 1 ≤ℤ q → ⊥
    above q (i, o, s) l =
        let e = only_zero i s.0 (by_count 2 q) o s.1 in
        let n : q ≡ pos 0 = cc in
        (subst (λ (z : ℤ). pos 1 ≤ℤ z) n l).le
