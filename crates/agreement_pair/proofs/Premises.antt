-- The ending is false without two agreement numbers, and without ranges.
use mathlib.Core.Path.{◌≡◌, refl, sym, ap, ◌∙◌, subst}
use mathlib.Core.Bool.{true}
use Prim.Native.Nat.{ℕ}
use native.Mathlib.Omega.{arith}
use Rattle.std.specs.Prelude.{Some, None}
use Rattle.base.specs.Found.{Found, found, refused}
use Rattle.plan.specs.Plan.{Plan}
use Rattle.plan.specs.Reading.{plan_of}
use Rattle.board_pair.specs.Pair.{pair_questions, pair_gives, PairAnswer}
use Rattle.agreement.specs.History.{Instance}
use Rattle.agreement.specs.Demand.{party_now, Complete, Premises}
use Rattle.agreement_histories.specs.Scripts.{history_of}
use Rattle.agreement_histories.proofs.Passing.{passes, ending, settled, premises_of}
use Rattle.agreement_histories.proofs.Delivery.{full}
use Rattle.agreement_histories.proofs.Delivered.{complete}
use Rattle.agreement_histories.proofs.Computing.{computing}
use Rattle.agreement_pair.specs.History.{Coordinate, first, second, history_in}
use Rattle.agreement_pair.specs.Demand.{SoundInBoth}
use Rattle.agreement_pair.specs.Example.{both}
use Rattle.agreement_pair.specs.Claims.{plan, bad, begins}
use Rattle.agreement_pair.specs.Premises.{Ends, started, WithoutNumbers, same_number, WithoutRanges, on_tree, tree_of_two}
use Rattle.agreement_pair.proofs.Steps.{alone}

-- a board alone that has started both votes
module _ (v : Coordinate → Instance) (plan : Coordinate → Plan) (passing : (c : Coordinate) → passes (v c) (bad c) begins ≡ true) where
  started_in : (c : Coordinate) → history_in c (started v) ≡ history_of (v c) begins
  started_in = alone (λ c. history_of (v c) begins)

  premises : ((c : Coordinate) → settled (v c) (bad c) ≡ true) → ((c : Coordinate) → plan_of (v c).plan ≡ found (plan c))
      → (c : Coordinate) → Premises (v c) (plan c) (bad c) (history_in c (started v))
  premises f g c =
      subst (Premises (v c) (plan c) (bad c)) (sym (started_in c)) (premises_of (v c) (bad c) begins (passing c) (plan c) (f c) (g c))

  all_complete : ((c : Coordinate) → full (v c) (bad c) (ending (v c) begins) ≡ true) → (c : Coordinate) → Complete (v c) (bad c) (history_in c (started v))
  all_complete f c = subst (Complete (v c) (bad c)) (sym (started_in c)) (complete (v c) (bad c) begins (passing c) (f c))

-- the reading of its pair is refused
no_ending : (v : Coordinate → Instance) → ((c : Coordinate) → Complete (v c) (bad c) (history_in c (started v))) → SoundInBoth v bad (both 0) → (number : ℕ)
    → pair_questions (party_now (v first) (history_in first (started v)) 0) (party_now (v second) (history_in second (started v)) 0) ≡ refused number 0
    → Ends v bad (started v) → ⊥
no_ending v full g number e ends =
    let r = ends full (both 0) g in
    let n : None ≡ Some (r.0 first, r.0 second) = sym (ap (λ (f : Found PairAnswer). (pair_gives f).answer) e) ∙ r.1 in
    let o : ◌≡◌ {A = ℕ} 0 1 = cc in
    omega arith

-- ---- without two agreement numbers

pub without_numbers : WithoutNumbers → ⊥
unfolding computing pair_questions history_in
without_numbers claim =
    no_ending same_number (all_complete same_number plan (λ c. refl) (λ c. refl)) (λ c. (omega arith, tt)) 27 refl
    (claim same_number plan bad (started same_number) (premises same_number plan (λ c. refl) (λ c. refl) (λ c. refl)) (λ c. refl))

-- ---- without ranges

pub without_ranges : WithoutRanges → ⊥
unfolding computing pair_questions history_in
without_ranges claim =
    no_ending on_tree (all_complete on_tree tree_of_two passing delivered) sound 12 refl
    (claim on_tree tree_of_two bad (started on_tree) (premises on_tree tree_of_two passing settles reads) (λ e. omega arith))
  where
    passing : (c : Coordinate) → passes (on_tree c) (bad c) begins ≡ true
    passing first = refl
    passing second = refl

    delivered : (c : Coordinate) → full (on_tree c) (bad c) (ending (on_tree c) begins) ≡ true
    delivered first = refl
    delivered second = refl

    settles : (c : Coordinate) → settled (on_tree c) (bad c) ≡ true
    settles first = refl
    settles second = refl

    reads : (c : Coordinate) → plan_of (on_tree c).plan ≡ found (tree_of_two c)
    reads first = refl
    reads second = refl

    sound : SoundInBoth on_tree bad (both 0)
    sound first = (omega arith, tt)
    sound second = (omega arith, tt)
