-- Why the ending asks for two agreement numbers and for ranges: without either of them it is false.
use Rattle.std.specs.Prelude.{◌≡◌, [], ◌∷◌, ℤ, Some}
use Rattle.base.specs.Sets.{Set}
use Rattle.plan.specs.Plan.{Plan}
use Rattle.plan.specs.Positions.{tree_plan}
use Rattle.agreement.specs.History.{Instance}
use Rattle.agreement.specs.Demand.{Complete, Premises}
use Rattle.agreement_histories.specs.Scripts.{history_of}
use Rattle.agreement_pair.specs.History.{Coordinate, first, second, Seats, PairHistory, history_in, in_both}
use Rattle.agreement_pair.specs.Demand.{SoundInBoth, pair_now}
use Rattle.agreement_pair.specs.Claims.{alone, begins}

-- `ending` of `PairHolds`
abbrev pub Ends : (Coordinate → Instance) → (Coordinate → Set) → PairHistory → Type 0
Ends v bad h =
    ((c : Coordinate) → Complete (v c) (bad c) (history_in c h)) → (own : Seats) → SoundInBoth v bad own
    → (y : Coordinate → ℤ) × (pair_now v h own ≡ Some (y first, y second))

-- a board alone starts both votes at 0
abbrev pub started : (Coordinate → Instance) → PairHistory
started v = in_both (λ c. history_of (v c) begins)

-- ---- without `numbers`: two votes under the number 1 are refused with 27

abbrev pub WithoutNumbers : Type 0
WithoutNumbers =
    (v : Coordinate → Instance) (plan : Coordinate → Plan) (bad : Coordinate → Set) (h : PairHistory)
    → ((c : Coordinate) → Premises (v c) (plan c) (bad c) (history_in c h)) → ((c : Coordinate) → (plan c).kind ≡ 2) → Ends v bad h

abbrev pub same_number : Coordinate → Instance
same_number c = alone 1

-- ---- without `ranges`: two votes on the tree of two vertices are refused with 12

abbrev pub WithoutRanges : Type 0
WithoutRanges =
    (v : Coordinate → Instance) (plan : Coordinate → Plan) (bad : Coordinate → Set) (h : PairHistory)
    → ((c : Coordinate) → Premises (v c) (plan c) (bad c) (history_in c h)) → ((v first).agreement ≡ (v second).agreement → ⊥) → Ends v bad h

abbrev pub on_tree : Coordinate → Instance
on_tree first = record { n = 1; t = 0; agreement = 1; plan = 1 ∷ 2 ∷ 0 ∷ 1 ∷ [] }
on_tree second = record { n = 1; t = 0; agreement = 2; plan = 1 ∷ 2 ∷ 0 ∷ 1 ∷ [] }

abbrev pub tree_of_two : Coordinate → Plan
tree_of_two c = tree_plan 2 (record { one = 0; two = 1 } ∷ [])
