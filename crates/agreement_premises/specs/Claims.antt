-- The must-fail edits of demand 3's own sentences (`agreement`, specs/Demand.antt, and of which calls count): what each of them claims, and the histories
-- against it.
use Rattle.std.specs.Prelude.{◌≡◌, List, [], ◌∷◌, ◌++◌, ℕ, suc, ◌*◌, ◌≤◌, ◌<◌, ltb, ℤ, pos, Ok, Some}
use Rattle.base.specs.Sets.{Set, count}
use Rattle.base.specs.Limits.{max_boards, max_number}
use Rattle.base.specs.Found.{found}
use Rattle.plan.specs.Plan.{Plan}
use Rattle.plan.specs.Positions.{reading_of}
use Rattle.plan.specs.Reading.{plan_of}
use Rattle.message.specs.declared.Body.TheVariants.{FirstEcho, Centre}
use Rattle.message.specs.declared.Message.{Message}
use Rattle.message.specs.Message.{message_bytes}
use Rattle.message.specs.Reading.{exact_message}
use Rattle.agreement.specs.History.{Instance, History}
use Rattle.agreement.specs.Allowed.{Sound, Handed, Allowed}
use Rattle.agreement.specs.Demand.{Started, Took, Made, HandedSince, answer_now, Answers, Stands, StartedWith, Complete, Holds, Shared, Premises}
use Rattle.agreement_histories.specs.Scripts.{Action, sets_up, starts, takes, sends, cuts, restores, says}
use Rattle.agreement_histories.specs.Alone as lone
use Rattle.agreement_premises.specs.Edits.{is_cut, without}
use Rattle.agreement_premises.specs.Examples.{two}

-- ---- what is asked first

-- twice_the_faults
abbrev pub TwiceTheFaults : Type 0
TwiceTheFaults =
    (v : Instance) (plan : Plan) (bad : Set) (h : History) → Shared v plan → count v.n bad ≤ v.t * 2 → Allowed v bad h → Holds v plan bad h

-- of four boards 2 and 3 are faulty. Board 0 starts at 0 of the readings 0 to 2; two messages that say centre make it answer 1
abbrev pub half : Set
half = λ i. ltb 1 i

unfoldable pub deceived : List Action
deceived = sets_up 0 ∷ starts 0 (pos 0) ∷ takes 0 2 (says Centre) ∷ takes 0 3 (says Centre) ∷ []

-- number_too_large
abbrev pub NumberTooLarge : Type 0
NumberTooLarge =
    (v : Instance) (plan : Plan) (bad : Set) (h : History) → v.n ≤ max_boards → 3 * v.t < v.n → v.agreement ≤ max_number * 2
    → plan_of v.plan ≡ found plan → count v.n bad ≤ v.t → Allowed v bad h → Holds v plan bad h

-- a board alone on two readings starts at 0, and power is cut. No record is lost, and no reader reads the record of its start: it has no answer
abbrev pub unreadable : Instance
unreadable = record { n = 1; t = 0; agreement = 4294967296; plan = two }

unfoldable pub cut_after : List Action
cut_after = sets_up 0 ∷ starts 0 (pos 0) ∷ cuts 0 7 ∷ []

-- plan_not_read: what is said of a plan that the shared bytes do not give. A board alone starts at 0 of the readings 0 and 1, and the plan has 5 and 6
abbrev pub PlanNotRead : Type 0
PlanNotRead =
    (v : Instance) (plan other : Plan) (bad : Set) (h : History) → Shared v other → count v.n bad ≤ v.t → Allowed v bad h → Holds v plan bad h

unfoldable pub begins : List Action
begins = sets_up 0 ∷ starts 0 (pos 0) ∷ []

-- ---- what holds after a list of steps

-- near_is_equal
abbrev pub NearIsEqual : Type 0
NearIsEqual =
    (v : Instance) (plan : Plan) (bad : Set) (h : History) → Premises v plan bad h → (i j : ℕ) (y z : ℤ) → Sound v bad i → Sound v bad j
    → Answers v h i y → Answers v h j z → (x : ℕ) × (w : ℕ) × Stands plan x y × Stands plan w z × (x ≡ w)

-- answer_is_an_input
abbrev pub AnswerIsAnInput : Type 0
AnswerIsAnInput =
    (v : Instance) (plan : Plan) (bad : Set) (h : History) → Premises v plan bad h → (i : ℕ) (y : ℤ) → Sound v bad i → Answers v h i y
    → (x : ℕ) × Stands plan x y × ((j : ℕ) × (z : ℤ) × Sound v bad j × StartedWith plan h j x z)

-- readings_off_by_one
abbrev pub ReadingsOffByOne : Type 0
ReadingsOffByOne =
    (v : Instance) (plan : Plan) (bad : Set) (h : History) → Premises v plan bad h → (i : ℕ) (y : ℤ) → Sound v bad i → Answers v h i y
    → (x : ℕ) × (x < plan.count) × (reading_of plan (suc x) ≡ y)

-- ---- the end: every sound board has an answer if ..

abbrev pub EndsIf : (Instance → Set → History → Type 0) → Type 0
EndsIf If =
    (v : Instance) (plan : Plan) (bad : Set) (h : History) → Premises v plan bad h → If v bad h → (i : ℕ) → Sound v bad i
    → (z : ℤ) × (answer_now v h i ≡ Some z)

-- the three parts of `Complete`; what taking is, is left open in the last
abbrev pub AllStarted : Instance → Set → History → Type 0
AllStarted v bad h = (i : ℕ) → Sound v bad i → (x : ℕ) × (z : ℤ) × Started h i x z

abbrev pub AllHanded : Instance → Set → History → Type 0
AllHanded v bad h = (i : ℕ) (m : Message) → Sound v bad i → Made h i m → HandedSince i (message_bytes m) h

abbrev pub AllTaken : Instance → Set → History → (ℕ → ℕ → Message → Type 0) → Type 0
AllTaken v bad h Took =
    (i j : ℕ) (bytes : List ℕ) (m : Message) → Sound v bad i → Sound v bad j → HandedSince j bytes h → exact_message bytes ≡ Ok m → Took i j m

-- not_started
abbrev pub NotStarted : Type 0
NotStarted = EndsIf (λ v bad h. AllHanded v bad h × AllTaken v bad h (Took h))

-- not_handed
abbrev pub NotHanded : Type 0
NotHanded = EndsIf (λ v bad h. AllStarted v bad h × AllTaken v bad h (Took h))

-- handed_ever: what was handed over before the last restore counts as handed over, and need not have been taken
abbrev pub HandedEver : Type 0
HandedEver =
    EndsIf (λ v bad h.
    AllStarted v bad h × ((i : ℕ) (m : Message) → Sound v bad i → Made h i m → Handed i (message_bytes m) h) × AllTaken v bad h (Took h))

-- own_copy_untaken
abbrev pub OwnCopyUntaken : Type 0
OwnCopyUntaken =
    EndsIf (λ v bad h. AllStarted v bad h × AllHanded v bad h × AllTaken v bad h (λ i j m. (i ≡ j → ⊥) → Took h i j m))

-- a board alone on the readings 0 to 2 starts at 0 and hands its echo over
unfoldable pub echoes : List Action
echoes = sets_up 0 ∷ starts 0 (pos 0) ∷ sends 0 (says (FirstEcho 1)) ∷ []

-- power is cut, which loses no record, and it is restored: the wire has forgotten the echo, and it hands nothing over
unfoldable pub forgets : List Action
forgets = echoes ++ (cuts 0 3 ∷ restores 0 ∷ [])

-- lost_counted: lost calls count, as if no power had been cut
abbrev pub LostCounted : Type 0
LostCounted = EndsIf (λ v bad h. Complete v bad (without is_cut h))

-- all is delivered to a board alone, and a cut takes the last record, whose call made no message
unfoldable pub cut_last : List Action
cut_last = lone.script 1 ++ (cuts 0 21 ∷ [])
