-- What demand 3's ending rests on: its premise asks what boards have handed over and taken, and only what that comes to is used.
use Rattle.std.specs.Prelude.{◌≡◌, List, ℕ, ℤ, Ok, Some}
use Rattle.base.specs.Sets.{Set}
use Rattle.plan.specs.Plan.{Plan}
use Rattle.message.specs.declared.Message.{Message}
use Rattle.message.specs.Message.{message_bytes}
use Rattle.message.specs.Reading.{exact_message}
use Rattle.agreement.specs.History.{Instance, History}
use Rattle.agreement.specs.Allowed.{Sound, Handed}
use Rattle.agreement.specs.Demand.{Started, Took, Made, answer_now, Complete, Premises}

-- every sound board has started, and has taken every message that calls of sound boards made, whenever and however often these were handed over
pub record Delivered (v : Instance) (bad : Set) (h : History) : Type 0 where
  pub started : (i : ℕ) → Sound v bad i → (x : ℕ) × (z : ℤ) × Started h i x z
  pub taken : (i j : ℕ) (m : Message) → Sound v bad i → Sound v bad j → Made h j m → Took h i j m

-- document 01's premise as it stood before document 02, Q-5: handing over counts from the set-up on
pub record CompleteFromSetUp (v : Instance) (bad : Set) (h : History) : Type 0 where
  pub started : (i : ℕ) → Sound v bad i → (x : ℕ) × (z : ℤ) × Started h i x z
  pub handed : (i : ℕ) (m : Message) → Sound v bad i → Made h i m → Handed i (message_bytes m) h
  pub taken : (i j : ℕ) (bytes : List ℕ) (m : Message) → Sound v bad i → Sound v bad j → Handed j bytes h → exact_message bytes ≡ Ok m
      → Took h i j m

-- both premises give `Delivered`, and `Delivered` gives every sound board an answer: so no ending is lost where handing over counts from the last restore
pub record Ends (v : Instance) (bad : Set) (h : History) : Type 0 where
  pub since_restore_lem : Complete v bad h → Delivered v bad h
  pub from_set_up_lem : CompleteFromSetUp v bad h → Delivered v bad h
  pub answers : Delivered v bad h → (i : ℕ) → Sound v bad i → (z : ℤ) × (answer_now v h i ≡ Some z)

abbrev pub Ending : Type 0
Ending = (v : Instance) (plan : Plan) (bad : Set) (h : History) → Premises v plan bad h → Ends v bad h
