-- The bound of seven different messages at a level is reached. Two boards, none of them faulty, vote on the readings 0 to 2, centre 1. Board 0 starts at 1 and
-- board 1 at 2. Board 0 first-echoes its port 0 and then none, proposes 2, has the first result 2 and echoes it, and proposes it again; then it relays a second
-- echo of none from board 1, whose first result is none, and comes to side 2 at grade 1, which it tells: seven messages at level 0.
use Rattle.std.specs.Prelude.{◌≡◌, ℕ, pos}
use mathlib.Core.List.{List, [], ◌∷◌, Memᴰ}
use Rattle.base.specs.Sets.{Set}
use Rattle.message.specs.declared.Body.TheVariants.{FirstEcho, FirstProposal, SecondEcho, SecondProposal, Side}
use Rattle.message.specs.declared.Message.{Message}
use Rattle.message.specs.Message.{none_value}
use Rattle.plan.specs.Plan.{Plan}
use Rattle.agreement.specs.History.{Instance, History}
use Rattle.agreement.specs.Demand.{Premises}
use Rattle.agreement_histories.specs.Scripts.{Action, sets_up, starts, takes, sends, says}
pub use Rattle.agreement_histories.specs.TwoBoards.{vote, plan, bad}
use Rattle.agreement_messages.specs.Statement.{LevelBound}

unfoldable pub script : List Action
script =
    sets_up 0
    ∷ sets_up 1
    ∷ starts 0 (pos 1)
    ∷ sends 0 (says (FirstEcho 0))
    ∷ starts 1 (pos 2)
    ∷ sends 1 (says (FirstEcho 2))
    ∷ takes 0 1 (says (FirstEcho 2))
    ∷ sends 0 (says (FirstProposal 2))
    ∷ takes 1 1 (says (FirstEcho 2))
    ∷ sends 1 (says (FirstProposal 2))
    ∷ takes 0 0 (says (FirstProposal 2))
    ∷ takes 0 1 (says (FirstProposal 2))
    ∷ sends 0 (says (SecondEcho 2))
    ∷ takes 0 0 (says (SecondEcho 2))
    ∷ takes 1 0 (says (FirstEcho 0))
    ∷ sends 1 (says (SecondEcho none_value))
    ∷ takes 0 1 (says (SecondEcho none_value))
    ∷ []

-- what board 0's calls made at level 0, in order
abbrev pub messages : List Message
messages =
    says (FirstEcho 0)
    ∷ says (FirstEcho none_value)
    ∷ says (FirstProposal 2)
    ∷ says (SecondEcho 2)
    ∷ says (SecondProposal 2)
    ∷ says (SecondEcho none_value)
    ∷ says (Side 2)
    ∷ []

-- all of level L
abbrev pub AtLevel : ℕ → List Message → Type 0
AtLevel L ms = (m : Message) → Memᴰ m ms → m.level ≡ L

-- that so many are the most, with demand 3's premises
abbrev pub AtMost : ℕ → Type 0
AtMost most = (v : Instance) (plan : Plan) (bad : Set) (h : History) → Premises v plan bad h → LevelBound most v bad h
