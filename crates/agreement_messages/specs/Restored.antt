-- Document 02, Q-5: "Restore now hands over every message of the whole records' history, .. in the first order", said of demand 3's histories.
use Rattle.std.specs.Prelude.{◌≡◌, List, ◌∷◌, ℕ}
use Rattle.base.specs.Sets.{Set}
use Rattle.base.specs.Found.{found}
use Rattle.plan.specs.Plan.{Plan}
use Rattle.board_calls.specs.Restore.{Replay}
use Rattle.agreement.specs.History.{Instance, Lent, restore, restore_finds, calls, History, board_after}
use Rattle.agreement.specs.Allowed.{Allowed}
use Rattle.agreement.specs.Demand.{Shared}
use Rattle.agreement_messages.specs.Statement.{made_in_all}

-- an accepted restore gives what the board's calls that are not lost made, message for message
abbrev pub GivenAgain : Type 0
GivenAgain =
    (v : Instance) (plan : Plan) (bad : Set) (h : History) (i n t own agreement : ℕ) (bytes : List ℕ) (lent : Lent) (r : Replay) → Shared v plan
    → Allowed v bad (calls i (restore n t own agreement bytes lent) ∷ h) → restore_finds n t own agreement bytes lent ≡ found r
    → r.ran.made ≡ made_in_all (board_after h i).counted
