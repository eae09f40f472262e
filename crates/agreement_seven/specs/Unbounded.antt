-- The bound needs that at most t boards are faulty. Two boards vote on a star of 16 vertices, centre 0, with t 0, and board 1 is faulty. Board 0 starts at the
-- centre. Board 1 tells it first echoes of 1 and of none, so that it first-echoes none, proposes 1 and has the first result none; then a second echo and a second
-- proposal of none, so that it tells the centre; then second echoes of all values 0 to 15, which it relays: 22 different messages at level 0.
use Rattle.std.specs.Prelude.{List, [], ◌∷◌, ℕ, zero, suc, ◌≤◌, eqb, pos}
use Rattle.base.specs.Sets.{Set, count}
use Rattle.tree.specs.Edges.{Edges}
use Rattle.plan.specs.Plan.{Plan}
use Rattle.plan.specs.Positions.{tree_plan}
use Rattle.message.specs.declared.Body.TheVariants.{FirstEcho, FirstProposal, SecondEcho, SecondProposal, Centre}
use Rattle.message.specs.declared.Message.{Message}
use Rattle.message.specs.Message.{none_value}
use Rattle.agreement.specs.History.{Instance, History}
use Rattle.agreement.specs.Allowed.{Allowed}
use Rattle.agreement.specs.Demand.{Shared}
use Rattle.agreement_histories.specs.Scripts.{Action, sets_up, starts, takes, sends, says}
use Rattle.agreement_messages.specs.Statement.{Bounded}

-- `Statement` with one faulty board more
abbrev pub OneMore : Type 0
OneMore =
    (v : Instance) (plan : Plan) (bad : Set) (h : History) → Shared v plan → count v.n bad ≤ suc v.t → Allowed v bad h → Bounded v bad h

-- 0 joined to 1, 2, .. 15
abbrev pub vote : Instance
vote = record {
  n = 2;
  t = 0;
  agreement = 1;
  plan =
      1 ∷ 16 ∷ 0 ∷ 1 ∷ 0 ∷ 2 ∷ 0 ∷ 3 ∷ 0 ∷ 4 ∷ 0 ∷ 5 ∷ 0 ∷ 6 ∷ 0 ∷ 7 ∷ 0 ∷ 8 ∷ 0 ∷ 9 ∷ 0 ∷ 10 ∷ 0 ∷ 11 ∷ 0 ∷ 12 ∷ 0 ∷ 13 ∷ 0 ∷ 14 ∷ 0 ∷ 15 ∷ [];
}

-- 0 joined to k, .. 2, 1
unfoldable pub star : ℕ → Edges
star zero = []
star (suc k) = record { one = 0; two = suc k } ∷ star k

abbrev pub plan : Plan
plan = tree_plan 16 (star 15)

abbrev pub bad : Set
bad = λ i. eqb i 1

-- every value of the level
abbrev pub values : List ℕ
values = 0 ∷ 1 ∷ 2 ∷ 3 ∷ 4 ∷ 5 ∷ 6 ∷ 7 ∷ 8 ∷ 9 ∷ 10 ∷ 11 ∷ 12 ∷ 13 ∷ 14 ∷ 15 ∷ []

-- board 0 takes second echoes of these values from board 1, and makes its own
unfoldable pub told : List ℕ → List Action
told [] = []
told (w ∷ ws) = takes 0 1 (says (SecondEcho w)) ∷ told ws

unfoldable pub relays : List ℕ → List Message
relays [] = []
relays (w ∷ ws) = says (SecondEcho w) ∷ relays ws

-- what board 0 does after its start
unfoldable pub hearing : List Action
hearing =
    takes 0 1 (says (FirstEcho 1))
    ∷ takes 0 1 (says (FirstEcho none_value))
    ∷ takes 0 1 (says (SecondEcho none_value))
    ∷ sends 0 (says (SecondProposal none_value))
    ∷ takes 0 0 (says (SecondProposal none_value))
    ∷ takes 0 1 (says (SecondProposal none_value))
    ∷ told values

abbrev pub script : List Action
script = sets_up 0 ∷ starts 0 (pos 0) ∷ hearing

-- what board 0's calls made at level 0, in order
abbrev pub messages : List Message
messages =
    says (FirstEcho 0)
    ∷ says (FirstEcho none_value)
    ∷ says (FirstProposal 1)
    ∷ says (SecondEcho none_value)
    ∷ says (SecondProposal none_value)
    ∷ says Centre
    ∷ relays values
