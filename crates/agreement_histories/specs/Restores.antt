-- Two boards vote on the readings 0 to 2 and start at 2. Board 1 is restored five times: after a cut, and after a second one before it wrote anything;
-- after a cut that tears a record, and after a second one before it wrote anything, where it is lent the torn record again; and once more when it has taken
-- that message again. A copy of its echo from before the last cut arrives late; it hands over again what its calls made and goes on, all is delivered, and
-- both answer 2.
use Rattle.std.specs.Prelude.{List, [], ◌∷◌, ◌++◌, pos}
use Rattle.message.specs.declared.Body.TheVariants.{FirstEcho, FirstProposal}
use Rattle.agreement_histories.specs.Scripts.{Action, sets_up, starts, takes, sends, cuts, restores, restores_torn, says}
use Rattle.agreement_histories.specs.OneSide.{agreeing}
pub use Rattle.agreement_histories.specs.TwoBoards.{vote, plan, bad}

-- both start; board 1, whose record has three bytes, is cut and restored, and again before it writes anything
unfoldable pub opening : List Action
opening =
    sets_up 0
    ∷ sets_up 1
    ∷ starts 0 (pos 2)
    ∷ sends 0 (says (FirstEcho 2))
    ∷ starts 1 (pos 2)
    ∷ sends 1 (says (FirstEcho 2))
    ∷ cuts 1 3
    ∷ restores 1
    ∷ cuts 1 3
    ∷ restores 1
    ∷ []

-- it hands its echo over again and takes a message, and a cut leaves four of the six bytes of that record; and again, before it writes anything, with
-- those four bytes behind the used ones
unfoldable pub torn : List Action
torn =
    sends 1 (says (FirstEcho 2))
    ∷ takes 1 0 (says (FirstEcho 2))
    ∷ cuts 1 7
    ∷ restores 1
    ∷ cuts 1 3
    ∷ restores_torn 1 (2 ∷ 0 ∷ 1 ∷ 0 ∷ [])
    ∷ []

-- it takes the message again, hands its proposal over, and is cut and restored
unfoldable pub once : List Action
once =
    takes 1 0 (says (FirstEcho 2))
    ∷ sends 1 (says (FirstProposal 2))
    ∷ cuts 1 9
    ∷ restores 1
    ∷ []

-- a copy of its echo from before the cut arrives late; then it hands both its messages over again, and all is delivered
unfoldable pub rest : List Action
rest =
    takes 0 1 (says (FirstEcho 2))
    ∷ sends 1 (says (FirstEcho 2))
    ∷ sends 1 (says (FirstProposal 2))
    ∷ takes 0 0 (says (FirstEcho 2))
    ∷ sends 0 (says (FirstProposal 2))
    ∷ takes 1 1 (says (FirstEcho 2))
    ∷ agreeing 2 []

abbrev pub script : List Action
script = (opening ++ torn) ++ (once ++ rest)
