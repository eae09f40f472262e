-- Two boards vote on the readings 0 to 2, with three cuts. Board 0 starts at 0, and the cut tears the start's record: it starts again at 2.
-- Board 1 starts at 2, and a cut tears the record of the first message that it takes. Both answer 2; board 0 reads its answer and is cut once more.
use Rattle.std.specs.Prelude.{List, [], ◌∷◌, ◌++◌, pos}
use Rattle.message.specs.declared.Body.TheVariants.{FirstEcho, FirstProposal}
use Rattle.agreement_histories.specs.Scripts.{Action, sets_up, starts, takes, reads, sends, cuts, restores, says}
use Rattle.agreement_histories.specs.OneSide.{agreeing}
pub use Rattle.agreement_histories.specs.TwoBoards.{vote, plan, bad}

-- board 0 starts at 0, and hands nothing over
unfoldable pub lost : List Action
lost =
    sets_up 0
    ∷ sets_up 1
    ∷ starts 0 (pos 0)
    ∷ []

-- a cut leaves two of the three bytes of its record, and it is restored
unfoldable pub back : List Action
back =
    cuts 0 2
    ∷ restores 0
    ∷ []

-- it starts at 2; board 1 starts there too, and takes the first message
unfoldable pub again : List Action
again =
    starts 0 (pos 2)
    ∷ sends 0 (says (FirstEcho 2))
    ∷ starts 1 (pos 2)
    ∷ sends 1 (says (FirstEcho 2))
    ∷ takes 1 0 (says (FirstEcho 2))
    ∷ []

-- a cut leaves four of the six bytes of the record of that message
unfoldable pub torn : List Action
torn =
    cuts 1 7
    ∷ []

-- restored, board 1 hands its echo over again, and takes the message again; all is delivered
unfoldable pub rest : List Action
rest =
    restores 1
    ∷ sends 1 (says (FirstEcho 2))
    ∷ takes 0 0 (says (FirstEcho 2))
    ∷ sends 0 (says (FirstProposal 2))
    ∷ takes 1 0 (says (FirstEcho 2))
    ∷ sends 1 (says (FirstProposal 2))
    ∷ takes 0 1 (says (FirstEcho 2))
    ∷ takes 1 1 (says (FirstEcho 2))
    ∷ agreeing 2
    (reads 0
    ∷ cuts 0 51
    ∷ [])

abbrev pub script : List Action
script = (lost ++ back) ++ (again ++ torn) ++ rest
