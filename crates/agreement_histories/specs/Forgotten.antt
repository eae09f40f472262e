-- Two boards vote on the readings 0 to 2 and start at 2. Board 0 makes an echo and, at the next call, a proposal, and hands both over; nobody takes them, and a
-- power cut forgets them. No record is lost: board 0 is restored and hands both over again, all is delivered, and both answer 2.
use Rattle.std.specs.Prelude.{List, [], ◌∷◌, ◌++◌, pos}
use Rattle.message.specs.declared.Body.TheVariants.{FirstEcho, FirstProposal}
use Rattle.message.specs.declared.Message.{Message}
use Rattle.journal.specs.declared.Record.{Record}
use Rattle.party.specs.Party.{Party}
use Rattle.party_life.specs.Life.{replayed, lived}
use Rattle.agreement_histories.specs.Scripts.{Action, sets_up, starts, takes, sends, cuts, restores, says}
use Rattle.agreement_histories.specs.OneSide.{agreeing}
pub use Rattle.agreement_histories.specs.TwoBoards.{vote, plan, bad}

-- board 0 starts, and takes board 1's echo
unfoldable pub opening : List Action
opening =
    sets_up 0
    ∷ sets_up 1
    ∷ starts 0 (pos 2)
    ∷ sends 0 (says (FirstEcho 2))
    ∷ starts 1 (pos 2)
    ∷ sends 1 (says (FirstEcho 2))
    ∷ takes 0 1 (says (FirstEcho 2))
    ∷ sends 0 (says (FirstProposal 2))
    ∷ []

-- a cut leaves the nine bytes of its two records
unfoldable pub back : List Action
back =
    cuts 0 9
    ∷ restores 0
    ∷ []

-- it hands both messages over again; all is delivered
unfoldable pub rest : List Action
rest =
    sends 0 (says (FirstEcho 2))
    ∷ sends 0 (says (FirstProposal 2))
    ∷ takes 0 0 (says (FirstEcho 2))
    ∷ takes 1 0 (says (FirstEcho 2))
    ∷ sends 1 (says (FirstProposal 2))
    ∷ takes 1 1 (says (FirstEcho 2))
    ∷ agreeing 2 []

-- up to the restore
abbrev pub early : List Action
early = opening ++ back

abbrev pub script : List Action
script = early ++ rest

-- the messages that the call of the newest record made, of the records of a life from p
abbrev pub last_made : Party → List Record → List Message
last_made p [] = []
last_made p (r ∷ rs) = (replayed (lived p rs).party r).made
