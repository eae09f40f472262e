-- Four boards vote on the readings 0 to 2, board 3 is faulty, and board 2 never starts. Boards 0 and 1 make calls that are refused, among them set-ups, starts,
-- takes and a restore with other arguments. Board 0 is restored with no cut before it, and is cut twice once its answer is read. Board 1 is cut twice, and
-- loses its start at 0. Both end at 2.
use Rattle.std.specs.Prelude.{List, [], ◌∷◌, ◌++◌, ℕ, ℤ, pos, length}
use Rattle.base.specs.Limits.{offset_zero}
use Rattle.plan.specs.Plan.{Plan}
use Rattle.plan.specs.Positions.{range_plan}
use Rattle.message.specs.declared.Message.{Message}
use Rattle.message.specs.declared.Body.TheVariants.{FirstEcho}
use Rattle.message.specs.Message.{message_bytes}
use Rattle.agreement.specs.History.{Instance, plain, Call, set_up, start, take_message_lem, read_answer, restore, Board}
use Rattle.agreement_histories.specs.Scripts.{Action, sets_up, starts, takes, reads, sends, cuts, restores, tries, lent, lent_back, saying, says}
use Rattle.agreement_histories.specs.OneFaulty.{echoing, answering}
pub use Rattle.agreement_histories.specs.OneFaulty.{bad}

abbrev pub vote : Instance
vote = record { n = 4; t = 1; agreement = 1; plan = 2 ∷ 0 ∷ 2 ∷ [] }

abbrev pub plan : Plan
plan = range_plan offset_zero 2

-- a start and a take with what the board has
abbrev pub start_at : ℤ → Board → Call
start_at z b = start b.party (plain z) (lent b.journal) (length b.journal)

abbrev pub take_from : ℕ → Message → Board → Call
take_from s m b = take_message_lem b.party s (message_bytes m) (lent b.journal) (length b.journal)

-- refused: a set-up with too many faults, a reading before any set-up; after the set-up one with 17 boards, a start off the plan, and a second start
unfoldable pub opening : List Action
opening =
    tries 0 2 (λ _. set_up 4 2 0 1 (2 ∷ 0 ∷ 2 ∷ []))
    ∷ tries 0 19 (λ b. read_answer b.party)
    ∷ sets_up 0
    ∷ sets_up 1
    ∷ sets_up 2
    ∷ tries 0 1 (λ _. set_up 17 0 0 1 (2 ∷ 0 ∷ 2 ∷ []))
    ∷ tries 0 12 (start_at (pos 3))
    ∷ starts 0 (pos 2)
    ∷ tries 0 13 (start_at (pos 0))
    ∷ sends 0 (says (FirstEcho 2))
    ∷ []

-- board 0 is restored where it runs, and hands its echo over again
unfoldable pub back : List Action
back =
    restores 0
    ∷ sends 0 (says (FirstEcho 2))
    ∷ []

-- board 1 starts at 0, and two cuts leave two bytes and then one of that record
unfoldable pub lost : List Action
lost =
    starts 1 (pos 0)
    ∷ cuts 1 2
    ∷ cuts 1 1
    ∷ []

-- refused: a start before the restore, a restore with a byte of the plan missing; then it starts at 2
unfoldable pub again : List Action
again =
    tries 1 19 (start_at (pos 2))
    ∷ tries 1 4 (λ b. restore 4 1 1 1 (2 ∷ 0 ∷ []) (lent_back b.journal))
    ∷ restores 1
    ∷ starts 1 (pos 2)
    ∷ sends 1 (says (FirstEcho 2))
    ∷ []

-- refused: a message of another vote that board 1 never handed over, one from a board that is none of the four, and three bytes of a message
unfoldable pub rubbish : List Action
rubbish =
    tries 0 16 (take_from 1 (saying 2 0 (FirstEcho 2)))
    ∷ tries 0 14 (take_from 4 (says (FirstEcho 2)))
    ∷ tries 0 15 (λ b. take_message_lem b.party 1 (1 ∷ 0 ∷ 1 ∷ []) (lent b.journal) (length b.journal))
    ∷ []

-- boards 0, 1 and 3 make every quorum
unfoldable pub rest : List Action
rest = echoing (takes 1 3 (says (FirstEcho 2)) ∷ answering (reads 0 ∷ cuts 0 75 ∷ cuts 0 75 ∷ []))

abbrev pub early : List Action
early = (opening ++ back) ++ lost

abbrev pub script : List Action
script = (early ++ again) ++ (rubbish ++ rest)
