-- Document 01, "Questions at the door", and document 02's: the number of each.
use Rattle.std.specs.Prelude.{◌≡◌, ℕ}
use Rattle.base.specs.declared.Question.{Question}
use Rattle.base.specs.declared.Question.TheVariants.{Boards, FaultyBoards, OwnNumber, PlanVarint, PlanKind, VertexCount, EdgeEnds, Acyclic, Degree, RangeLimits, PlanEnd, OnPlan, NotStarted, Sender, MessageCut, Agreement, JournalRoom, OutgoingRoom, PartyRecord, UsedLength, JournalRecord, MessageVarint, MessageTable, MessageEnd, StepSize, TwoAgreements}
use Rattle.base.specs.declared.Refusal.{Refusal}

abbrev pub number_of : Question → ℕ
-- "Is n 1 to 16? 1. Is 3t below n? 2. Is the own number below n? 3."
number_of Boards = 1
number_of FaultyBoards = 2
number_of OwnNumber = 3
-- "Is each group whole and well formed? 4. Is the kind 1 or 2? 5. Is V 1 to 255? 6. Are an edge's ends below V and different? 7. Are its ends not yet joined
-- through earlier edges? 8. Has neither end 15 edges already? 9. Are low, width and high in their limits? 10. Does the plan end with its bytes? 11."
number_of PlanVarint = 4
number_of PlanKind = 5
number_of VertexCount = 6
number_of EdgeEnds = 7
number_of Acyclic = 8
number_of Degree = 9
number_of RangeLimits = 10
number_of PlanEnd = 11
-- "Not yet started? 13. Input on the plan? 12. Record fits the journal? 17." "Sender below n? 14. Bytes exactly one message? 15. Our agreement number? 16."
number_of OnPlan = 12
number_of NotStarted = 13
number_of Sender = 14
number_of MessageCut = 15
number_of Agreement = 16
number_of JournalRoom = 17
-- "Has the outgoing buffer 2,640 bytes? 18." "Is the record one .. ? 19." "Is the used length within the lent journal? 20."
number_of OutgoingRoom = 18
number_of PartyRecord = 19
number_of UsedLength = 20
-- "A whole record, or the torn last one? 21."
number_of JournalRecord = 21
-- document 02, Q-2, in 15's place: 22, 23, 24
number_of MessageVarint = 22
number_of MessageTable = 23
number_of MessageEnd = 24
-- document 02, Q-6: 25; Q-13: 27
number_of StepSize = 25
number_of TwoAgreements = 27

-- "Place: .. otherwise 0"
abbrev pub RefusesAtZero : Question → Refusal → Type 0
RefusesAtZero q r = r ≡ record { question = q; place = 0 }
