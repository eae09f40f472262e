-- Document 02, Q-5: "Restore now hands over every message of the whole records' history, each once, in the first order." A table of journals and of what a
-- restore hands over. proofs/Restores.antt shows that every row holds.
use Rattle.std.specs.Prelude.{◌≡◌, List, [], ◌∷◌, ◌++◌, ℕ, length, drop}
use Rattle.base.specs.Found.{Found}
use Rattle.base.specs.Verdict.{Verdict}
use Rattle.board_calls.specs.Restore.{Replay, restore_questions, restored_of, restore_outgoing}
use Rattle.vectors_questions.specs.Rows.{range, no_record}

-- bytes one after the other
unfoldable pub in_order : List (List ℕ) → List ℕ
in_order [] = []
in_order (b ∷ bs) = b ++ in_order bs

-- ---- bytes of agreement 1, hexadecimal

-- records: a start at a position, a message taken from a sender; and the beginning of such a record
abbrev pub started : ℕ → List ℕ
started x = 0x01 ∷ 0x01 ∷ x ∷ []

abbrev pub taken : ℕ → List ℕ → List ℕ
taken s m = 0x02 ∷ s ∷ m

abbrev pub torn : List ℕ
torn = 0x02 ∷ 0x00 ∷ 0x01 ∷ []

-- messages at level 0
abbrev pub first_echo : ℕ → List ℕ
first_echo v = 0x01 ∷ 0x00 ∷ 0x01 ∷ v ∷ []

abbrev pub first_proposal : ℕ → List ℕ
first_proposal v = 0x01 ∷ 0x00 ∷ 0x02 ∷ v ∷ []

abbrev pub second_echo : ℕ → List ℕ
second_echo v = 0x01 ∷ 0x00 ∷ 0x03 ∷ v ∷ []

abbrev pub second_proposal : ℕ → List ℕ
second_proposal v = 0x01 ∷ 0x00 ∷ 0x04 ∷ v ∷ []

-- ---- rows

-- board 0 of so many boards, none faulty, on the range 0 to 2, is restored from a journal, with an outgoing buffer of so many bytes
abbrev pub restoring : ℕ → List (List ℕ) → ℕ → Found Replay
restoring n journal out = restore_questions n 0 0 1 range (in_order journal) out

pub data Restore : Type 0 where
  -- how many boards, the journal's parts, the length of the whole records, and the messages handed over
  hands : (n : ℕ) (journal : List (List ℕ)) (used : ℕ) (messages : List (List ℕ)) → Restore
  -- the outgoing buffer's length, and the question that refuses the restore, with the place
  withholds : (n : ℕ) (journal : List (List ℕ)) (out question place : ℕ) → Restore

-- what was written into a buffer that held other bytes before: the messages from the first byte on, and no other byte changed
abbrev pub Writes : Found Replay → ℕ → List ℕ → Type 0
Writes q used bytes =
    ((restored_of q).verdict ≡ Verdict.Accepted) × ((restored_of q).used ≡ used) × ((restored_of q).sent ≡ length bytes)
    × ((before : List ℕ) → restore_outgoing before q ≡ bytes ++ drop (length bytes) before)

-- nothing was, and the buffer stayed as it was
abbrev pub WritesNothing : Found Replay → ℕ → ℕ → Type 0
WritesNothing q question place =
    ((restored_of q).verdict ≡ Verdict.Refused question place) × ((restored_of q).sent ≡ 0) × ((before : List ℕ) → restore_outgoing before q ≡ before)

-- what a row claims
abbrev pub Restores : Restore → Type 0
Restores (hands n journal used messages) = Writes (restoring n journal 2640) used (in_order messages)
Restores (withholds n journal out question place) = WritesNothing (restoring n journal out) question place

unfoldable pub restores : List Restore
restores =
    -- the empty journal, and one with the beginning of a record
    hands 1 [] 0 []
    ∷ hands 1 (torn ∷ []) 0 []
    -- a board alone, started at 0, where its port is 1; then it takes its own messages, and each record made one
    ∷ hands 1 (started 0 ∷ []) 3 (first_echo 1 ∷ [])
    ∷ hands 1 (started 0 ∷ taken 0 (first_echo 1) ∷ []) 9 (first_echo 1 ∷ first_proposal 1 ∷ [])
    ∷ hands 1 (started 0 ∷ taken 0 (first_echo 1) ∷ taken 0 (first_proposal 1) ∷ taken 0 (second_echo 1) ∷ []) 21 (first_echo 1 ∷ first_proposal 1 ∷ second_echo 1 ∷ second_proposal 1 ∷ [])
    -- the last record made none: it gave the answer
    ∷ hands 1 (started 0 ∷ taken 0 (first_echo 1) ∷ taken 0 (first_proposal 1) ∷ taken 0 (second_echo 1) ∷ taken 0 (second_proposal 1) ∷ []) 27 (first_echo 1 ∷ first_proposal 1 ∷ second_echo 1 ∷ second_proposal 1 ∷ [])
    -- a torn record after the second, and after one that made none
    ∷ hands 1 (started 0 ∷ taken 0 (first_echo 1) ∷ torn ∷ []) 9 (first_echo 1 ∷ first_proposal 1 ∷ [])
    ∷ hands 1 (started 0 ∷ taken 0 (first_echo 1) ∷ taken 0 (second_proposal 1) ∷ torn ∷ []) 15 (first_echo 1 ∷ first_proposal 1 ∷ [])
    -- "A record of a message already held adds nothing and has no messages."
    ∷ hands 1 (started 0 ∷ taken 0 (first_echo 1) ∷ taken 0 (first_echo 1) ∷ []) 15 (first_echo 1 ∷ first_proposal 1 ∷ [])
    -- a message taken before the start, whose record then made two messages
    ∷ hands 1 (taken 0 (first_echo 1) ∷ started 0 ∷ taken 0 (first_proposal 1) ∷ []) 15 (first_echo 1 ∷ first_proposal 1 ∷ second_echo 1 ∷ [])
    -- two boards, at 0 and 2: after its own first echo, or before it, board 0 takes board 1's, which made two messages; 10 is none
    ∷ hands 2 (started 0 ∷ taken 0 (first_echo 1) ∷ taken 1 (first_echo 2) ∷ []) 15 (first_echo 1 ∷ first_proposal 1 ∷ first_echo 0x10 ∷ second_echo 0x10 ∷ [])
    ∷ hands 2 (started 0 ∷ taken 1 (first_echo 2) ∷ []) 9 (first_echo 1 ∷ first_echo 0x10 ∷ first_proposal 2 ∷ [])
    -- a second start, and no record, after records that made messages; an outgoing buffer of 2,639
    ∷ withholds 1 (started 0 ∷ taken 0 (first_echo 1) ∷ started 0 ∷ []) 2640 13 9
    ∷ withholds 1 (started 0 ∷ taken 0 (first_echo 1) ∷ no_record ∷ []) 2640 21 9
    ∷ withholds 1 (started 0 ∷ taken 0 (first_echo 1) ∷ []) 2639 18 0
    ∷ []
