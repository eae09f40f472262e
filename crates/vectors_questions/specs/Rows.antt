-- Document 01, "Questions at the door": "Asked in this order; the first no gives its number." A table of calls at which several questions fail. Most rows
-- stand in ladders: in each row every later question of the ladder fails as well, and the next row mends the one that answered. proofs/Table.antt shows
-- that every row holds.
use Rattle.std.specs.Prelude.{◌≡◌, List, [], ◌∷◌, ◌++◌, ℕ, ℤ, pos}
use Rattle.base.specs.Verdict.{Verdict}
use Rattle.party.specs.Party.{Party}
use Rattle.board_calls.specs.Calls.{set_up_of, start_questions, take_questions, called_of, answered_of}
use Rattle.board_calls.specs.Restore.{restore_questions, restored_of}

-- a call for agreement 1
pub data Call : Type 0 where
  set_up : (n t own : ℕ) (plan : List ℕ) → Call
  -- the lengths are the journal's, its used bytes' and the outgoing buffer's
  start : (p : Party) (input : ℤ) (room used out : ℕ) → Call
  take : (p : Party) (sender : ℕ) (bytes : List ℕ) (room used out : ℕ) → Call
  read : (p : Party) → Call
  restore : (n t own : ℕ) (plan journal : List ℕ) (out : ℕ) → Call

-- what a row says of a call
pub data Row : Type 0 where
  -- the question that refuses it, and the place
  refuses : Call → (question place : ℕ) → Row
  -- it is accepted, and so many bytes of the journal are then used; a set-up and a reading use none
  accepts : Call → (used : ℕ) → Row

-- a call's verdict
abbrev pub verdict_of : Call → Verdict
verdict_of (set_up n t own plan) = (set_up_of n t own 1 plan).verdict
verdict_of (start p input room used out) = (called_of p used (start_questions p input room used out)).verdict
verdict_of (take p s bytes room used out) = (called_of p used (take_questions p s bytes room used out)).verdict
verdict_of (read p) = (answered_of p).verdict
verdict_of (restore n t own plan journal out) = (restored_of (restore_questions n t own 1 plan journal out)).verdict

-- the used length after it
abbrev pub used_after : Call → ℕ
used_after (set_up n t own plan) = 0
used_after (start p input room used out) = (called_of p used (start_questions p input room used out)).used
used_after (take p s bytes room used out) = (called_of p used (take_questions p s bytes room used out)).used
used_after (read p) = 0
used_after (restore n t own plan journal out) = (restored_of (restore_questions n t own 1 plan journal out)).used

-- what a row claims
abbrev pub Holds : Row → Type 0
Holds (refuses c question place) = verdict_of c ≡ Verdict.Refused question place
Holds (accepts c used) = (verdict_of c ≡ Verdict.Accepted) × (used_after c ≡ used)

-- ---- what the calls get; bytes are hexadecimal

-- the readings 0 to 2
abbrev pub range : List ℕ
range = 0x02 ∷ 0x00 ∷ 0x02 ∷ []

-- 18 vertices, of which vertex 0 is joined to 1 to 15: the next edge begins at byte 32, its second end at 33
abbrev pub star : List ℕ
star =
    0x01 ∷ 0x12
    ∷ 0x00 ∷ 0x01 ∷ 0x00 ∷ 0x02 ∷ 0x00 ∷ 0x03 ∷ 0x00 ∷ 0x04 ∷ 0x00 ∷ 0x05
    ∷ 0x00 ∷ 0x06 ∷ 0x00 ∷ 0x07 ∷ 0x00 ∷ 0x08 ∷ 0x00 ∷ 0x09 ∷ 0x00 ∷ 0x0A
    ∷ 0x00 ∷ 0x0B ∷ 0x00 ∷ 0x0C ∷ 0x00 ∷ 0x0D ∷ 0x00 ∷ 0x0E ∷ 0x00 ∷ 0x0F
    ∷ []

-- board 0 of four, one of which may be faulty, on that range: set up, then started at 1; and set up, then given board 3's first echo of 2
abbrev pub fresh : Party
fresh = (set_up_of 4 1 0 1 range).party

abbrev pub begun : Party
begun = (called_of fresh 0 (start_questions fresh (pos 1) 3 0 2640)).party

abbrev pub holding : Party
holding = (called_of fresh 0 (take_questions fresh 3 (0x01 ∷ 0x00 ∷ 0x01 ∷ 0x02 ∷ []) 6 0 2640)).party

-- the record with as many faulty boards as boards
abbrev pub damaged : Party → Party
damaged p = record { n = p.n; t = p.n; own = p.own; agreement = p.agreement; plan = p.plan; levels = p.levels }

-- a start of this agreement at 1 and board 3's first echo of 2, as records, and a byte that begins no record
abbrev pub start_record : List ℕ
start_record = 0x01 ∷ 0x01 ∷ 0x01 ∷ []

abbrev pub echo_record : List ℕ
echo_record = 0x02 ∷ 0x03 ∷ 0x01 ∷ 0x00 ∷ 0x01 ∷ 0x02 ∷ []

abbrev pub no_record : List ℕ
no_record = 0x03 ∷ []

-- four boards, range, a journal
abbrev pub replay : List ℕ → Call
replay journal = restore 4 1 0 range journal 2640

unfoldable pub table : List Row
table =
    -- ---- set-up, settings: 1, 2, 3, the plan
    -- 17 boards, 6 of them faulty, own number 17, a plan of one byte that no group ends with
    refuses (set_up 17 6 17 (0x80 ∷ [])) 1 0
    -- 16 boards
    ∷ refuses (set_up 16 6 17 (0x80 ∷ [])) 2 0
    -- 5 faulty
    ∷ refuses (set_up 16 5 17 (0x80 ∷ [])) 3 0
    -- own number 15
    ∷ refuses (set_up 16 5 15 (0x80 ∷ [])) 4 0
    -- ---- the plan, left to right
    -- a kind that is not in the fewest bytes, and 0 vertices
    ∷ refuses (set_up 4 1 0 (0x80 ∷ 0x00 ∷ 0x00 ∷ [])) 4 0
    -- kind 0, and 0 vertices
    ∷ refuses (set_up 4 1 0 (0x00 ∷ 0x00 ∷ [])) 5 0
    -- kind 3, and the next group is not whole
    ∷ refuses (set_up 4 1 0 (0x03 ∷ 0x80 ∷ [])) 5 0
    -- a tree, its vertex count is not whole
    ∷ refuses (set_up 4 1 0 (0x01 ∷ 0x80 ∷ [])) 4 1
    -- 0 vertices, and a spare byte
    ∷ refuses (set_up 4 1 0 (0x01 ∷ 0x00 ∷ 0x00 ∷ [])) 6 1
    -- 256 vertices, and the first edge is not whole
    ∷ refuses (set_up 4 1 0 (0x01 ∷ 0x80 ∷ 0x02 ∷ 0x80 ∷ [])) 6 1
    -- 255 vertices
    ∷ refuses (set_up 4 1 0 (0x01 ∷ 0xFF ∷ 0x01 ∷ 0x80 ∷ [])) 4 3
    -- 3 vertices: an edge from 3 to a group that is not whole; "both groups of an edge .. read before 7"
    ∷ refuses (set_up 4 1 0 (0x01 ∷ 0x03 ∷ 0x03 ∷ 0x80 ∷ [])) 4 3
    -- the edge from 3 to 0, and the next edge is not whole
    ∷ refuses (set_up 4 1 0 (0x01 ∷ 0x03 ∷ 0x03 ∷ 0x00 ∷ 0x80 ∷ [])) 7 3
    -- the edges 0 to 1 and 1 to 1: its ends are joined, being one
    ∷ refuses (set_up 4 1 0 (0x01 ∷ 0x03 ∷ 0x00 ∷ 0x01 ∷ 0x01 ∷ 0x01 ∷ 0x00 ∷ [])) 7 5
    -- the edges 0 to 1 and 1 to 0, and a spare byte
    ∷ refuses (set_up 4 1 0 (0x01 ∷ 0x03 ∷ 0x00 ∷ 0x01 ∷ 0x01 ∷ 0x00 ∷ 0x00 ∷ [])) 8 5
    -- the edges 0 to 1 and 1 to 2, and the spare byte is no group
    ∷ refuses (set_up 4 1 0 (0x01 ∷ 0x03 ∷ 0x00 ∷ 0x01 ∷ 0x01 ∷ 0x02 ∷ 0x80 ∷ [])) 11 6
    -- no spare byte
    ∷ accepts (set_up 4 1 0 (0x01 ∷ 0x03 ∷ 0x00 ∷ 0x01 ∷ 0x01 ∷ 0x02 ∷ [])) 0
    -- the star's centre has 15 edges: one more to vertex 18 of 18, and the last edge is not whole
    ∷ refuses (set_up 4 1 0 (star ++ (0x00 ∷ 0x12 ∷ 0x80 ∷ []))) 7 33
    -- to vertex 1, which it is joined to
    ∷ refuses (set_up 4 1 0 (star ++ (0x00 ∷ 0x01 ∷ 0x80 ∷ []))) 8 33
    -- to vertex 16
    ∷ refuses (set_up 4 1 0 (star ++ (0x00 ∷ 0x10 ∷ 0x80 ∷ []))) 9 33
    -- from vertex 1 to vertex 16
    ∷ refuses (set_up 4 1 0 (star ++ (0x01 ∷ 0x10 ∷ 0x80 ∷ []))) 4 34
    -- a range with the highest low, whose width is not in the fewest bytes; "both groups of .. a range read before .. 10"
    ∷ refuses (set_up 4 1 0 (0x02 ∷ 0xFE ∷ 0xFF ∷ 0xFF ∷ 0xFF ∷ 0x0F ∷ 0x80 ∷ 0x00 ∷ [])) 4 6
    -- width 1, and a spare byte
    ∷ refuses (set_up 4 1 0 (0x02 ∷ 0xFE ∷ 0xFF ∷ 0xFF ∷ 0xFF ∷ 0x0F ∷ 0x01 ∷ 0x80 ∷ [])) 10 6
    -- width 0
    ∷ refuses (set_up 4 1 0 (0x02 ∷ 0xFE ∷ 0xFF ∷ 0xFF ∷ 0xFF ∷ 0x0F ∷ 0x00 ∷ 0x80 ∷ [])) 11 7
    -- no spare byte
    ∷ accepts (set_up 4 1 0 (0x02 ∷ 0xFE ∷ 0xFF ∷ 0xFF ∷ 0xFF ∷ 0x0F ∷ 0x00 ∷ [])) 0
    -- ---- start: 19, 18, 20, 13, 12, 17
    -- a started party with a damaged record, an input off the plan, 3 used bytes of 2, an outgoing buffer of 2,639
    ∷ refuses (start (damaged begun) (pos 3) 2 3 2639) 19 0
    -- not damaged
    ∷ refuses (start begun (pos 3) 2 3 2639) 18 0
    -- 2,640
    ∷ refuses (start begun (pos 3) 2 3 2640) 20 0
    -- 2 used bytes of 2
    ∷ refuses (start begun (pos 3) 2 2 2640) 13 0
    -- not started
    ∷ refuses (start fresh (pos 3) 2 2 2640) 12 0
    -- on the plan
    ∷ refuses (start fresh (pos 2) 2 2 2640) 17 0
    -- 5 bytes
    ∷ accepts (start fresh (pos 2) 5 2 2640) 5
    -- started, on the plan, no room
    ∷ refuses (start begun (pos 2) 2 2 2640) 13 0
    -- ---- take: 19, 18, 20, 14, then 15, 22, 23 or 24, 16, 17
    -- a damaged record, sender 4 of 4, a first echo of agreement 2 without its value, 3 used bytes of 2, an outgoing buffer of 2,639
    ∷ refuses (take (damaged fresh) 4 (0x02 ∷ 0x00 ∷ 0x01 ∷ []) 2 3 2639) 19 0
    -- not damaged
    ∷ refuses (take fresh 4 (0x02 ∷ 0x00 ∷ 0x01 ∷ []) 2 3 2639) 18 0
    -- 2,640
    ∷ refuses (take fresh 4 (0x02 ∷ 0x00 ∷ 0x01 ∷ []) 2 3 2640) 20 0
    -- 2 used bytes of 2
    ∷ refuses (take fresh 4 (0x02 ∷ 0x00 ∷ 0x01 ∷ []) 2 2 2640) 14 0
    -- sender 3
    ∷ refuses (take fresh 3 (0x02 ∷ 0x00 ∷ 0x01 ∷ []) 2 2 2640) 15 3
    -- with its value
    ∷ refuses (take fresh 3 (0x02 ∷ 0x00 ∷ 0x01 ∷ 0x02 ∷ []) 2 2 2640) 16 0
    -- of agreement 1
    ∷ refuses (take fresh 3 (0x01 ∷ 0x00 ∷ 0x01 ∷ 0x02 ∷ []) 2 2 2640) 17 0
    -- 8 bytes
    ∷ accepts (take fresh 3 (0x01 ∷ 0x00 ∷ 0x01 ∷ 0x02 ∷ []) 8 2 2640) 8
    -- sender 4, a message of agreement 2
    ∷ refuses (take fresh 4 (0x02 ∷ 0x00 ∷ 0x01 ∷ 0x02 ∷ []) 8 2 2640) 14 0
    -- sender 4, no room
    ∷ refuses (take fresh 4 (0x01 ∷ 0x00 ∷ 0x01 ∷ 0x02 ∷ []) 2 2 2640) 14 0
    -- sender 4, level 15
    ∷ refuses (take fresh 4 (0x02 ∷ 0x0F ∷ 0x01 ∷ 0x02 ∷ []) 2 2 2640) 14 0
    -- of agreement 2, no room: its number not in the fewest bytes; of level 15; with a spare byte: 22, 23 and 24 before 16 and 17
    ∷ refuses (take fresh 3 (0x82 ∷ 0x00 ∷ 0x00 ∷ 0x01 ∷ 0x02 ∷ []) 2 2 2640) 22 0
    ∷ refuses (take fresh 3 (0x02 ∷ 0x0F ∷ 0x01 ∷ 0x02 ∷ []) 2 2 2640) 23 1
    ∷ refuses (take fresh 3 (0x02 ∷ 0x00 ∷ 0x01 ∷ 0x02 ∷ 0x00 ∷ []) 2 2 2640) 24 4
    -- "Held already, or record fits?": held already, no room; accepted with no record
    ∷ accepts (take holding 3 (0x01 ∷ 0x00 ∷ 0x01 ∷ 0x02 ∷ []) 2 2 2640) 2
    -- the same of agreement 2
    ∷ refuses (take holding 3 (0x02 ∷ 0x00 ∷ 0x01 ∷ 0x02 ∷ []) 2 2 2640) 16 0
    -- ---- reading the answer: 19
    -- a damaged record
    ∷ refuses (read (damaged begun)) 19 0
    -- not damaged
    ∷ accepts (read begun) 0
    -- ---- restore: 18, 1, 2, 3, the plan, the records
    -- an outgoing buffer of 2,639, 17 boards, 6 of them faulty, own number 17, a plan with a spare byte, no record
    ∷ refuses (restore 17 6 17 (range ++ (0x00 ∷ [])) no_record 2639) 18 0
    -- 2,640
    ∷ refuses (restore 17 6 17 (range ++ (0x00 ∷ [])) no_record 2640) 1 0
    -- 16 boards
    ∷ refuses (restore 16 6 17 (range ++ (0x00 ∷ [])) no_record 2640) 2 0
    -- 5 faulty
    ∷ refuses (restore 16 5 17 (range ++ (0x00 ∷ [])) no_record 2640) 3 0
    -- own number 15
    ∷ refuses (restore 16 5 15 (range ++ (0x00 ∷ [])) no_record 2640) 11 3
    -- no spare byte
    ∷ refuses (restore 16 5 15 range no_record 2640) 21 0
    -- ---- a taken record, after a start's: 21, 16, 14
    -- sender 4 of 4, agreement 2, a first echo of 17
    ∷ refuses (replay (start_record ++ (0x02 ∷ 0x04 ∷ 0x02 ∷ 0x00 ∷ 0x01 ∷ 0x11 ∷ []))) 21 3
    -- of 2
    ∷ refuses (replay (start_record ++ (0x02 ∷ 0x04 ∷ 0x02 ∷ 0x00 ∷ 0x01 ∷ 0x02 ∷ []))) 16 3
    -- agreement 1
    ∷ refuses (replay (start_record ++ (0x02 ∷ 0x04 ∷ 0x01 ∷ 0x00 ∷ 0x01 ∷ 0x02 ∷ []))) 14 3
    -- sender 3
    ∷ accepts (replay (start_record ++ echo_record)) 9
    -- cut inside a level: 8E could only become a level outside the table, so the record is not torn; cut before the level it is
    ∷ refuses (replay (start_record ++ (0x02 ∷ 0x03 ∷ 0x01 ∷ 0x8E ∷ []))) 21 3
    ∷ accepts (replay (start_record ++ (0x02 ∷ 0x03 ∷ 0x01 ∷ []))) 3
    -- agreement number 1 in two bytes
    ∷ refuses (replay (start_record ++ (0x02 ∷ 0x03 ∷ 0x81 ∷ 0x00 ∷ []))) 21 3
    -- ---- a start's record, after another: 21, 16, 13, 12
    -- agreement 2, position 65,536
    ∷ refuses (replay (start_record ++ (0x01 ∷ 0x02 ∷ 0x80 ∷ 0x80 ∷ 0x04 ∷ []))) 21 3
    -- position 3
    ∷ refuses (replay (start_record ++ (0x01 ∷ 0x02 ∷ 0x03 ∷ []))) 16 3
    -- agreement 1
    ∷ refuses (replay (start_record ++ (0x01 ∷ 0x01 ∷ 0x03 ∷ []))) 13 3
    -- not after another
    ∷ refuses (replay (0x01 ∷ 0x01 ∷ 0x03 ∷ [])) 12 0
    -- position 1
    ∷ accepts (replay start_record) 3
    -- ---- record by record: each question of one before any of the next
    -- a position of 65,536, then a start of agreement 2
    ∷ refuses (replay (0x01 ∷ 0x01 ∷ 0x80 ∷ 0x80 ∷ 0x04 ∷ 0x01 ∷ 0x02 ∷ 0x01 ∷ [])) 21 0
    -- a start of agreement 2, then no record
    ∷ refuses (replay (0x01 ∷ 0x02 ∷ 0x01 ∷ no_record)) 16 0
    -- a message from sender 4, then no record
    ∷ refuses (replay (0x02 ∷ 0x04 ∷ 0x01 ∷ 0x00 ∷ 0x01 ∷ 0x02 ∷ no_record)) 14 0
    -- a second start, then no record
    ∷ refuses (replay ((start_record ++ start_record) ++ no_record)) 13 3
    -- a start off the plan, then no record
    ∷ refuses (replay (0x01 ∷ 0x01 ∷ 0x03 ∷ no_record)) 12 0
    -- two records, then none
    ∷ refuses (replay ((start_record ++ echo_record) ++ no_record)) 21 9
    -- ---- a torn last record is dropped, whatever it shows
    -- of a message, sender 4
    ∷ accepts (replay (start_record ++ (0x02 ∷ 0x04 ∷ []))) 3
    -- and of agreement 2
    ∷ accepts (replay (start_record ++ (0x02 ∷ 0x04 ∷ 0x02 ∷ []))) 3
    -- of a second start, of agreement 2
    ∷ accepts (replay (start_record ++ (0x01 ∷ 0x02 ∷ []))) 3
    -- sender 16: no further bytes could make it whole
    ∷ refuses (replay (start_record ++ (0x02 ∷ 0x10 ∷ []))) 21 3
    -- after a start off the plan
    ∷ refuses (replay (0x01 ∷ 0x01 ∷ 0x03 ∷ 0x02 ∷ [])) 12 0
    ∷ []
