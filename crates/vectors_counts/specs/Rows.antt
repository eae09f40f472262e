-- Document 02, Q-6: "A rounded step off the range, or a plan that is no range, is refused by 12. 25 when g is odd or out of its limits, asked before 13. The
-- count answer's call, on a party, asks 19, 25, 12 as a start does, and gives none before an answer." A table of starts by count and of answers read as counts.
-- proofs/Table.antt shows that every row holds.
use Rattle.std.specs.Prelude.{◌≡◌, List, [], ◌∷◌, ℕ, ℤ, pos, replicate, Option, Some, None}
use Rattle.base.specs.Verdict.{Verdict}
use Rattle.base.specs.Found.{Found}
use Rattle.party.specs.Party.{Party}
use Rattle.board_calls.specs.Answers.{Answer}
use Rattle.board_calls.specs.Calls.{Entry, set_up_of, start_questions, called_of, journal_after, outgoing_after}
use Rattle.board_calls.specs.Counts.{start_count_questions, remainder_in, count_questions, count_gives}
use Rattle.vectors_questions.specs.Rows.{damaged}
use Rattle.vectors_counts.specs.Numbers.{minus, most, least}

-- ---- rows

-- a call by the count c, in steps of g counts
pub data Call : Type 0 where
  -- the lengths are the journal's, its used bytes' and the outgoing buffer's
  start : (p : Party) (g : ℕ) (c : ℤ) (room used out : ℕ) → Call
  read : (p : Party) (g : ℕ) (c : ℤ) → Call

-- what a row says of a call
pub data Row : Type 0 where
  -- the question that refuses it; the place is 0
  refuses : Call → (question : ℕ) → Row
  -- an accepted start: the journal after it, whose last bytes are its record, and the remainder
  begins : (p : Party) (g : ℕ) (c : ℤ) (room used out : ℕ) (journal : List ℕ) (rest : ℤ) → Row
  -- a start that does what a plain start at this reading does
  starts_as : (p : Party) (g : ℕ) (c : ℤ) (reading : ℤ) → Row
  -- an accepted reading, before an answer and with one
  waits : (p : Party) (g : ℕ) (c : ℤ) → Row
  answers : (p : Party) (g : ℕ) (c a : ℤ) → Row

-- what a call gives: a start its verdict, the journal's used length, the journal and the remainder; of any start the verdict, the journal, the outgoing bytes
-- and how many rules were applied; a reading its verdict and the answer
pub data Gives : Type 0 where
  started : (verdict : Verdict) (used : ℕ) (journal : List ℕ) (rest : Option ℤ) → Gives
  does : (verdict : Verdict) (journal outgoing : List ℕ) (rules : ℕ) → Gives
  read : (verdict : Verdict) (answer : Answer) → Gives

-- the lent journal: so many bytes FF
abbrev pub lent : ℕ → List ℕ
lent room = replicate room 0xFF

abbrev pub start_gives : Party → ℕ → ℤ → ℕ → ℕ → Found Entry → Gives
start_gives p g c room used q = started (called_of p used q).verdict (called_of p used q).used (journal_after (lent room) used q) (remainder_in g c q)

-- with a journal and an outgoing buffer that are long enough
abbrev pub start_does : Party → Found Entry → Gives
start_does p q = does (called_of p 0 q).verdict (journal_after (lent 9) 0 q) (outgoing_after [] q) (called_of p 0 q).rules

abbrev pub call_gives : Call → Gives
call_gives (start p g c room used out) = start_gives p g c room used (start_count_questions p g c room used out)
call_gives (read p g c) = read (count_gives (count_questions p g c)).verdict (count_gives (count_questions p g c)).answer

-- a refused start reports no remainder and leaves the journal; a refused reading gives no answer
abbrev pub refusal : Call → ℕ → Gives
refusal (start p g c room used out) question = started (Verdict.Refused question 0) used (lent room) None
refusal (read p g c) question = read (Verdict.Refused question 0) None

abbrev pub computed : Row → Gives
computed (refuses call question) = call_gives call
computed (begins p g c room used out journal rest) = call_gives (start p g c room used out)
computed (starts_as p g c reading) = start_does p (start_count_questions p g c 9 0 2640)
computed (waits p g c) = call_gives (read p g c)
computed (answers p g c a) = call_gives (read p g c)

abbrev pub said : Row → Gives
said (refuses call question) = refusal call question
said (begins p g c room used out journal rest) = started Verdict.Accepted room journal (Some rest)
said (starts_as p g c reading) = start_does p (start_questions p reading 9 0 2640)
said (waits p g c) = read Verdict.Accepted None
said (answers p g c a) = read Verdict.Accepted (Some a)

-- what a row claims
abbrev pub Holds : Row → Type 0
Holds r = computed r ≡ said r

-- ---- the parties, of agreement 1; bytes are hexadecimal

-- the readings -2 to 2; 4 and 5; -5 and -4; the highest reading, and the lowest; a tree of two vertices
abbrev pub middle : List ℕ
middle = 0x02 ∷ 0x03 ∷ 0x04 ∷ []

abbrev pub above : List ℕ
above = 0x02 ∷ 0x08 ∷ 0x01 ∷ []

abbrev pub below : List ℕ
below = 0x02 ∷ 0x09 ∷ 0x01 ∷ []

abbrev pub highest : List ℕ
highest = 0x02 ∷ 0xFE ∷ 0xFF ∷ 0xFF ∷ 0xFF ∷ 0x0F ∷ 0x00 ∷ []

abbrev pub lowest : List ℕ
lowest = 0x02 ∷ 0xFF ∷ 0xFF ∷ 0xFF ∷ 0xFF ∷ 0x0F ∷ 0x00 ∷ []

abbrev pub tree : List ℕ
tree = 0x01 ∷ 0x02 ∷ 0x00 ∷ 0x01 ∷ []

-- board 0 of four, one of which may be faulty, on the readings -2 to 2: set up, and started by the count 10
abbrev pub fresh : Party
fresh = (set_up_of 4 1 0 1 middle).party

abbrev pub by_count : Party → ℕ → ℤ → Party
by_count p g c = (called_of p 0 (start_count_questions p g c 9 0 2640)).party

abbrev pub begun : Party
begun = by_count fresh 10 (pos 10)

-- a board alone, which has its answer from the start on where the plan has one or two positions
abbrev pub alone : List ℕ → Party
alone plan = (set_up_of 1 0 0 1 plan).party

-- it started at a vertex or reading
abbrev pub at : List ℕ → ℤ → Party
at plan input = (called_of (alone plan) 0 (start_questions (alone plan) input 9 0 2640)).party

unfoldable pub table : List Row
table =
    -- ---- a start by count: 19, 18, 20, 25, 13, 12, 17: in each row every later question fails as well, and the next row mends the one that answered
    -- a started party with a damaged record, steps of 3 counts, a step off the range, 3 used bytes of 2, an outgoing buffer of 2,639
    refuses (start (damaged begun) 3 (pos 30) 2 3 2639) 19
    -- not damaged
    ∷ refuses (start begun 3 (pos 30) 2 3 2639) 18
    -- 2,640
    ∷ refuses (start begun 3 (pos 30) 2 3 2640) 20
    -- 2 used bytes of 2
    ∷ refuses (start begun 3 (pos 30) 2 2 2640) 25
    -- steps of 10
    ∷ refuses (start begun 10 (pos 30) 2 2 2640) 13
    -- not started
    ∷ refuses (start fresh 10 (pos 30) 2 2 2640) 12
    -- step 2
    ∷ refuses (start fresh 10 (pos 24) 2 2 2640) 17
    -- 5 bytes: a record of a start at position 4
    ∷ begins fresh 10 (pos 24) 5 2 2640 (0xFF ∷ 0xFF ∷ 0x01 ∷ 0x01 ∷ 0x04 ∷ []) (pos 4)
    -- ---- neighbouring questions, those two alone
    ∷ refuses (start (damaged fresh) 10 (pos 24) 5 2 2639) 19
    ∷ refuses (start fresh 10 (pos 24) 5 6 2639) 18
    ∷ refuses (start fresh 11 (pos 24) 5 6 2640) 20
    ∷ refuses (start begun 11 (pos 24) 5 2 2640) 25
    ∷ refuses (start begun 10 (pos 26) 5 2 2640) 13
    ∷ refuses (start fresh 10 (pos 26) 4 2 2640) 12
    -- 25 before 12, and before 17
    ∷ refuses (start fresh 11 (pos 100) 5 2 2640) 25
    ∷ refuses (start fresh 11 (pos 11) 4 2 2640) 25
    -- ---- each question alone
    ∷ refuses (start (damaged fresh) 10 (pos 24) 5 2 2640) 19
    ∷ refuses (start fresh 10 (pos 24) 5 2 2639) 18
    ∷ refuses (start fresh 10 (pos 24) 5 6 2640) 20
    ∷ refuses (start fresh 11 (pos 11) 5 2 2640) 25
    ∷ refuses (start begun 10 (pos 24) 5 2 2640) 13
    ∷ refuses (start fresh 10 (pos 26) 5 2 2640) 12
    ∷ refuses (start fresh 10 (pos 24) 4 2 2640) 17
    -- 25 of the count 0, which has a step whatever the size
    ∷ refuses (start fresh 0 (pos 0) 3 0 2640) 25
    ∷ refuses (start fresh 999 (pos 0) 3 0 2640) 25
    ∷ refuses (start fresh 1001 (pos 0) 3 0 2640) 25
    ∷ refuses (start fresh 1002 (pos 0) 3 0 2640) 25
    ∷ refuses (start fresh 4294967295 (pos 0) 3 0 2640) 25
    ∷ begins fresh 2 (pos 0) 3 0 2640 (0x01 ∷ 0x01 ∷ 0x02 ∷ []) (pos 0)
    ∷ begins fresh 1000 (pos 0) 3 0 2640 (0x01 ∷ 0x01 ∷ 0x02 ∷ []) (pos 0)
    -- ---- the ends of the range: steps 2 and -2 up to their halves, 3 and -3 from there on
    ∷ begins fresh 10 (pos 25) 3 0 2640 (0x01 ∷ 0x01 ∷ 0x04 ∷ []) (pos 5)
    ∷ refuses (start fresh 10 (pos 26) 3 0 2640) 12
    ∷ begins fresh 10 (minus 25) 3 0 2640 (0x01 ∷ 0x01 ∷ 0x00 ∷ []) (minus 5)
    ∷ refuses (start fresh 10 (minus 26) 3 0 2640) 12
    -- where the range ends nearer to zero the half is off it
    ∷ refuses (start (alone above) 10 (pos 35) 3 0 2640) 12
    ∷ begins (alone above) 10 (pos 36) 3 0 2640 (0x01 ∷ 0x01 ∷ 0x00 ∷ []) (minus 4)
    ∷ begins (alone above) 10 (pos 55) 3 0 2640 (0x01 ∷ 0x01 ∷ 0x01 ∷ []) (pos 5)
    ∷ refuses (start (alone above) 10 (pos 56) 3 0 2640) 12
    ∷ refuses (start (alone below) 10 (minus 35) 3 0 2640) 12
    ∷ begins (alone below) 10 (minus 36) 3 0 2640 (0x01 ∷ 0x01 ∷ 0x01 ∷ []) (pos 4)
    ∷ begins (alone below) 10 (minus 55) 3 0 2640 (0x01 ∷ 0x01 ∷ 0x00 ∷ []) (minus 5)
    ∷ refuses (start (alone below) 10 (minus 56) 3 0 2640) 12
    -- the highest reading and the lowest, and the ends of 64 bits, which lie beyond them
    ∷ begins (alone highest) 1000 (pos 2147483647500) 3 0 2640 (0x01 ∷ 0x01 ∷ 0x00 ∷ []) (pos 500)
    ∷ refuses (start (alone highest) 1000 (pos 2147483647501) 3 0 2640) 12
    ∷ refuses (start (alone highest) 1000 most 3 0 2640) 12
    ∷ begins (alone lowest) 1000 (minus 2147483648500) 3 0 2640 (0x01 ∷ 0x01 ∷ 0x00 ∷ []) (minus 500)
    ∷ refuses (start (alone lowest) 1000 (minus 2147483648501) 3 0 2640) 12
    ∷ refuses (start (alone lowest) 1000 least 3 0 2640) 12
    -- ---- a tree, whose vertex 1 the count 10 would be, in steps of 10: 25 and 13 before 12, 12 before 17
    ∷ refuses (start (at tree (pos 1)) 11 (pos 11) 5 2 2640) 25
    ∷ refuses (start (at tree (pos 1)) 10 (pos 10) 5 2 2640) 13
    ∷ refuses (start (alone tree) 10 (pos 10) 4 2 2640) 12
    ∷ refuses (start (alone tree) 10 (pos 10) 5 2 2640) 12
    -- ---- a start by count is the start of its step, also where that is refused
    ∷ starts_as fresh 10 (pos 14) (pos 1)
    ∷ starts_as fresh 10 (minus 5) (pos 0)
    ∷ starts_as fresh 10 (minus 16) (minus 2)
    ∷ starts_as (alone above) 1000 (pos 4501) (pos 5)
    ∷ starts_as fresh 10 (pos 26) (pos 3)
    -- ---- reading the answer as a count: 19, 25, 12, in the same way
    -- a damaged record, steps of 3 counts, a step off the range
    ∷ refuses (read (damaged begun) 3 (pos 30)) 19
    -- not damaged
    ∷ refuses (read begun 3 (pos 30)) 25
    -- steps of 10
    ∷ refuses (read begun 10 (pos 30)) 12
    -- step 2, no answer yet
    ∷ waits begun 10 (pos 24)
    -- the same of a board with an answer
    ∷ refuses (read (damaged (at above (pos 4))) 3 (pos 30)) 19
    ∷ refuses (read (at above (pos 4)) 3 (pos 30)) 25
    ∷ refuses (read (at above (pos 4)) 10 (pos 30)) 12
    ∷ answers (at above (pos 4)) 10 (pos 40) (pos 40)
    -- 19 and 25 alone; 19 before 12
    ∷ refuses (read (damaged begun) 10 (pos 24)) 19
    ∷ refuses (read begun 11 (pos 11)) 25
    ∷ refuses (read (damaged begun) 10 (pos 30)) 19
    -- a tree: 25, then 12, with an answer and without
    ∷ refuses (read (at tree (pos 1)) 11 (pos 11)) 25
    ∷ refuses (read (at tree (pos 1)) 10 (pos 10)) 12
    ∷ refuses (read (alone tree) 10 (pos 10)) 12
    -- ---- "none before an answer": set up alone
    ∷ waits fresh 10 (pos 24)
    ∷ waits (alone above) 10 (pos 40)
    -- ---- the answer 4, then 5, read by counts from one end of the range to the other; one count further is 12
    ∷ refuses (read (at above (pos 4)) 10 (pos 35)) 12
    ∷ answers (at above (pos 4)) 10 (pos 36) (pos 36)
    ∷ answers (at above (pos 4)) 10 (pos 45) (pos 45)
    ∷ answers (at above (pos 4)) 10 (pos 46) (pos 45)
    ∷ answers (at above (pos 4)) 10 (pos 55) (pos 45)
    ∷ refuses (read (at above (pos 4)) 10 (pos 56)) 12
    ∷ answers (at above (pos 5)) 10 (pos 36) (pos 45)
    ∷ answers (at above (pos 5)) 10 (pos 46) (pos 46)
    ∷ answers (at above (pos 5)) 10 (pos 55) (pos 55)
    -- the answer -4, then -5
    ∷ refuses (read (at below (minus 4)) 10 (minus 35)) 12
    ∷ answers (at below (minus 4)) 10 (minus 36) (minus 36)
    ∷ answers (at below (minus 4)) 10 (minus 45) (minus 45)
    ∷ answers (at below (minus 4)) 10 (minus 46) (minus 45)
    ∷ answers (at below (minus 4)) 10 (minus 55) (minus 45)
    ∷ refuses (read (at below (minus 4)) 10 (minus 56)) 12
    ∷ answers (at below (minus 5)) 10 (minus 36) (minus 45)
    ∷ answers (at below (minus 5)) 10 (minus 46) (minus 46)
    ∷ answers (at below (minus 5)) 10 (minus 55) (minus 55)
    -- a board alone that started by a count reads that count
    ∷ answers (by_count (alone above) 10 (pos 46)) 10 (pos 46) (pos 46)
    ∷ answers (by_count (alone below) 1000 (minus 4500)) 1000 (minus 4500) (minus 4500)
    ∷ answers (by_count (alone highest) 1000 (pos 2147483647500)) 1000 (pos 2147483647500) (pos 2147483647500)
    ∷ answers (by_count (alone lowest) 1000 (minus 2147483648500)) 1000 (minus 2147483648500) (minus 2147483648500)
    ∷ []
