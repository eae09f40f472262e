-- Document 02, Q-13: "Its reading asks the first party's questions, the second's, then 27 for equal numbers and 12 for a plan that is no range." A table of
-- readings of two parties as a pair. proofs/Table.antt shows that every row holds.
use Rattle.std.specs.Prelude.{◌≡◌, List, [], ◌∷◌, ℕ, ℤ, pos, negsuc, Some, None}
use Rattle.base.specs.Verdict.{Verdict}
use Rattle.party.specs.Party.{Party}
use Rattle.board_calls.specs.Calls.{no_party, set_up_of, start_questions, called_of}
use Rattle.board_calls.specs.Restore.{restore_questions, restored_of}
use Rattle.board_pair.specs.Pair.{pair_questions, pair_gives, PairAnswered}
use Rattle.vectors_questions.specs.Rows.{range, damaged}

-- what a row says of reading the first and the second party
pub data Row : Type 0 where
  -- the question that refuses it, and the place
  refuses : (p q : Party) (question place : ℕ) → Row
  -- it is accepted, and there is no answer yet
  waits : (p q : Party) → Row
  -- it is accepted, and these are the two readings
  answers : (p q : Party) (y z : ℤ) → Row

-- what the call gives
abbrev pub reading : Party → Party → PairAnswered
reading p q = pair_gives (pair_questions p q)

-- what a row claims
abbrev pub Holds : Row → Type 0
Holds (refuses p q question place) = reading p q ≡ record { verdict = Verdict.Refused question place; answer = None }
Holds (waits p q) = reading p q ≡ record { verdict = Verdict.Accepted; answer = None }
Holds (answers p q y z) = reading p q ≡ record { verdict = Verdict.Accepted; answer = Some (y, z) }

-- ---- the parties: of a board alone, which has its answer from the start on where the plan has one or two positions; bytes are hexadecimal

-- set up for a vote with this agreement number and plan, and started at an input
abbrev pub new : ℕ → List ℕ → Party
new agreement plan = (set_up_of 1 0 0 agreement plan).party

abbrev pub started : Party → ℤ → Party
started p input = (called_of p 0 (start_questions p input 9 0 2640)).party

-- the readings -5 and -4; 20 and 21; the lowest reading, and the highest; a tree of two vertices
abbrev pub below : List ℕ
below = 0x02 ∷ 0x09 ∷ 0x01 ∷ []

abbrev pub above : List ℕ
above = 0x02 ∷ 0x28 ∷ 0x01 ∷ []

abbrev pub lowest : List ℕ
lowest = 0x02 ∷ 0xFF ∷ 0xFF ∷ 0xFF ∷ 0xFF ∷ 0x0F ∷ 0x00 ∷ []

abbrev pub highest : List ℕ
highest = 0x02 ∷ 0xFE ∷ 0xFF ∷ 0xFF ∷ 0xFF ∷ 0x0F ∷ 0x00 ∷ []

abbrev pub tree : List ℕ
tree = 0x01 ∷ 0x02 ∷ 0x00 ∷ 0x01 ∷ []

-- both votes with an answer, -5 and 21, and the vote on the tree with one
abbrev pub level : Party
level = started (new 1 below) (negsuc 4)

abbrev pub temperature : Party
temperature = started (new 2 above) (pos 21)

abbrev pub mode : ℕ → Party
mode agreement = started (new agreement tree) (pos 1)

-- the first one restored from its journal
abbrev pub restored : Party
restored = (restored_of (restore_questions 1 0 0 1 below (0x01 ∷ 0x01 ∷ 0x00 ∷ []) 2640)).party

unfoldable pub table : List Row
table =
    -- ---- 19 of the first, 19 of the second, 27, 12: in each row every later question fails as well, and the next row mends the one that answered
    -- two damaged records of one vote on a tree; 19 has one number and place for both, so then the first alone, and the second alone
    refuses (damaged (mode 1)) (damaged (mode 1)) 19 0
    ∷ refuses (damaged (mode 1)) (mode 1) 19 0
    ∷ refuses (mode 1) (damaged (mode 1)) 19 0
    -- neither damaged
    ∷ refuses (mode 1) (mode 1) 27 0
    -- another number
    ∷ refuses (mode 1) (mode 2) 12 0
    -- the first on a range
    ∷ refuses level (mode 2) 12 0
    -- the second too
    ∷ answers level temperature (negsuc 4) (pos 21)
    -- ---- each question alone
    ∷ refuses (damaged level) temperature 19 0
    ∷ refuses level (damaged temperature) 19 0
    ∷ refuses no_party temperature 19 0
    ∷ refuses level no_party 19 0
    ∷ refuses level level 27 0
    ∷ refuses level (started (new 1 above) (pos 21)) 27 0
    ∷ refuses (mode 1) temperature 12 0
    -- ---- two at once: 19 of the second before 27, and before 12 of the first; 27 before 12 of the first, and of the second
    ∷ refuses level (damaged level) 19 0
    ∷ refuses (mode 1) (damaged temperature) 19 0
    ∷ refuses (mode 2) temperature 27 0
    ∷ refuses level (mode 1) 27 0
    -- ---- questions are asked without an answer too
    ∷ refuses (damaged (new 1 below)) (new 2 above) 19 0
    ∷ refuses (new 1 below) (damaged (new 2 above)) 19 0
    ∷ refuses (new 1 below) (new 1 above) 27 0
    ∷ refuses (new 1 tree) (new 2 above) 12 0
    ∷ refuses (new 1 below) (new 2 tree) 12 0
    -- ---- "answers exactly when both have": neither has, the first alone, the second alone, both
    ∷ waits (new 1 below) (new 2 above)
    ∷ waits level (new 2 above)
    ∷ waits (new 1 below) temperature
    ∷ answers level (started (new 2 above) (pos 20)) (negsuc 4) (pos 20)
    -- started on three positions, and no answer yet
    ∷ waits (started (new 1 range) (pos 1)) temperature
    ∷ waits level (started (new 2 range) (pos 1))
    -- ---- the readings: the other way round; both negative, of one plan under two numbers; the lowest and the highest; the same
    ∷ answers temperature level (pos 21) (negsuc 4)
    ∷ answers level (started (new 2 below) (negsuc 3)) (negsuc 4) (negsuc 3)
    ∷ answers (started (new 1 lowest) (negsuc 2147483647)) (started (new 2 highest) (pos 2147483647)) (negsuc 2147483647) (pos 2147483647)
    ∷ answers (started (new 1 above) (pos 20)) (started (new 2 above) (pos 20)) (pos 20) (pos 20)
    -- the least and the greatest agreement number
    ∷ answers (started (new 0 below) (negsuc 4)) (started (new 4294967295 above) (pos 21)) (negsuc 4) (pos 21)
    -- "each started and restored by itself": the first restored, the second not
    ∷ answers restored temperature (negsuc 4) (pos 21)
    ∷ waits restored (new 2 above)
    ∷ []
