-- Document 02, Q-2: what a take tells the wire tester of bytes that are not exactly one message. proofs/Messages.antt shows that every row holds.
use Rattle.std.specs.Prelude.{◌≡◌, List, [], ◌∷◌, ℕ}
use Rattle.base.specs.Found.{refused}
use Rattle.message.specs.Reading.{exact_message}
use Rattle.party.specs.Party.{Party}
use Rattle.board_calls.specs.Calls.{take_message}

-- bytes, and the refusal's number and place
pub data Telling : Type 0 where
  tells : List ℕ → ℕ → ℕ → Telling

-- what a row claims: so is every take answered that passes 19, 18, 20 and 14, whoever sends the bytes, whatever the journal
abbrev pub Told : Telling → Type 0
Told (tells bytes number place) = (p : Party) (s room used : ℕ) → take_message p s room used (exact_message bytes) ≡ refused number place

unfoldable pub tellings : List Telling
tellings =
    -- ---- "15 when the bytes end inside the message"
    -- agreement number 300, level 3, a side, value 2, cut before each of its bytes
    tells [] 15 0
    ∷ tells (0xAC ∷ []) 15 0
    ∷ tells (0xAC ∷ 0x02 ∷ []) 15 2
    ∷ tells (0xAC ∷ 0x02 ∷ 0x03 ∷ []) 15 3
    ∷ tells (0xAC ∷ 0x02 ∷ 0x03 ∷ 0x05 ∷ []) 15 4
    -- and inside a level, a kind and a value that further bytes could only bring outside the table
    ∷ tells (0xAC ∷ 0x02 ∷ 0x8E ∷ []) 15 2
    ∷ tells (0xAC ∷ 0x02 ∷ 0x03 ∷ 0x85 ∷ []) 15 3
    ∷ tells (0xAC ∷ 0x02 ∷ 0x03 ∷ 0x05 ∷ 0x82 ∷ []) 15 4
    -- the largest number, cut before its last byte
    ∷ tells (0xFF ∷ 0xFF ∷ 0xFF ∷ 0xFF ∷ []) 15 0
    -- ---- "22 when a group is too long or too large"
    -- each group not in the fewest bytes
    ∷ tells (0x80 ∷ 0x00 ∷ []) 22 0
    ∷ tells (0xAC ∷ 0x82 ∷ 0x00 ∷ 0x03 ∷ 0x05 ∷ 0x02 ∷ []) 22 0
    ∷ tells (0xAC ∷ 0x02 ∷ 0x83 ∷ 0x00 ∷ 0x05 ∷ 0x02 ∷ []) 22 2
    ∷ tells (0xAC ∷ 0x02 ∷ 0x03 ∷ 0x85 ∷ 0x00 ∷ 0x02 ∷ []) 22 3
    ∷ tells (0xAC ∷ 0x02 ∷ 0x03 ∷ 0x05 ∷ 0x82 ∷ 0x00 ∷ []) 22 4
    -- each group above 4,294,967,295
    ∷ tells (0xFF ∷ 0xFF ∷ 0xFF ∷ 0xFF ∷ 0x10 ∷ 0x03 ∷ 0x05 ∷ 0x02 ∷ []) 22 0
    ∷ tells (0xAC ∷ 0x02 ∷ 0xFF ∷ 0xFF ∷ 0xFF ∷ 0xFF ∷ 0x10 ∷ 0x05 ∷ 0x02 ∷ []) 22 2
    ∷ tells (0xAC ∷ 0x02 ∷ 0x03 ∷ 0xFF ∷ 0xFF ∷ 0xFF ∷ 0xFF ∷ 0x10 ∷ 0x02 ∷ []) 22 3
    ∷ tells (0xAC ∷ 0x02 ∷ 0x03 ∷ 0x05 ∷ 0xFF ∷ 0xFF ∷ 0xFF ∷ 0xFF ∷ 0x10 ∷ []) 22 4
    -- "even where the bytes end there": a fifth byte with its top bit set
    ∷ tells (0x80 ∷ 0x80 ∷ 0x80 ∷ 0x80 ∷ 0x80 ∷ []) 22 0
    ∷ tells (0xAC ∷ 0x02 ∷ 0x80 ∷ 0x80 ∷ 0x80 ∷ 0x80 ∷ 0x80 ∷ []) 22 2
    -- ---- "23 when level, kind or value is outside the table"
    -- level 15, also with nothing behind it; and 128, and the largest number
    ∷ tells (0xAC ∷ 0x02 ∷ 0x0F ∷ 0x05 ∷ 0x02 ∷ []) 23 2
    ∷ tells (0x07 ∷ 0x0F ∷ []) 23 1
    ∷ tells (0xAC ∷ 0x02 ∷ 0x80 ∷ 0x01 ∷ 0x05 ∷ 0x02 ∷ []) 23 2
    ∷ tells (0xAC ∷ 0x02 ∷ 0xFF ∷ 0xFF ∷ 0xFF ∷ 0xFF ∷ 0x0F ∷ 0x05 ∷ 0x02 ∷ []) 23 2
    -- level 15 behind a number of five bytes
    ∷ tells (0xFF ∷ 0xFF ∷ 0xFF ∷ 0xFF ∷ 0x0F ∷ 0x0F ∷ []) 23 5
    -- kinds 0, 7 and 134, whose low piece is 6; 8, also at level 0
    ∷ tells (0xAC ∷ 0x02 ∷ 0x03 ∷ 0x00 ∷ 0x02 ∷ []) 23 3
    ∷ tells (0xAC ∷ 0x02 ∷ 0x03 ∷ 0x07 ∷ 0x02 ∷ []) 23 3
    ∷ tells (0xAC ∷ 0x02 ∷ 0x03 ∷ 0x86 ∷ 0x01 ∷ []) 23 3
    ∷ tells (0xAC ∷ 0x02 ∷ 0x00 ∷ 0x08 ∷ []) 23 3
    -- the values 17 of a first echo, 16 of a first proposal, 17 of a second echo and of a second proposal, 0 and 16 of a side
    ∷ tells (0xAC ∷ 0x02 ∷ 0x03 ∷ 0x01 ∷ 0x11 ∷ []) 23 4
    ∷ tells (0xAC ∷ 0x02 ∷ 0x03 ∷ 0x02 ∷ 0x10 ∷ []) 23 4
    ∷ tells (0xAC ∷ 0x02 ∷ 0x03 ∷ 0x03 ∷ 0x11 ∷ []) 23 4
    ∷ tells (0xAC ∷ 0x02 ∷ 0x03 ∷ 0x04 ∷ 0x11 ∷ []) 23 4
    ∷ tells (0xAC ∷ 0x02 ∷ 0x03 ∷ 0x05 ∷ 0x00 ∷ []) 23 4
    ∷ tells (0xAC ∷ 0x02 ∷ 0x03 ∷ 0x05 ∷ 0x10 ∷ []) 23 4
    -- ---- "24 when bytes follow the message", "for 24 the first spare byte"
    -- behind a side, and behind a centre, which has no value; the spare byte may be no group
    ∷ tells (0xAC ∷ 0x02 ∷ 0x03 ∷ 0x05 ∷ 0x02 ∷ 0x00 ∷ []) 24 5
    ∷ tells (0xAC ∷ 0x02 ∷ 0x03 ∷ 0x06 ∷ 0x00 ∷ 0x00 ∷ []) 24 4
    ∷ tells (0xAC ∷ 0x02 ∷ 0x03 ∷ 0x06 ∷ 0x80 ∷ []) 24 4
    -- ---- "left to right": more than one group fails
    -- a number too long before a level outside the table; a level outside it before a kind too long; a kind outside it before a value too large; a value outside it, and one too long, before a spare byte
    ∷ tells (0x80 ∷ 0x00 ∷ 0x0F ∷ 0x05 ∷ 0x02 ∷ []) 22 0
    ∷ tells (0xAC ∷ 0x02 ∷ 0x0F ∷ 0x85 ∷ 0x00 ∷ 0x02 ∷ []) 23 2
    ∷ tells (0xAC ∷ 0x02 ∷ 0x03 ∷ 0x07 ∷ 0xFF ∷ 0xFF ∷ 0xFF ∷ 0xFF ∷ 0x10 ∷ []) 23 3
    ∷ tells (0xAC ∷ 0x02 ∷ 0x03 ∷ 0x05 ∷ 0x10 ∷ 0x00 ∷ []) 23 4
    ∷ tells (0xAC ∷ 0x02 ∷ 0x03 ∷ 0x05 ∷ 0x82 ∷ 0x00 ∷ 0x00 ∷ []) 22 4
    ∷ []
