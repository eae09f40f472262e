-- Document 02, Q-4: how many bytes a varint has, as the printed table gives it to staff. `Sizes` (Statement.antt) states that so many are written.
use Rattle.std.specs.Prelude.{ℕ, leb}
use Rattle.base.specs.Pick.{pick}

-- "1 byte to 127, 2 to 16,383, 3 to 2,097,151, 4 to 268,435,455, else 5"
unfoldable pub table_length : ℕ → ℕ
table_length v = pick (leb v 127) 1 (pick (leb v 16383) 2 (pick (leb v 2097151) 3 (pick (leb v 268435455) 4 5)))
