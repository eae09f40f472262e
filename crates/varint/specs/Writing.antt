-- What the public writer answers, and the buffer after it.
use Rattle.std.specs.Prelude.{List, ℕ, ◌+◌, leb, length, Result, Ok, Err}
use Rattle.base.specs.Pick.{pick}
use Rattle.base.specs.Put.{put_at}
use Rattle.varint.specs.declared.NoRoom as Code

-- writing bs from `at` on, if they fit
abbrev pub written_of : List ℕ → ℕ → List ℕ → Result ℕ Code.NoRoom
written_of l at bs = pick (leb (at + length bs) (length l)) (Ok (length bs)) (Err (record {}))

abbrev pub buffer_of : List ℕ → ℕ → List ℕ → List ℕ
buffer_of l at bs = pick (leb (at + length bs) (length l)) (put_at l at bs) l
