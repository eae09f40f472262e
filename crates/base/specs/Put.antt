-- Bytes written into a buffer.
use Rattle.std.specs.Prelude.{List, ◌++◌, ℕ, ◌+◌, length, take, drop}

-- the buffer l with bs written from `at` on: no other place changes
unfoldable pub put_at : List ℕ → ℕ → List ℕ → List ℕ
put_at l at bs = take at l ++ (bs ++ drop (at + length bs) l)
