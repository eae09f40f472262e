-- What the public writer answers, and the buffer after it.
use Rattle.std.specs.Prelude.{◌&&◌, List, ℕ, leb, length, Result, Ok, Err}
use Rattle.base.specs.Pick.{pick}
use Rattle.base.specs.Put.{put_at}
use Rattle.message.specs.declared.Message.{Message}
use Rattle.message.specs.declared.WriteError.{WriteError}
use Rattle.message.specs.Message.{in_table, message_bytes}

-- what the public writer answers: a level or value outside the table, or too short a buffer, writes nothing
unfoldable pub write_answer : List ℕ → Message → Result ℕ WriteError
write_answer l m =
    pick (in_table m)
    (pick (leb (length (message_bytes m)) (length l)) (Ok (length (message_bytes m))) (Err WriteError.NoRoom))
    (Err WriteError.OutsideTable)

unfoldable pub write_buffer : List ℕ → Message → List ℕ
write_buffer l m = pick (in_table m && leb (length (message_bytes m)) (length l)) (put_at l 0 (message_bytes m)) l
