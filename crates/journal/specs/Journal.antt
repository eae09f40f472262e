-- Document 01, "Journal and cuts": "Start: group 1, agreement number, position (0 to 65,535). Taken: group 2, sender (0 to 15), message bytes."
use Rattle.std.specs.Prelude.{List, ◌++◌, ℕ}
use Rattle.varint.specs.Varint.{varint_bytes}
use Rattle.message.specs.Message.{message_bytes}
use Rattle.journal.specs.declared.Record.{Record}
use Rattle.journal.specs.declared.Record.TheVariants.{Start, Taken}

unfoldable pub record_bytes : Record → List ℕ
record_bytes (Start agreement x) = (varint_bytes 1 ++ varint_bytes agreement) ++ varint_bytes x
record_bytes (Taken s m) = (varint_bytes 2 ++ varint_bytes s) ++ message_bytes m
