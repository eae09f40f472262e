-- The messages that bytes hold, and the room for them.
use Rattle.std.specs.Prelude.{List, [], ◌∷◌, ℕ, zero, suc, ◌*◌, Ok, Err}
use Rattle.varint.specs.declared.Parsed.{Parsed}
use Rattle.base.specs.Limits.{max_boards, sending_levels, level_messages_worst}
use Rattle.format.specs.Reading.{Read}
use Rattle.message.specs.declared.Message.{Message}
use Rattle.message.specs.Reading.{message_at}
use Rattle.bench_wire.specs.declared.Handed.{Handed}

-- of all boards
abbrev pub message_room : ℕ
message_room = max_boards * sending_levels * level_messages_worst

-- none where no message was read
abbrev pub after_message : Read Message → (Parsed Message → List Handed) → List Handed
after_message (Ok r) f = f r
after_message (Err e) f = []

-- the messages that stand in s from place `at` on, one after the other, k of them at most, each with its maker
unfoldable pub messages_in : ℕ → ℕ → List ℕ → ℕ → List Handed
messages_in zero maker s at = []
messages_in (suc k) maker s at = after_message (message_at s at) (λ r. record { maker = maker; message = r.value } ∷ messages_in k maker s r.next)
