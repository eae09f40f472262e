-- "An accepted call writes its messages from the outgoing buffer's first byte": the messages that bytes are, read one after the other.
use mathlib.Core.List.{List, [], ◌∷◌, Memᴰ}
use Rattle.std.proofs.Math.Option.{Option, none, some}
use Rattle.std.specs.Prelude.{ℕ, zero, suc, eqb, length, Ok, Err}
use Rattle.base.specs.Pick.{pick}
use Rattle.message.specs.declared.Message.{Message}
use Rattle.format.specs.Reading.{Read}
use Rattle.message.specs.Message.{InLimits}
use Rattle.message.specs.Reading.{message_at}

-- a message, and then the rest if that is messages
abbrev pub with_rest : Message → Option (List Message) → Option (List Message)
with_rest m none = none
with_rest m (some ms) = some (m ∷ ms)

-- what is read first, and then what stands after it
abbrev pub with_next : Read Message → (ℕ → Option (List Message)) → Option (List Message)
with_next (Ok r) more = with_rest r.value (more r.next)
with_next (Err e) more = none

-- the messages from `at` to the last byte of s, at most f; none if something else stands there
unfoldable pub messages_from : ℕ → List ℕ → ℕ → Option (List Message)
messages_from zero s at = pick (eqb at (length s)) (some []) none
messages_from (suc f) s at = pick (eqb at (length s)) (some []) (with_next (message_at s at) (messages_from f s))

-- the messages that all the bytes of s are; there are no more than bytes
abbrev pub messages_of : List ℕ → Option (List Message)
messages_of s = messages_from (length s) s 0

-- messages that can be written
abbrev pub AllWritable : List Message → Type 0
AllWritable ms = (m : Message) → Memᴰ m ms → InLimits m
