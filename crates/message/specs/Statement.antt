-- What reading a message finds, in terms of what is written: `reads` and `refuses` (proofs/Theorem.antt) prove it of the definitions of reading.
use Rattle.std.specs.Prelude.{◌≡◌, List, ◌++◌, ℕ, ◌+◌, ◌<◌, ◌≤◌, length, take, Ok}
use Rattle.varint.specs.Varint.{AllBytes}
use Rattle.varint.specs.Statement.{BytesAt, Beginning}
use Rattle.format.specs.declared.Fault.{Fault}
use Rattle.format.specs.Results.{whole, failed}
use Rattle.format.specs.Statement.{Fails}
use Rattle.message.specs.declared.Message.{Message}
use Rattle.message.specs.Message.{InLimits, message_bytes}
use Rattle.message.specs.Format.{message_format}
use Rattle.message.specs.Results.{broken}
use Rattle.message.specs.Reading.{message_at, exact_message}

pub record Reads : Type 0 where
  -- "Groups: agreement number, level (0 to 14), kind, value": such a message is read back wherever it stands
  pub written : (m : Message) (p q : List ℕ) → InLimits m → message_at (p ++ (message_bytes m ++ q)) (length p) ≡ whole m (length p + length (message_bytes m))
  -- only such a message is read
  pub only : (s : List ℕ) (at : ℕ) (m : Message) (next : ℕ) → AllBytes s → message_at s at ≡ whole m next → InLimits m × BytesAt s at next (message_bytes m)
  -- "Bytes exactly one message?": yes of such a message's bytes
  pub exactly : (m : Message) → InLimits m → exact_message (message_bytes m) ≡ Ok m
  -- and of no others
  pub exactly_only : (s : List ℕ) (m : Message) → AllBytes s → exact_message s ≡ Ok m → InLimits m × (s ≡ message_bytes m)

-- Document 02, Q-2: what a refusal tells the wire tester. Of any bytes at most one fault, at one place, is as it says, and every refusal is: this leaves a reader
-- no choice.
pub record Refuses : Type 0 where
  -- "The place becomes the first byte of the failing group": the groups before it are whole and within their limits, and it is as the fault says
  pub group : (s : List ℕ) (fault : Fault) (at : ℕ) → AllBytes s → (fault ≡ Fault.Spare → ⊥) → exact_message s ≡ broken fault at → Fails message_format s 0 fault at
  -- and always then
  pub group_always : (s : List ℕ) (fault : Fault) (at : ℕ) → AllBytes s → Fails message_format s 0 fault at → exact_message s ≡ broken fault at
  -- "15 when the bytes end inside the message": always of a beginning of a message's bytes
  pub cut_always : (m : Message) (t : List ℕ) → InLimits m → Beginning (message_bytes m) t → (at : ℕ) × (exact_message t ≡ broken Fault.Cut at)
  -- "24 when bytes follow the message", "for 24 the first spare byte"
  pub spare : (s : List ℕ) (at : ℕ) → AllBytes s → exact_message s ≡ broken Fault.Spare at → (m : Message) × InLimits m × (at < length s) × (take at s ≡ message_bytes m)
  -- and always then
  pub spare_always : (m : Message) (q : List ℕ) → InLimits m → 0 < length q → exact_message (message_bytes m ++ q) ≡ broken Fault.Spare (length (message_bytes m))
  -- `group` of a message read at any place, as in a journal
  pub anywhere : (s : List ℕ) (at : ℕ) (fault : Fault) (place : ℕ) → AllBytes s → at ≤ length s → message_at s at ≡ failed fault place
      → Fails message_format s at fault place
