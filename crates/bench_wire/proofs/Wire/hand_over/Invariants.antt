-- The measure is the room that is left; what is handed over and what is still to come are all messages.
use Prim.Native.Nat.{◌-◌}
use mathlib.Core.List.{◌++◌}
use lib.ListN.{length}
use Rattle.arrayvec.specs.ArrayVec.{array_vec_len}
use Rattle.bench_wire.specs.declared.TheConstants.{MESSAGES}
use Rattle.bench_wire.specs.Wire.{message_room, messages_in}
use Rattle.bench_wire.proofs.Handing.{Handing}
use Rattle.bench_wire.proofs.Wire.hand_over.Given as goal

abbrev pub invariant-loop-self : goal.invariant-loop-self
invariant-loop-self l = Handing l.maker l.bytes (l.initial.self-inside.handed.items ++ messages_in (message_room - length l.initial.self-inside.handed.items) l.maker l.bytes 0) l.at l.self-inside.handed.items

abbrev pub decreases-loop-self : goal.decreases-loop-self
decreases-loop-self l = MESSAGES - array_vec_len l.self-inside.handed
