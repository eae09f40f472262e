use native.Mathlib.Omega.{arith}
use Rattle.message.proofs.RoundTrip.{table_parts}
use Rattle.level_counts.proofs.Slots.{slot_lt}
use Rattle.party.proofs.place.Goals as goal

pub overflow_add-result : goal.overflow_add-result
overflow_add-result c =
    let s = c in
    let t = table_parts s.args.m s.requires in
    omega (arith, t.0, slot_lt s.args.m.body t.1, c.slot.ensures)
