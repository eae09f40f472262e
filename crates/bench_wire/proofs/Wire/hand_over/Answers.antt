-- Each message that is read is one of those that were to come; where none is read, or no room is left, none is to come.
use mathlib.Core.Path.{sym, ap, ◌∙◌}
use mathlib.Core.List.{List, ◌++◌}
use Prim.Native.Nat.{◌-◌, ◌<◌}
use lib.ListN.{length}
use Rattle.std.proofs.Common.{rules, ◌≡◌}
use Rattle.bench_wire.specs.declared.Handed.{Handed}
use Rattle.bench_wire.specs.Wire.{message_room, messages_in}
use Rattle.bench_wire.proofs.Handing.{handing_more, handing_full, handing_ends}
use Rattle.bench_wire.proofs.Wire.hand_over.Goals as goal

pub loop-self-preserved : goal.loop-self-preserved
loop-self-preserved c =
    let l : length c.loop-self.self-inside.handed.items < message_room = search rules in
    rw c.push.ensures.items (handing_more _ _ _ _ _ c.loop-self.invariant c.in-Ok.read l (sym c.read_at.ensures ∙ c.in-Ok.is))

pub returns-in_default : goal.returns-in_default
returns-in_default c =
    handing_ends _ _ _ _ _ c.loop-self.invariant c.in_default.field-0 (sym c.read_at.ensures ∙ c.in_default.is)
    ∙ ap (λ (x : List Handed). x ++ messages_in (message_room - length x) c.args.maker c.args.bytes.now 0) c.self.view_is

pub returns : goal.returns
returns c =
    let e : length c.loop-self.self-inside.handed.items ≡ message_room = search rules in
    handing_full _ _ _ _ _ c.loop-self.invariant e
    ∙ ap (λ (x : List Handed). x ++ messages_in (message_room - length x) c.args.maker c.args.bytes.now 0) c.self.view_is
