-- `party_run::emit` meets its contract.
use mathlib.Core.Path.{ap, subst}
use mathlib.Core.List.{List}
use Prim.Native.Nat.{ℕ, ◌+◌, ◌≤◌}
use lib.ListN.{length}
use Rattle.level.specs.Tie.{as_effect}
use Rattle.party_run.proofs.Emitted.{none_written, some_written, quiet_bytes, enter_bytes, send_bytes, side_bytes}
use Rattle.party_run.proofs.emit.Goals as goal

pub put-requires : goal.put-requires
put-requires c =
    let s = c in
    let a = s.args in
    subst (λ (bs : List ℕ). a.at + length bs ≤ length a.out.now) (send_bytes a.number a.i (as_effect a.e) c.in-Send.body (ap as_effect c.in-Send.is))
    s.requires.0

pub put-requires-in-SendEnter : goal.put-requires-in-SendEnter
put-requires-in-SendEnter c =
    let s = c in
    let a = s.args in
    subst (λ (bs : List ℕ). a.at + length bs ≤ length a.out.now) (side_bytes a.number a.i (as_effect a.e) c.in-SendEnter.side (ap as_effect c.in-SendEnter.is))
    s.requires.0

pub returns-in-Quiet : goal.returns-in-Quiet
returns-in-Quiet c = let a = c.args in none_written a.out.now a.at (quiet_bytes a.number a.i (as_effect a.e) (ap as_effect c.in-Quiet.is))

pub returns-in-Send : goal.returns-in-Send
returns-in-Send c =
    let a = c.args in
    some_written a.out.now a.at c.put.result c.put.new.out (send_bytes a.number a.i (as_effect a.e) c.in-Send.body (ap as_effect c.in-Send.is))
    c.put.ensures

pub returns-in-Enter : goal.returns-in-Enter
returns-in-Enter c =
    let a = c.args in
    none_written a.out.now a.at
    (enter_bytes a.number a.i (as_effect a.e) c.in-Enter.side c.in-Enter.keep (ap as_effect c.in-Enter.is))

pub returns-in-SendEnter : goal.returns-in-SendEnter
returns-in-SendEnter c =
    let a = c.args in
    some_written a.out.now a.at c.put-in-SendEnter.result c.put-in-SendEnter.new.out (side_bytes a.number a.i (as_effect a.e) c.in-SendEnter.side (ap as_effect c.in-SendEnter.is))
    c.put-in-SendEnter.ensures
