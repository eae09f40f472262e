-- `board_door::carry_out` meets its contract, by what was found.
use mathlib.Core.Path.{◌≡◌, ap}
use Rattle.std.specs.Prelude.{Some, Ok}
use Rattle.board_door.proofs.Doors.{refusal_carried, again_carried, carried_asks, record_carried, in_two, found_at}
use Rattle.party.specs.Tie.{as_party}
use Rattle.party_bounds.proofs.Sized.{Sized, typed_sized}
use Rattle.board_door.specs.Inner.{carried_by}
use Rattle.board_door.proofs.carry_out.Goals.{In-Ok-Some, Start}
use Rattle.board_door.proofs.carry_out.Goals as goal

pub returns-in-Ok-None : goal.returns-in-Ok-None
returns-in-Ok-None c =
    let e : c.args.asked ≡ Ok c.in-Ok-None.field-0 = c.in-Ok-None.is in
    found_at (in_two e (rw e at c.in-Ok-None.field-0-is)) (again_carried (ap (carried_by (as_party c.args.party.now)) c.nothing.ensures))

pub returns-in-Err : goal.returns-in-Err
returns-in-Err c = found_at c.in-Err.is (refusal_carried c.in-Err.refusal (ap (carried_by (as_party c.args.party.now)) c.nothing-in-Err.ensures))

-- the party has what its type says
sized : (s : Start) → Sized (as_party s.args.party.now)
sized s = typed_sized (as_party s.args.party.now) s.requires.1 s.requires.0.ready.valid

-- a record was found
found : (c : In-Ok-Some) → c.args.asked ≡ Ok (Some c.in-Ok-Some.record)
found c = let e : c.args.asked ≡ Ok c.in-Ok-Some.field-0 = c.in-Ok-Some.is in in_two e (rw e at c.in-Ok-Some.field-0-is)

pub append-end-requires : goal.append-end-requires
append-end-requires c = (carried_asks (found (goal.at.append-end-requires c).In-Ok-Some) (sized (goal.at.append-end-requires c).Start) c.requires.0).3

pub replay-ran-requires : goal.replay-ran-requires
replay-ran-requires c = let f = carried_asks (found (goal.at.replay-ran-requires c).In-Ok-Some) (sized (goal.at.replay-ran-requires c).Start) c.requires.0 in (f.0, f.1, f.2)

pub returns-in-Ok-Some : goal.returns-in-Ok-Some
returns-in-Ok-Some c =
    found_at (found (goal.at.returns-in-Ok-Some c).In-Ok-Some) (record_carried c.in-Ok-Some.record c.append-end.ensures.0 c.append-end.ensures.1 c.replay-ran.ensures)
