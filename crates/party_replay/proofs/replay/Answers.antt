-- `party_replay::replay` meets its contract, by the record.
use mathlib.Core.Path.{sym, subst}
use lib.ListN.{length}
use Rattle.base.proofs.Bools.{T→true, not-T→false}
use Rattle.party.specs.Party.{Party}
use Rattle.party.specs.Tie.{as_party}
use Rattle.party_life.specs.Life.{Fits}
use Rattle.party_life.proofs.Fits.{fits_start, fits_taken}
use Rattle.party_replay.proofs.Redone.{replayed_start, replayed_taken, gives_same, room_same}
use Rattle.party_replay.proofs.replay.Goals.{Start}
use Rattle.party_replay.proofs.replay.Goals as goal

abbrev first : Start → Party
first s = as_party s.args.p.now

pub start-requires : goal.start-requires
start-requires c =
    let s = (goal.at.start-requires c).Start in
    let r = c.in-Start in
    let f = fits_start (first s) r.agreement r.x (subst (Fits (first s)) r.is s.requires.2) in
    (s.requires.0, room_same (sym (replayed_start (first s) s.args.r r.is)) s.args.from (length s.args.out.now) s.requires.1, not-T→false _ f.1, f.2)

pub take-requires : goal.take-requires
take-requires c =
    let s = (goal.at.take-requires c).Start in
    let r = c.in-Taken in
    let f = fits_taken (first s) r.s r.m (subst (Fits (first s)) r.is s.requires.2) in
    (s.requires.0, room_same (sym (replayed_taken (first s) s.args.r r.is)) s.args.from (length s.args.out.now) s.requires.1, f.1, T→true _ f.2)

pub returns-in-Start : goal.returns-in-Start
returns-in-Start c =
    let s = (goal.at.returns-in-Start c).Start in
    gives_same (replayed_start (first s) s.args.r c.in-Start.is) c.start.ensures

pub returns-in-Taken : goal.returns-in-Taken
returns-in-Taken c =
    let s = (goal.at.returns-in-Taken c).Start in
    gives_same (replayed_taken (first s) s.args.r c.in-Taken.is) c.take.ensures
