-- `party_replay::take` meets its contract.
use borrow.Author.Rules.{rules}
use native.Mathlib.Omega.{arith}
use mathlib.Core.Path.{◌≡◌, sym, ◌∙◌}
use mathlib.Core.Bool.{false}
use Prim.Native.Nat.{◌<◌}
use lib.ListN.{length, set}
use Rattle.base.specs.Limits.{max_boards}
use Rattle.party.specs.Party.{Party, held_by}
use Rattle.party.specs.Run.{run, taking}
use Rattle.party.specs.Inner.{set_count}
use Rattle.party.specs.Tie.{as_party}
use Rattle.party_bounds.proofs.Laws.{Sized}
use Rattle.party_run.proofs.Parts.{with_sets, sized_in}
use Rattle.party_replay.proofs.Calls.{valid_sender, taken_place, taken_held, taken_ready, taken_runs}
use Rattle.party_replay.proofs.Redone.{taking_held, gives_same, room_same, gives_rest}
use Rattle.party_replay.proofs.take.Goals.{After-add, After-contains, After-place-k, Start}
use Rattle.party_replay.proofs.take.Goals as goal

abbrev first : Start → Party
first s = as_party s.args.p.now

sender : (s : Start) → s.args.s < max_boards
sender s = valid_sender (first s) s.requires.0.valid s.args.s s.requires.2

-- the place of the message's set
there : (c : After-place-k) → c.place-k.result < set_count
there c = taken_place c.args.m c.requires.3 c.place-k.result c.place-k.ensures

pub offset_bounds-p-k : goal.offset_bounds-p-k
offset_bounds-p-k c = omega (arith, there (goal.at.offset_bounds-p-k c).After-place-k)

pub bounds-p-k : goal.bounds-p-k
bounds-p-k c = there (goal.at.bounds-p-k c).After-place-k

pub offset_bounds-p-k-2 : goal.offset_bounds-p-k-2
offset_bounds-p-k-2 c = omega (arith, there (goal.at.offset_bounds-p-k-2 c).After-place-k)

pub bounds-p-k-2 : goal.bounds-p-k-2
bounds-p-k-2 c = there (goal.at.bounds-p-k-2 c).After-place-k

-- the party, as question 19 and the type of its levels have it
sized : (c : After-contains) → Sized (as_party c.args.p.now)
sized c = sized_in c.args.p.now c.requires.0.valid c.levels_full.ensures.0 c.levels_full.ensures.1

-- what was found there
held : (c : After-contains) → held_by (as_party c.args.p.now) c.args.s c.args.m ≡ c.contains.result
held c =
    let a = c.args in
    taken_held a.p.now a.chart.now (sized c) c.requires.0 a.s a.m c.requires.2 c.requires.3 c.place-k.result c.place-k.ensures c.contains.result c.contains.ensures

pub contains-requires : goal.contains-requires
contains-requires c = sender (goal.at.contains-requires c).Start

pub returns-then-contains : goal.returns-then-contains
returns-then-contains c =
    let s = (goal.at.returns-then-contains c).Start in
    let a = s.args in
    gives_same (taking_held (first s) a.s a.m (held (goal.at.returns-then-contains c).After-contains ∙ c.if-contains.true)) (gives_rest (first s) a.chart.now a.from a.out.now s.requires.0.charts)

pub add-requires : goal.add-requires
add-requires c = sender (goal.at.add-requires c).Start

-- rules are applied to the party that heard it
runs : (c : After-add) → Sized (as_party c.args.p.now) → held_by (as_party c.args.p.now) c.args.s c.args.m ≡ false → taking (as_party c.args.p.now) c.args.s c.args.m ≡ run (as_party (with_sets c.args.p.now (set c.args.p.now.sets c.place-k.result c.add.result)))
runs c z h =
    let a = c.args in
    taken_runs a.p.now a.chart.now z c.requires.0 a.s a.m c.requires.2 c.requires.3
    c.place-k.result c.place-k.ensures c.add.result c.add.ensures h

pub run-requires : goal.run-requires
run-requires c =
    let n = (goal.at.run-requires c).After-add in
    let x = (goal.at.run-requires c).After-contains in
    let a = n.args in (
      taken_ready a.p.now a.chart.now (sized x) n.requires.0 a.s a.m n.requires.2 n.requires.3
          n.place-k.result n.place-k.ensures n.add.result n.add.ensures,
      room_same (sym (runs n (sized x) (held x ∙ n.if-contains.false))) a.from (length a.out.now) n.requires.1,
    )

pub returns : goal.returns
returns c = let n = (goal.at.returns c).After-add in let x = (goal.at.returns c).After-contains in gives_same (runs n (sized x) (held x ∙ n.if-contains.false)) c.run.ensures
