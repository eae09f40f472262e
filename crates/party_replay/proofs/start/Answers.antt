-- `party_replay::start` meets its contract.
use native.Mathlib.Omega.{arith}
use mathlib.Core.Path.{◌≡◌, refl, sym}
use lib.ListN.{length, get_or, set}
use Rattle.plan.specs.Tie.{as_plan}
use Rattle.component.specs.Component.{whole_of}
use Rattle.level.specs.Inner.{no_code_level}
use Rattle.party.specs.Run.{run, starting}
use Rattle.party.specs.Tie.{as_party}
use Rattle.party_step.proofs.Entries.{side_enters}
use Rattle.party_step.specs.Inner.{Enters}
use Rattle.party_bounds.proofs.Laws.{Sized}
use Rattle.party_run.proofs.Parts.{with_levels, sized_in}
use Rattle.party_replay.proofs.Calls.{valid_plan, whole_enterable, start_ready, start_runs}
use Rattle.party_replay.proofs.Redone.{gives_same, room_same}
use Rattle.party_replay.proofs.start.Goals.{After-enter-l, Start}
use Rattle.party_replay.proofs.start.Goals as goal

-- level 0 is entered over the whole plan
entered : (c : After-enter-l)
    → let p = as_plan c.args.p.now.plan in
    Enters p (whole_of p) (get_or c.args.p.now.levels 0 no_code_level) 0 c.args.x 0 c.args.chart.now c.enter-l.result c.enter-l.new.chart
entered c =
    let a = c.args in
    let p = as_plan a.p.now.plan in
    side_enters p (whole_of p) (get_or a.p.now.levels 0 no_code_level) 0 a.x 0 a.chart.now _ c.enter-l.result c.enter-l.new.chart c.enter_whole.ensures.is
    (record { sending = refl; surveys = refl }) c.enter-l.ensures

pub enter_whole-requires : goal.enter_whole-requires
enter_whole-requires c = let s = (goal.at.enter_whole-requires c).Start in valid_plan (as_party s.args.p.now) s.requires.0.valid

pub enter-l-requires : goal.enter-l-requires
enter-l-requires c =
    let s = (goal.at.enter-l-requires c).Start in
    (whole_enterable (as_plan s.args.p.now.plan) (valid_plan (as_party s.args.p.now) s.requires.0.valid) s.requires.0.rows _ c.enter_whole.ensures s.args.x s.requires.3, omega arith)

-- the party, as question 19 and the type of its levels have it
sized : (c : After-enter-l) → Sized (as_party c.args.p.now)
sized c = sized_in c.args.p.now c.requires.0.valid c.levels_full.ensures.0 c.levels_full.ensures.1

-- rules are applied to the party that entered
runs : (c : After-enter-l) → starting (as_party c.args.p.now) c.args.x ≡ run (as_party (with_levels c.args.p.now (set c.args.p.now.levels 0 c.enter-l.result)))
runs c =
    let a = c.args in
    start_runs a.p.now a.chart.now (sized c) c.requires.0 a.x c.requires.2 c.requires.3 c.enter-l.result c.enter-l.new.chart (entered c)

pub run-requires : goal.run-requires
run-requires c =
    let e = (goal.at.run-requires c).After-enter-l in
    let a = e.args in (
      start_ready a.p.now a.chart.now (sized e) e.requires.0 a.x e.requires.2 e.requires.3 e.enter-l.result e.enter-l.new.chart (entered e) e.surveys_full.ensures,
      room_same (sym (runs e)) a.from (length a.out.now) e.requires.1,
    )

pub returns : goal.returns
returns c = gives_same (runs (goal.at.returns c).After-enter-l) c.run.ensures
