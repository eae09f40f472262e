-- `Search::begin` meets its contract: the edges before the rejected one are joined, and its ends are kept.
use native.Mathlib.Omega.{arith}
use Rattle.base.specs.Limits.{max_vertices}
use Rattle.edges.specs.Rows.{rows}
use Rattle.cycle_search.specs.Inner.{Columns}
use Rattle.cycle_search.proofs.Sets.{sets_of}
use Rattle.cycle_search.proofs.Marking.{Latest, latest, latest_undoable, latest_need}
use Rattle.cycle_search.proofs.Search.begin.Goals.{Start}
use Rattle.cycle_search.proofs.Search.begin.Goals as goal

rejected : (s : Start) → Latest max_vertices s.args.one.now s.args.two.now s.args.j
rejected s = latest _ _ _ _ s.requires.3 s.requires.4

pub join_all-requires : goal.join_all-requires
join_all-requires c = (omega arith, omega arith, omega arith, (rejected (goal.at.join_all-requires c).Start).below)

pub keep_ends-requires : goal.keep_ends-requires
keep_ends-requires c =
    ((rejected (goal.at.keep_ends-requires c).Start).one_below, (sets_of _ c.join_all.new.moved (rows _ _ c.args.j) _ c.join_all.ensures).rooted)

pub returns : goal.returns
returns c =
    let k = c.join_all.new in
    let from = c.keep_alone-ends.result.from in
    let to = c.keep_alone-ends.result.to in
    let own = c.keep_alone-ends.ensures.kept in
    let long : Columns max_vertices k.up from to = record { up_long = omega arith; from_long = omega arith; to_long = omega arith } in
    let h = rejected (goal.at.returns c).Start in
    let u = c.join_all.ensures in
    rw (c.keep_ends.ensures.0, c.keep_ends.ensures.1)
    (latest_undoable max_vertices _ _ c.args.j k.moved k.up from to h u own long (omega arith) (omega arith) (omega arith), latest_need max_vertices _ _ c.args.j k.moved k.up from to h u own long)
