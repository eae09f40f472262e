-- `Search::undo` meets its contract: what comes of undoing edge i, at the root that it moved.
use Prim.Native.Nat.{◌+◌}
use native.Mathlib.Omega.{arith}
use Rattle.base.specs.Limits.{max_vertices}
use Rattle.edges.specs.Rows.{rows}
use Rattle.cycle_search.proofs.Columns.{Undone, row, undone_row, undoable_before}
use Rattle.cycle_search.proofs.Search.undo.Goals.{Start}
use Rattle.cycle_search.proofs.Search.undo.Goals as goal

-- what comes of undoing edge i
undone : (s : Start)
    → Undone max_vertices s.args.self.now.moved s.args.self.now.up (row s.args.one.now s.args.two.now s.args.i) s.args.i
    (rows s.args.one.now s.args.two.now (s.args.i + 1)) (rows s.args.one.now s.args.two.now s.args.i) s.args.self.now.ends.from s.args.self.now.ends.to
undone s = undone_row _ _ _ _ _ _ _ _ s.requires

pub bounds-self-l : goal.bounds-self-l
bounds-self-l c = omega (arith, (undone (goal.at.bounds-self-l c).Start).lower_below)

pub bounds-self-l-2 : goal.bounds-self-l-2
bounds-self-l-2 c = omega (arith, (undone (goal.at.bounds-self-l-2 c).Start).lower_below)

pub shift-requires : goal.shift-requires
shift-requires c =
    let q = undone (goal.at.shift-requires c).Start in
    rw (c.from-h.ensures, c.from-l.ensures) (q.lower_below, q.upper_below, q.one_below, q.first_below, q.second_below, q.rooted)

pub returns : goal.returns
returns c =
    let s = (goal.at.returns c).Start in
    let e = c.shift.ensures in
    rw (e.0, e.1, e.2, c.from-h.ensures, c.from-l.ensures) (undoable_before _ _ _ _ _ _ _ _ s.requires, (undone s).asked)
