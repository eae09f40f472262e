-- `cycle_search::mark` meets its contract: the edges before the rejected one are joined, undone and marked, and then it is marked.
use mathlib.Core.Path.{◌≡◌}
use Prim.Native.Nat.{◌+◌, ◌-◌, ◌<◌}
use native.Mathlib.Omega.{arith}
use Rattle.base.specs.Limits.{max_vertices}
use Rattle.cycle_search.proofs.Marking.{rejected_some, latest, all_marked}
use Rattle.cycle_search.proofs.mark.Goals.{Start}
use Rattle.cycle_search.proofs.mark.Goals as goal

some : (s : Start) → 0 < s.args.m
some s = rejected_some _ _ _ s.requires.5

one_more : (s : Start) → s.args.m - 1 + 1 ≡ s.args.m
one_more s = omega (arith, some s)

pub overflow_sub-last : goal.overflow_sub-last
overflow_sub-last c = omega (arith, some (goal.at.overflow_sub-last c).Start)

pub begin-search-requires : goal.begin-search-requires
begin-search-requires c =
    let s = (goal.at.begin-search-requires c).Start in
    rw (one_more s) (omega (arith, some s), omega (arith, some s), omega (arith, some s), s.requires.4, s.requires.5)

pub returns : goal.returns
returns c =
    let s = (goal.at.returns c).Start in
    let h = latest max_vertices s.args.one.now s.args.two.now (s.args.m - 1) (rw (one_more s) s.requires.4) (rw (one_more s) s.requires.5) in
    rw (one_more s) at (all_marked max_vertices _ _ c.undo_all.new.marks (s.args.m - 1) h (omega (arith, some s)) (c.undo_all.ensures _ _ _ c.begin-search.ensures.1))
