-- `RowList::absorb` meets its contract, row by row.
use mathlib.Core.Path.{subst}
use Prim.Native.Nat.{◌≤◌}
use native.Mathlib.Omega.{arith}
use lib.Dec.{T}
use lib.ListN.{length, get_or}
use Rattle.tree.specs.Growth.{reached}
use Rattle.edges.proofs.Rows.{rows_length}
use Rattle.plan_growth.specs.Inner.{Listed, rows_of}
use Rattle.plan_growth.proofs.Columns.{laid_short}
use Rattle.plan_growth.proofs.Chains.{row_leads, absorb_step, absorb_end}
use Rattle.plan_growth.proofs.RowList.absorb.Goals as goal

pub offset_bounds-self-inside-row : goal.offset_bounds-self-inside-row
offset_bounds-self-inside-row c = omega (arith, c.loop-row-test.true, laid_short c.self.invariant)

pub bounds-self-inside-row : goal.bounds-self-inside-row
bounds-self-inside-row c = omega (arith, c.loop-row-test.true, laid_short c.self.invariant)

pub branch_all-requires : goal.branch_all-requires
branch_all-requires c =
    let a = row_leads c.loop-row.row c.self.invariant c.loop-row-test.true in
    (a.0, subst (λ (l : Listed). T (reached (rows_of l) (get_or c.self.inside.child c.loop-row.row 0))) c.self.view_is a.1)

pub loop-row-smaller : goal.loop-row-smaller
loop-row-smaller c = omega (arith, c.loop-row-test.true, laid_short c.self.invariant)

pub loop-row-preserved : goal.loop-row-preserved
loop-row-preserved c =
    let e = c.self.view_is in
    absorb_step c.self.inside.parent c.self.inside.child (rw (← e) at c.loop-row.invariant) c.loop-row-test.true (laid_short c.self.invariant) (rw (← e) at c.branch_all.ensures)

pub returns : goal.returns
returns c =
    let l = c.self.inside in
    absorb_end c.loop-row.invariant
    (subst (λ (l : Listed). length (rows_of l) ≤ c.loop-row.row) c.self.view_is (omega (arith, c.loop-row-test.false, rows_length l.parent l.child l.count)))
