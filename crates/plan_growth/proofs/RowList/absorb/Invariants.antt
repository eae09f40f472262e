-- Row `row` and those after it have still to bring along what hangs where they lead.
use Prim.Native.Nat.{◌-◌}
use Rattle.base.specs.Limits.{max_vertices}
use Rattle.plan_growth.specs.Inner.{edges_of, rows_of}
use Rattle.plan_growth.proofs.Chains.{Absorbing}
use Rattle.plan_growth.proofs.RowList.absorb.Given as goal

abbrev pub invariant-loop-row : goal.invariant-loop-row
invariant-loop-row l = Absorbing max_vertices (edges_of l.hanging) l.from (rows_of l.initial.self) (rows_of l.self) l.row

abbrev pub decreases-loop-row : goal.decreases-loop-row
decreases-loop-row l = max_vertices - l.row
