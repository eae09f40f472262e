-- `RowList::new` meets its contract: columns that are all 0 hold no rows.
use native.Mathlib.Omega.{arith}
use Rattle.base.specs.Limits.{max_vertices, max_rows}
use Rattle.plan_growth.proofs.Columns.{laid_empty, laid_rows, laid_named}
use Rattle.plan_growth.proofs.RowList.new.Goals as goal

pub invariant_of-result : goal.invariant_of-result
invariant_of-result c = laid_named (laid_empty max_vertices max_rows max_vertices (omega arith) (omega arith) (omega arith))

pub returns : goal.returns
returns c = laid_rows (laid_empty max_vertices max_rows max_vertices (omega arith) (omega arith) (omega arith))
