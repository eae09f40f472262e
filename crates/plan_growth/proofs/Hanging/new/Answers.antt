-- `Hanging::new` meets its contract: no edge hangs anywhere.
use native.Mathlib.Omega.{arith}
use Rattle.base.specs.Limits.{max_vertices, max_rows}
use Rattle.plan_growth.proofs.Chains.{hung_none}
use Rattle.plan_growth.proofs.Hanging.new.Goals as goal

pub invariant_of-result : goal.invariant_of-result
invariant_of-result c = hung_none max_vertices max_vertices max_rows _ _ (omega arith)
