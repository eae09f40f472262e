-- The list holds the rows of the first edges, as many as the turns, and they hang.
use mathlib.Core.Path.{◌≡◌}
use Rattle.tree.specs.Growth.{growth_order}
use Rattle.edges.specs.Rows.{rows}
use Rattle.plan_growth.specs.Inner.{rows_of}
use Rattle.plan_growth.proofs.grow.Given as goal

abbrev pub invariant-loop : goal.invariant-loop
invariant-loop l = record {
  hung : l.hanging ≡ record { one = l.one; two = l.two; count = l.counter };
  rows : rows_of l.list ≡ growth_order (rows l.one l.two l.counter);
}
