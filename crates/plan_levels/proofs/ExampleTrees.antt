-- The small trees of specs/Examples.antt: their rows are computed.
use mathlib.Core.Path.{refl}
use Rattle.base.specs.Pick.{smallest}
use Rattle.base.specs.Sets.{count}
use Rattle.tree.specs.Edges.{label, joined, adjacent, ends, edges_at}
use Rattle.tree.specs.Growth.{reached}
use Rattle.tree.specs.Component.{upto, without, part, heavy, light, centre, neighbours, degree, rank, neighbour, side}
use Rattle.tree.specs.Path.{path_edges}
use Rattle.edges.specs.Rows.{rows}
use Rattle.plan.specs.Positions.{edges_of, column}
use Rattle.plan.specs.Valid.{row_fits, rows_fit, all_zero, plan_valid}
use Rattle.plan_levels.specs.Levels.{greatest, levels_from}
use Rattle.plan_levels.specs.Examples.{row, Shown, path, late_side}

-- a proof that unfolds this unfolds what a tree's test and its levels compute with
unfoldable computing : Unit {0}
unfolding smallest count label joined adjacent ends edges_at reached upto without part heavy light centre neighbours degree rank neighbour side path_edges rows column edges_of row_fits rows_fit all_zero plan_valid greatest levels_from
computing = tt

pub path_1 : Shown (row (path 1) 0)
unfolding computing
path_1 = (tt, refl)

pub path_2 : Shown (row (path 2) 0)
unfolding computing
path_2 = (tt, refl)

pub path_3 : Shown (row (path 3) 1)
unfolding computing
path_3 = (tt, refl)

pub late_side_lem : Shown (row late_side 2)
unfolding computing
late_side_lem = (tt, refl)

pub path_5 : Shown (row (path 5) 1)
unfolding computing
path_5 = (tt, refl)

pub path_6 : Shown (row (path 6) 2)
unfolding computing
path_6 = (tt, refl)

pub path_7 : Shown (row (path 7) 2)
unfolding computing
path_7 = (tt, refl)
