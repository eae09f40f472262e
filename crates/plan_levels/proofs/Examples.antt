-- Every row of specs/Examples.antt holds.
use mathlib.Core.Path.{◌≡◌, refl, ◌∙◌}
use Prim.Native.Nat.{ℕ, ◌+◌}
use native.Mathlib.Omega.{arith}
use lib.Dec.{T}
use Rattle.base.specs.Limits.{sending_levels, last_level}
use Rattle.base.specs.Every.{Every}
use Rattle.tree.specs.Edges.{edges_at}
use Rattle.tree.specs.Growth.{reached}
use Rattle.tree.specs.Component.{upto}
use Rattle.edges.specs.Rows.{rows}
use Rattle.plan.specs.Positions.{edges_of, column}
use Rattle.plan.specs.Valid.{row_fits, rows_fit, all_zero, plan_valid}
use Rattle.component.specs.Component.{whole_of}
use Rattle.component_laws.proofs.Laws.{whole_size}
use Rattle.plan_levels.specs.Inner.{halvings}
use Rattle.plan_levels.specs.Examples.{row, Shown, star_edges, star, range, examples}
use Rattle.plan_levels.proofs.ExampleTrees.{path_1, path_2, path_3, late_side_lem, path_5, path_6, path_7}
use Rattle.plan_levels.proofs.Ranges.{range_levels}
use Rattle.plan_levels.proofs.Stars.{star_levels}

infixr 20 ◌and◌
◌and◌ : {A B : Type 0} → A → B → A × B
a and b = (a, b)

-- ---- a star of 16 vertices, by its law

star_valid : T (plan_valid (star 16))
unfolding plan_valid all_zero rows_fit row_fits edges_at reached rows column star_edges
star_valid = tt

star_edges_lem : edges_of (star 16) ≡ star_edges 15
unfolding edges_of rows column star_edges
star_edges_lem = refl

star_16 : Shown (row (star 16) 1)
unfolding upto
star_16 = (star_valid, star_levels (star 16) 15 last_level (whole_of (star 16)) star_edges_lem (omega arith) tt (omega (arith, whole_size (star 16))))

-- ---- ranges, by halving

ranged : (width k : ℕ) → T (plan_valid (range width)) → halvings sending_levels (width + 1) ≡ k → Shown (row (range width) k)
ranged width k h e = (h, range_levels (range width) h refl ∙ e)

-- ---- all rows

pub hold : Every Shown examples
unfolding examples plan_valid all_zero halvings
hold =
    path_1 and path_2 and path_3 and path_5 and path_6 and path_7 and star_16 and late_side_lem
    and ranged 0 0 tt refl and ranged 1 0 tt refl and ranged 2 1 tt refl and ranged 3 1 tt refl and ranged 5 2 tt refl and ranged 6 2 tt refl
    and ranged 49150 14 tt refl and ranged 49151 15 tt refl and ranged 65535 15 tt refl
    and tt
