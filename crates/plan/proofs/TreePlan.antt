-- The plan of rows that are laid in its columns.
use mathlib.Core.Path.{◌≡◌, ap, ◌∙◌}
use mathlib.Core.List.{List}
use Prim.Native.Nat.{ℕ}
use lib.ListN.{length}
use Rattle.base.specs.Limits.{max_rows}
use Rattle.tree.specs.Edges.{Edges}
use Rattle.edges.specs.Rows.{column}
use Rattle.plan_growth.specs.Inner.{filled, Laid}
use Rattle.plan.specs.Positions.{tree_plan}

-- the plan of the rows that are laid
pub laid_plan : {v : ℕ} {F : Edges} {p c s : List ℕ} {k : ℕ} → length p ≡ max_rows → length c ≡ max_rows → Laid v F p c s k → record { kind = 1; count = v; low = 0; parent = p; child = c } ≡ tree_plan v F
laid_plan {v} {F} {p} {c} a b h =
    λ i. record { kind = 1; count = v; low = 0; parent = (h.parents ∙ ap (λ (n : ℕ). filled n (column (λ e. e.one) F)) a) i; child = (h.children ∙ ap (λ (n : ℕ). filled n (column (λ e. e.two) F)) b) i }
