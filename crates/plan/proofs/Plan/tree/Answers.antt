-- `Plan::tree` meets its contract: `grow` lays the rows in columns that are all 0.
use mathlib.Core.Path.{◌≡◌, ap, ap₂, ◌∙◌, subst}
use mathlib.Core.List.{List}
use Prim.Native.Nat.{ℕ, ◌+◌, ◌-◌}
use native.Mathlib.Omega.{arith}
use lib.ListN.{length}
use Rattle.tree.specs.Edges.{Edges, Below}
use Rattle.tree.specs.Growth.{growth_order}
use Rattle.edges.specs.Rows.{rows}
use Rattle.plan.specs.Positions.{tree_plan}
use Rattle.plan.proofs.TreePlan.{laid_plan}
use Rattle.plan.proofs.Plan.tree.Goals as goal

-- the columns hold the edges
held : (ps cs : List ℕ) (E : Edges) (n v : ℕ) → length E + 1 ≡ v → n ≡ v → rows ps cs (length E) ≡ E → rows ps cs (n - 1) ≡ E
held ps cs E n v e k r = let i : n - 1 ≡ length E = omega arith in ap (rows ps cs) i ∙ r

-- their ends are vertices
within : (ps cs : List ℕ) (E : Edges) (n v : ℕ) → length E + 1 ≡ v → n ≡ v → rows ps cs (length E) ≡ E → Below v E → Below (n - 1 + 1) (rows ps cs (n - 1))
within ps cs E n v e k r b = let i : v ≡ n - 1 + 1 = omega arith in subst (λ (m : ℕ). Below m (rows ps cs (n - 1))) i (rw (held ps cs E n v e k r) b)

pub grow-requires : goal.grow-requires
grow-requires c =
    let e = c.ends.ensures in
    let n = c.vertices-n in (
      within _ _ _ _ _ c.requires n.ensures e.columns e.below.1,
      omega (arith, e.places, c.requires, n.ensures),
      omega (arith, e.places, c.requires, n.ensures),
      omega (arith, e.below.0, n.ensures, c.requires),
    )

pub returns : goal.returns
returns c =
    let n = c.vertices-n in
    let v : n.result - 1 + 1 ≡ n.result = omega (arith, n.ensures, c.requires) in
    laid_plan (omega arith) (omega arith) (rw (v, ← c.grow-2.view_is) at c.grow.ensures)
    ∙ ap₂ (λ (v : ℕ) (E : Edges). tree_plan v (growth_order E)) n.ensures (held _ _ _ _ _ c.requires n.ensures c.ends.ensures.columns)
