-- What is left to read of a tree's edges.
use mathlib.Core.Path.{◌≡◌, sym, ap, ◌∙◌}
use mathlib.Core.List.{List, []}
use Prim.Native.Nat.{ℕ, suc, ◌+◌, ◌-◌, ◌<◌}
use native.Mathlib.Omega.{arith}
use lib.ListN.{length}
use Rattle.base.specs.Found.{Found}
use Rattle.tree.specs.Edges.{Edges}
use Rattle.tree.specs.Growth.{growth_order}
use Rattle.edges.specs.Reading.{edges_from}
use Rattle.edges.specs.Inner.{TreeSoFar}
use Rattle.plan.specs.Plan.{Plan}
use Rattle.plan.specs.Positions.{tree_plan}
use Rattle.plan.specs.Reading.{ended}
use Rattle.plan_groups.specs.Groups.{tree_end}

-- k edges from `at` on, after those of t
abbrev pub further : List ℕ → TreeSoFar → ℕ → ℕ → Found Plan
further s t k at = edges_from t.vertices k s at t.edges (tree_end t.vertices s)

-- with as many further edges as t lacks, `found` is found
abbrev pub Left : List ℕ → TreeSoFar → ℕ → Found Plan → Type 0
Left s t at f = (k : ℕ) → length t.edges + 1 + k ≡ t.vertices → f ≡ further s t k at

module _ (s : List ℕ) (t : TreeSoFar) (at : ℕ) {f : Found Plan} where
  pub left_first : t.edges ≡ [] → f ≡ edges_from t.vertices (t.vertices - 1) s at [] (tree_end t.vertices s) → Left s t at f
  left_first e i k h =
      let z : t.vertices - 1 ≡ k = omega (arith, ap (length {A = _}) e) in
      i ∙ ap (λ (m : ℕ). edges_from t.vertices m s at [] (tree_end t.vertices s)) z ∙ ap (λ (E : Edges). edges_from t.vertices k s at E (tree_end t.vertices s)) (sym e)

  pub left_last : Left s t at f → length t.edges + 1 ≡ t.vertices → f ≡ ended s at (tree_plan t.vertices (growth_order t.edges))
  unfolding edges_from
  left_last h e = h 0 (omega arith)

  -- an edge more, or a refusal
  pub left_next : Left s t at f → length t.edges + 1 < t.vertices → {g : Found Plan} → ((k : ℕ) → further s t (suc k) at ≡ g) → f ≡ g
  left_next h l e = let k = t.vertices - (length t.edges + 2) in h (suc k) (omega arith) ∙ e k

  pub left_more : Left s t at f → (u : TreeSoFar) (at' : ℕ) → u.vertices ≡ t.vertices → length u.edges ≡ length t.edges + 1
      → ((k : ℕ) → further s t (suc k) at ≡ edges_from t.vertices k s at' u.edges (tree_end t.vertices s)) → Left s u at' f
  left_more h u at' v m e k z =
      h (suc k) (omega arith) ∙ e k ∙ ap (λ (n : ℕ). edges_from n k s at' u.edges (tree_end n s)) (sym v)
