-- The number of sending levels of a plan that passes, by what the passes over a tree's rows and the halving of a range find.
use mathlib.Core.Path.{◌≡◌, sym, ap, ◌∙◌, subst}
use mathlib.Core.List.{List}
use Prim.Native.Nat.{ℕ, ◌+◌, ◌-◌, ◌*◌, ◌≤◌, ◌<◌}
use native.Mathlib.Decide.{dec_lt}
use native.Mathlib.Omega.{arith}
use lib.Dec.{T}
use lib.ListN.{length}
use Rattle.base.specs.Limits.{sending_levels, level_messages, max_vertices, max_rows, max_width}
use Rattle.base.specs.Verdict.{Verdict}
use Rattle.base.specs.declared.Refusal.{Refusal}
use Rattle.std.specs.Prelude.{Ok, Err}
use Rattle.tree.specs.Edges.{Edges}
use Rattle.tree_rounds.specs.Inner.{Rounds}
use Rattle.edges.specs.Rows.{rows}
use Rattle.tree_pass.specs.Inner.{Rows}
use Rattle.plan.specs.Plan.{Plan}
use Rattle.plan.specs.Reading.{plan_of, answered}
use Rattle.plan.specs.Tie.{as_plan, as_plan_read}
use Rattle.plan.specs.declared.Plan as Code
use Rattle.plan.specs.Valid.{plan_valid}
use Rattle.plan_laws.proofs.Shape.{Kinds, tree, range, kinds, shape, edges_tree}
use Rattle.plan_laws.proofs.Given.{found_good}
use Rattle.plan_reader.proofs.Answers.{read_refused, read_accepted}
use Rattle.component.proofs.Members.{tree_most, tree_rows}
use Rattle.component_laws.proofs.Laws.{rows_lent}
use Rattle.plan_levels.specs.Levels.{levels_of}
use Rattle.plan_levels.specs.Inner.{halvings}
use Rattle.plan_levels.proofs.Chains.{deep_level}
use Rattle.plan_levels.proofs.Theorem.{deepest, deepest_unique}
use Rattle.plan_levels.proofs.Rounds.{rounds_deepest}
use Rattle.plan_levels.proofs.Ranges.{range_levels}
use Rattle.plan_messages.specs.Bound.{Bound, bound_by, bound_of}
use Rattle.plan_messages.specs.Tie.{as_bound}

module _ (p : Plan) (v : T (plan_valid p)) where
  -- a tree's rows are in growth order
  pub tree_asks : p.kind ≡ 1 → length p.parent ≡ max_rows → length p.child ≡ max_rows
      → Rows p.parent p.child p.count (p.count - 1) × (p.count ≤ max_vertices)
  tree_asks k i j = (tree_rows p v k (rows_lent p v i j), tree_most p v k)

  -- as many rounds take it apart as levels send
  pub tree_levels : p.kind ≡ 1 → (r : ℕ) → Rounds (rows p.parent p.child (p.count - 1)) p.count r → r ≡ levels_of p
  tree_levels k r h = deepest_unique (rounds_deepest p v r (subst (λ (E : Edges). Rounds E p.count r) (sym (edges_tree p k)) h)) (deepest p v)

  pub positions_most : p.count ≤ max_width + 1
  positions_most = (shape p v).most

  -- what is no tree is a range
  pub range_halves : (p.kind ≡ 1 → ⊥) → (r : ℕ) → r ≡ halvings sending_levels p.count → r ≡ levels_of p
  range_halves d r e = e ∙ sym (range_levels p v (go (kinds p v)))
    where
      go : Kinds p → p.kind ≡ 2
      go (tree i t) = absurd (d i)
      go (range i t) = i

  -- at most 15 of them send
  pub levels_most : levels_of p ≤ sending_levels
  levels_most = go (dec_lt 0 (levels_of p))
    where
      go : Dec (0 < levels_of p) → levels_of p ≤ sending_levels
      go (yes k) = let r = (deepest p v).reached (levels_of p - 1) (omega arith) in omega (arith, deep_level p v r.0 (levels_of p - 1) r.1)
      go (no k) = omega arith

-- ---- the call's answer

module _ (s : List ℕ) {p : Code.Plan} (e : as_plan_read (Ok p) ≡ answered (plan_of s)) where
  pub read_valid : T (plan_valid (as_plan p))
  read_valid = (found_good s (as_plan p) (read_accepted (plan_of s) e)).passes

  pub bound_accepted : (k : ℕ) → k ≡ levels_of (as_plan p) → ◌≡◌ {A = Bound} (record { verdict = Verdict.Accepted; levels = k; messages = level_messages * k }) (bound_of s)
  bound_accepted k i = ap (λ (n : ℕ). record { verdict = Verdict.Accepted; levels = n; messages = level_messages * n }) i ∙ ap bound_by (sym (read_accepted (plan_of s) e))

pub bound_refused : (s : List ℕ) (r : Refusal) → as_plan_read (Err r) ≡ answered (plan_of s) → as_bound (Err r) ≡ bound_of s
bound_refused s r e = ap bound_by (sym (read_refused (plan_of s) r e))
