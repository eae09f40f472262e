-- The test's answer, from the questions that its functions ask.
use mathlib.Core.Path.{◌≡◌, sym, ap, ◌∙◌, subst}
use mathlib.Core.List.{[]}
use mathlib.Core.Bool.{Bool, true, false}
use Prim.Native.Nat.{ℕ, ◌+◌, ◌-◌, ◌≤◌, ◌<◌}
use native.Mathlib.Decide.{ℕ_discrete}
use native.Mathlib.Omega.{arith}
use lib.Dec.{T, eqb}
use lib.ListN.{get_or, set, drop, replicate, length-set, length-replicate, get_or-replicate}
use lib.Seq.{get_or-set_same, get_or-set_other}
use borrow.Author.Tests.{ne_eqb}
use Rattle.base.specs.Limits.{max_vertices, max_width, max_reading}
use Rattle.base.specs.Sets.{bit}
use Rattle.base.proofs.Bools.{T-ext, not-T→false, true→T, false→not-T}
use Rattle.tree.specs.Edges.{edges_at}
use Rattle.tree.specs.Growth.{reached}
use Rattle.plan.specs.Plan.{Plan}
use Rattle.plan.specs.Valid.{rows_fit, all_zero, tree_valid, range_valid}
use Rattle.plan_laws.proofs.Parts.{TreeParts, RangeParts, tree_parts, tree_made, range_parts, range_made}
use Rattle.plan_test.specs.Inner.{Noted}

module _ (p : Plan) where
  -- a part fails
  pub no_tree : (TreeParts p → ⊥) → false ≡ tree_valid p
  no_tree k = sym (not-T→false (tree_valid p) (λ t. k (tree_parts p t)))

  pub no_range : (RangeParts p → ⊥) → false ≡ range_valid p
  no_range k = sym (not-T→false (range_valid p) (λ t. k (range_parts p t)))

  -- the last question decides
  pub last_tree : {r : Bool} → r ≡ all_zero (drop (p.count - 1) p.child) → 1 ≤ p.count → p.count ≤ max_vertices → p.low ≡ 0 → T (rows_fit p.count p.parent p.child (p.count - 1))
      → T (all_zero (drop (p.count - 1) p.parent)) → r ≡ tree_valid p
  last_tree {r} e a b c d f =
      T-ext r (tree_valid p) (λ t. tree_made p (record { some = a; most = b; no_low = c; fit = d; parents = f; children = subst T e t })) (λ t. subst T (sym e) (tree_parts p t).children)

  pub last_range : {r : Bool} → r ≡ all_zero p.child → 1 ≤ p.count → p.count ≤ max_width + 1 → p.low + (p.count - 1) ≤ max_reading → T (all_zero p.parent) → r ≡ range_valid p
  last_range {r} e a b c f =
      T-ext r (range_valid p) (λ t. range_made p (record { some = a; most = b; high = c; parents = f; children = subst T e t })) (λ t. subst T (sym e) (range_parts p t).children)

-- ---- answers of the callees

-- a test that says no
pub refuted : {r b : Bool} → r ≡ false → r ≡ b → T b → ⊥
refuted e f t = false→not-T (sym f ∙ e) t

pub passed : {r b : Bool} → r ≡ true → r ≡ b → T b
passed e f = true→T (sym f ∙ e)

-- nothing is noted yet, and only 0 is marked
pub noted_none : (v n m : ℕ) → v ≤ n → v ≤ m → Noted v [] (set (replicate n 0) 0 1) (replicate m 0)
unfolding reached edges_at
noted_none v n m a b =
    record {
      places = (omega (arith, length-set {A = ℕ} (replicate n 0) 0 1, length-replicate {A = ℕ} n 0), omega (arith, length-replicate {A = ℕ} m 0));
      marks = λ x l. mark x l (ℕ_discrete x 0);
      counts = λ x l. get_or-replicate m x 0 0 (omega arith);
    }
  where
    mark : (x : ℕ) → x < v → Dec (x ≡ 0) → get_or (set (replicate n 0) 0 1) x 0 ≡ bit (eqb x 0)
    mark x l (yes e) = rw e (get_or-set_same (replicate n 0) 0 1 0 (omega (arith, length-replicate {A = ℕ} n 0)))
    mark x l (no d) = get_or-set_other (replicate n 0) 0 x 1 0 d ∙ get_or-replicate n x 0 0 (omega arith) ∙ sym (ap bit (ne_eqb x 0 d))
