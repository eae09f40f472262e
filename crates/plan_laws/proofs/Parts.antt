-- The parts of the test of a plan part, and the test from them.
use mathlib.Core.Path.{◌≡◌}
use mathlib.Core.Bool.{Bool, false, ◌&&◌}
use Prim.Native.Nat.{◌+◌, ◌-◌, ◌≤◌}
use native.Mathlib.Omega.{arith}
use lib.Dec.{T, eqb, leb, leb→le, le→leb, eqb→eq}
use lib.ListN.{drop}
use borrow.Author.Tests.{eq-eqb, ne_eqb}
use Rattle.base.specs.Limits.{max_vertices, max_width, max_reading}
use Rattle.base.proofs.Bools.{T_and, T-left, T-right, true→T}
use Rattle.plan.specs.Plan.{Plan}
use Rattle.plan.specs.Valid.{rows_fit, all_zero, tree_valid, range_valid, plan_valid}

pub record TreeParts (p : Plan) : Type 0 where
  pub some : 1 ≤ p.count
  pub most : p.count ≤ max_vertices
  pub no_low : p.low ≡ 0
  pub fit : T (rows_fit p.count p.parent p.child (p.count - 1))
  pub parents : T (all_zero (drop (p.count - 1) p.parent))
  pub children : T (all_zero (drop (p.count - 1) p.child))

pub record RangeParts (p : Plan) : Type 0 where
  pub some : 1 ≤ p.count
  pub most : p.count ≤ max_width + 1
  pub high : p.low + (p.count - 1) ≤ max_reading
  pub parents : T (all_zero p.parent)
  pub children : T (all_zero p.child)

module _ (p : Plan) where
  pub tree_parts : T (tree_valid p) → TreeParts p
  tree_parts h =
      let head : Bool = (leb 1 p.count && leb p.count max_vertices) && eqb p.low 0 in
      let zeros : Bool = all_zero (drop (p.count - 1) p.parent) && all_zero (drop (p.count - 1) p.child) in
      let fits : Bool = rows_fit p.count p.parent p.child (p.count - 1) in
      let a = T-left head (fits && zeros) h in
      let b = T-right head (fits && zeros) h in
      let c = T-left (leb 1 p.count && leb p.count max_vertices) (eqb p.low 0) a in
      let z = T-right fits zeros b in
      record {
        some = leb→le 1 p.count (T-left (leb 1 p.count) (leb p.count max_vertices) c);
        most = leb→le p.count max_vertices (T-right (leb 1 p.count) (leb p.count max_vertices) c);
        no_low = eqb→eq p.low 0 (T-right (leb 1 p.count && leb p.count max_vertices) (eqb p.low 0) a);
        fit = T-left fits zeros b;
        parents = T-left (all_zero (drop (p.count - 1) p.parent)) (all_zero (drop (p.count - 1) p.child)) z;
        children = T-right (all_zero (drop (p.count - 1) p.parent)) (all_zero (drop (p.count - 1) p.child)) z;
      }

  pub tree_made : TreeParts p → T (tree_valid p)
  tree_made t =
      T_and ((leb 1 p.count && leb p.count max_vertices) && eqb p.low 0)
      (rows_fit p.count p.parent p.child (p.count - 1) && (all_zero (drop (p.count - 1) p.parent) && all_zero (drop (p.count - 1) p.child)))
      (T_and (leb 1 p.count && leb p.count max_vertices) (eqb p.low 0)
      (T_and (leb 1 p.count) (leb p.count max_vertices) (le→leb 1 p.count t.some) (le→leb p.count max_vertices t.most))
      (true→T (eq-eqb p.low 0 t.no_low)))
      (T_and (rows_fit p.count p.parent p.child (p.count - 1)) (all_zero (drop (p.count - 1) p.parent) && all_zero (drop (p.count - 1) p.child))
      t.fit
      (T_and (all_zero (drop (p.count - 1) p.parent)) (all_zero (drop (p.count - 1) p.child)) t.parents t.children))

  pub range_parts : T (range_valid p) → RangeParts p
  range_parts h =
      let head : Bool = (leb 1 p.count && leb p.count (max_width + 1)) && leb (p.low + (p.count - 1)) max_reading in
      let zeros : Bool = all_zero p.parent && all_zero p.child in
      let a = T-left head zeros h in
      let z = T-right head zeros h in
      let c = T-left (leb 1 p.count && leb p.count (max_width + 1)) (leb (p.low + (p.count - 1)) max_reading) a in
      record {
        some = leb→le 1 p.count (T-left (leb 1 p.count) (leb p.count (max_width + 1)) c);
        most = leb→le p.count (max_width + 1) (T-right (leb 1 p.count) (leb p.count (max_width + 1)) c);
        high = leb→le (p.low + (p.count - 1)) max_reading (T-right (leb 1 p.count && leb p.count (max_width + 1)) (leb (p.low + (p.count - 1)) max_reading) a);
        parents = T-left (all_zero p.parent) (all_zero p.child) z;
        children = T-right (all_zero p.parent) (all_zero p.child) z;
      }

  pub range_made : RangeParts p → T (range_valid p)
  range_made t =
      T_and ((leb 1 p.count && leb p.count (max_width + 1)) && leb (p.low + (p.count - 1)) max_reading) (all_zero p.parent && all_zero p.child)
      (T_and (leb 1 p.count && leb p.count (max_width + 1)) (leb (p.low + (p.count - 1)) max_reading)
      (T_and (leb 1 p.count) (leb p.count (max_width + 1)) (le→leb 1 p.count t.some) (le→leb p.count (max_width + 1) t.most))
      (le→leb (p.low + (p.count - 1)) max_reading t.high))
      (T_and (all_zero p.parent) (all_zero p.child) t.parents t.children)

  -- by the kind
  pub valid_tree : {r : Bool} → p.kind ≡ 1 → r ≡ tree_valid p → r ≡ plan_valid p
  unfolding plan_valid
  valid_tree {r} k e = rw (eq-eqb p.kind 1 k) e

  pub valid_range : {r : Bool} → p.kind ≡ 2 → r ≡ range_valid p → r ≡ plan_valid p
  unfolding plan_valid
  valid_range {r} k e = rw (ne_eqb p.kind 1 (λ z. omega arith), eq-eqb p.kind 2 k) e

  pub valid_none : (p.kind ≡ 1 → ⊥) → (p.kind ≡ 2 → ⊥) → false ≡ plan_valid p
  unfolding plan_valid
  valid_none k l = rw (ne_eqb p.kind 1 k, ne_eqb p.kind 2 l)
