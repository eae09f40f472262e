-- The bytes of a path as a tree, its edges in any order and direction, are read as a twin of the range.
use mathlib.Core.Path.{◌≡◌, refl, sym, ap, ap₂, ◌∙◌, subst}
use mathlib.Core.Logic.{◌⊎◌, inl, inr}
use mathlib.Core.List.{List, [], ◌∷◌, ◌++◌, append_assoc, append-nil}
use mathlib.Core.Bool.{◌&&◌}
use Prim.Native.Nat.{ℕ, suc, ◌+◌, ◌-◌, ◌≤◌, ◌<◌}
use native.Mathlib.Omega.{arith}
use lib.Dec.{leb, eqb, le→leb}
use lib.ListN.{length, replicate, length-append}
use borrow.Author.Tests.{eq-eqb}
use Rattle.base.specs.Limits.{max_vertices, max_rows}
use Rattle.base.proofs.Bools.{T_and, true→T}
use Rattle.varint.specs.Varint.{varint_bytes}
use Rattle.varint.proofs.RoundTrip.{varint_read_at}
use Rattle.tree.specs.Edges.{Edges}
use Rattle.tree.specs.Inner.{Acyclic}
use Rattle.tree.specs.Growth.{growth_order}
use Rattle.tree.proofs.GrowthComplete.{tree_length}
use Rattle.base.specs.Found.{Found, found}
use Rattle.edges.specs.Reading.{edges_from}
use Rattle.edges.specs.Rows.{rows}
use Rattle.edges.proofs.Rows.{column_rows}
use Rattle.plan.specs.Plan.{Plan}
use Rattle.plan.specs.Positions.{edges_of, column, padded, tree_plan}
use Rattle.plan.specs.Reading.{ended, plan_from, plan_of}
use Rattle.plan_laws.proofs.Shape.{shape, edges_tree}
use Rattle.plan.specs.Bytes.{edge_bytes}
use Rattle.plan.proofs.Listed.{Passing, ask_yes, edges_read}
use Rattle.plan_laws.proofs.Given.{found_good}
use Rattle.range_as_path.specs.Twin.{Numbered, TwinBytes}
use Rattle.range_as_path.proofs.Numbering.{Within, within_below, within_degree, order_numbered, numbered_acyclic}

-- ---- the edges pass questions 7 to 9

passes : (n : ℕ) (E : Edges) → 0 < n → Within n E → Acyclic E → Passing n E
passes n [] l h k = tt
passes n (e ∷ E) l h k =
    let b = h e.one e.two (inl (inl (refl, refl))) in
    let rest : Within n E = λ x y a. h x y (inr a) in (
      record {
        one_below = b.1;
        two_below = b.2;
        apart = λ i. apart i b.0;
        not_joined_lem = k.0;
        one_room = omega (arith, within_degree n E l rest k.1 e.one);
        two_room = omega (arith, within_degree n E l rest k.1 e.two);
      },
      passes n E l rest k.1,
    )
  where
    apart : e.one ≡ e.two → (e.two ≡ suc e.one) ⊎ (e.one ≡ suc e.two) → ⊥
    apart i (inl j) = omega arith
    apart i (inr j) = omega arith

-- ---- the bytes are read

module _ (v : ℕ) (E : Edges) (some : 1 ≤ v) (most : v ≤ max_vertices) (pass : Passing v E) (many : length E ≡ v - 1) where
  -- the edges from `at` on, to the end
  read_edges : (s : List ℕ) (at : ℕ) (pre : List ℕ) → s ≡ pre ++ edge_bytes E → at ≡ length pre
      → edges_from v (v - 1) s at [] (λ F end. ended s end (tree_plan v (growth_order F))) ≡ found (tree_plan v (growth_order E))
  unfolding edges_from
  read_edges s at pre es ea =
      ap₂ (λ (k a : ℕ). edges_from v k s a [] done) all ea
      ∙ edges_read v 0 s done E pre [] (omega arith) pass (es ∙ ap (λ (t : List ℕ). pre ++ t) (sym (append-nil (edge_bytes E))))
      ∙ ask_yes (eqb past (length s)) 11 past (found (tree_plan v (growth_order E))) (true→T (eq-eqb past (length s) (sym (ap length es ∙ length-append pre (edge_bytes E)))))
    where
      done : Edges → ℕ → Found Plan
      done F end = ended s end (tree_plan v (growth_order F))

      past : ℕ
      past = length pre + length (edge_bytes E)

      all : v - 1 ≡ length E + 0
      all = omega arith

  read_tree : plan_of (varint_bytes 1 ++ (varint_bytes v ++ edge_bytes E)) ≡ found (tree_plan v (growth_order E))
  unfolding plan_from
  read_tree =
      rw (varint_read_at 1 s [] (varint_bytes v ++ edge_bytes E) 0 (omega arith) refl refl)
      (rw (varint_read_at v s (varint_bytes 1) (edge_bytes E) (0 + length (varint_bytes 1)) (omega arith) refl (omega arith))
      (ask_yes (leb 1 v && leb v max_vertices) 6 (0 + length (varint_bytes 1)) _ (T_and (leb 1 v) (leb v max_vertices) (le→leb 1 v some) (le→leb v max_vertices most))
      ∙ read_edges s (0 + length (varint_bytes 1) + length (varint_bytes v)) (varint_bytes 1 ++ varint_bytes v) (sym (append_assoc (varint_bytes 1) (varint_bytes v) (edge_bytes E)))
      (sym (simp length-append (omega arith)))))
    where
      s : List ℕ
      s = varint_bytes 1 ++ (varint_bytes v ++ edge_bytes E)

-- a tree plan's edges are those that it was made of
plan_edges : (v : ℕ) (F : Edges) → length F ≡ v - 1 → edges_of (tree_plan v F) ≡ F
plan_edges v F m =
    edges_tree (tree_plan v F) refl
    ∙ ap (rows (padded (column (λ e. e.one) F)) (padded (column (λ e. e.two) F))) (sym m)
    ∙ column_rows F (replicate (max_rows - length (column (λ e. e.one) F)) 0) (replicate (max_rows - length (column (λ e. e.two) F)) 0)

-- ---- twins

-- The bytes s are a range of at most 255 readings; E are the edges of the same path, in any order and direction. Then the bytes of the tree of E are
-- read as a plan, and it is a twin of the range.
pub twin_bytes : (s : List ℕ) (r : Plan) → plan_of s ≡ found r → r.kind ≡ 2 → r.count ≤ max_vertices
    → (E : Edges) → Numbered r.count E → length E ≡ r.count - 1 → TwinBytes s (varint_bytes 1 ++ (varint_bytes r.count ++ edge_bytes E))
twin_bytes s r e k l E h m =
    let v : ℕ = r.count in
    let g = found_good s r e in
    let some : 1 ≤ v = (shape r g.passes).some in
    let within : Within v E = λ x y. (h x y).0 in
    let below = within_below v E within in
    let acyclic = numbered_acyclic v E h m in
    let F : Edges = growth_order E in
    let read = read_tree v E some l (passes v E some within acyclic) m in
    record {
      range = r;
      tree = tree_plan v F;
      read = e;
      read' = read;
      twins = record {
        range = k;
        tree = refl;
        valid = g.passes;
        valid' = (found_good (varint_bytes 1 ++ (varint_bytes v ++ edge_bytes E)) (tree_plan v F) read).passes;
        count = refl;
        path = subst (Numbered v) (sym (plan_edges v F (tree_length v E some below acyclic m))) (order_numbered v E h);
      };
    }
