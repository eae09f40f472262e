-- What a plan part that passes the test is: a tree, or a path, of few enough positions and with few enough edges at each.
use mathlib.Core.Path.{◌≡◌, refl, subst}
use mathlib.Core.List.{List, ◌∷◌}
use mathlib.Core.Bool.{Bool, true, false}
use Prim.Native.Nat.{ℕ, zero, suc, ◌+◌, ◌-◌, ◌≤◌, ◌<◌}
use native.Mathlib.Omega.{arith}
use lib.Dec.{T, eqb}
use lib.ListN.{length, get_or}
use borrow.Author.Tests.{eq-eqb, ne_eqb, eqb-true}
use Rattle.base.specs.Limits.{max_degree, max_width}
use Rattle.base.specs.Pick.{pick}
use Rattle.base.proofs.Bools.{T_and, T-left, T-right}
use Rattle.tree.specs.Edges.{Edge, Edges, edges_at, Below}
use Rattle.tree.specs.Inner.{Acyclic, Grown}
use Rattle.tree.specs.Path.{path_edges}
use Rattle.tree.proofs.Growth.{grown_acyclic}
use Rattle.tree.proofs.PathEdges.{path_below, path_length, path_acyclic, path_degree}
use Rattle.edges.specs.Rows.{rows}
use Rattle.edges.proofs.Rows.{rows_length}
use Rattle.plan.specs.Plan.{Plan}
use Rattle.plan.specs.Positions.{edges_of}
use Rattle.plan_growth.specs.Inner.{edge}
use Rattle.plan.specs.Valid.{row_fits, rows_fit, tree_valid, range_valid, plan_valid}
use Rattle.plan.proofs.Degrees.{at_none, at_one, at_two, at_more, at_most}
use Rattle.plan_laws.proofs.Fitting.{fitting, fitted}
use Rattle.plan_laws.proofs.Parts.{TreeParts, RangeParts, tree_parts, range_parts}

-- ---- rows that fit

-- they grow a tree with few enough edges at each position
pub record GrownRows (v : ℕ) (F : Edges) : Type 0 where
  pub grown : Grown F
  pub below : Below v F
  pub degrees : (x : ℕ) → edges_at F x ≤ max_degree

pub fit_grown : (v : ℕ) (ps cs : List ℕ) (k : ℕ) → T (rows_fit v ps cs k) → GrownRows v (rows ps cs k)
unfolding rows_fit rows
fit_grown v ps cs zero h = record { grown = tt; below = tt; degrees = at_none }
fit_grown v ps cs (suc k) h =
    let g = fit_grown v ps cs k (T-left (rows_fit v ps cs k) (row_fits v ps cs k) h) in
    let f = fitting v ps cs k (T-right (rows_fit v ps cs k) (row_fits v ps cs k) h) in
    record {
      grown = (f.from_reached, f.to_new, g.grown);
      below = (f.from_below, f.to_below, g.below);
      degrees = at_most max_degree (edge (get_or ps k 0) (get_or cs k 0)) (rows ps cs k) g.degrees f.from_room f.to_room;
    }

-- the rows before the last, and room for it
pub grown_before : (v : ℕ) (e : Edge) (F : Edges) → GrownRows v (e ∷ F) → GrownRows v F
grown_before v e F h = record { grown = h.grown.2; below = h.below.2; degrees = λ x. omega (arith, at_more e F x, h.degrees x) }

pub room_before : (v : ℕ) (e : Edge) (F : Edges) → GrownRows v (e ∷ F) → (edges_at F e.one < max_degree) × (edges_at F e.two < max_degree)
room_before v e F h = (omega (arith, at_one e F, h.degrees e.one), omega (arith, at_two e F, h.degrees e.two))

pub grown_fit : (v : ℕ) (ps cs : List ℕ) (k : ℕ) → GrownRows v (rows ps cs k) → T (rows_fit v ps cs k)
unfolding rows_fit rows
grown_fit v ps cs zero h = tt
grown_fit v ps cs (suc k) h =
    let e : Edge = edge (get_or ps k 0) (get_or cs k 0) in
    let r = room_before v e (rows ps cs k) h in
    T_and (rows_fit v ps cs k) (row_fits v ps cs k)
    (grown_fit v ps cs k (grown_before v e (rows ps cs k) h))
    (fitted v ps cs k (record { from_below = h.below.0; to_below = h.below.1; from_reached = h.grown.0; to_new = h.grown.1; from_room = r.0; to_room = r.1 }))

-- ---- plans

-- what the edges of every plan are
pub record Shape (p : Plan) : Type 0 where
  pub some : 0 < p.count
  pub most : p.count ≤ max_width + 1
  pub acyclic : Acyclic (edges_of p)
  pub below : Below p.count (edges_of p)
  pub many : length (edges_of p) ≡ p.count - 1
  pub degrees : (x : ℕ) → edges_at (edges_of p) x ≤ max_degree

-- a tree's edges are its rows, a range's a path
pub edges_tree : (p : Plan) → p.kind ≡ 1 → edges_of p ≡ rows p.parent p.child (p.count - 1)
unfolding edges_of
edges_tree p k = rw (eq-eqb p.kind 1 k)

pub edges_range : (p : Plan) → p.kind ≡ 2 → edges_of p ≡ path_edges (p.count - 1)
unfolding edges_of
edges_range p k = rw (ne_eqb p.kind 1 (λ z. omega arith))

pub tree_shape : (p : Plan) → p.kind ≡ 1 → TreeParts p → Shape p
tree_shape p k t =
    let E : Edges = rows p.parent p.child (p.count - 1) in
    let g = fit_grown p.count p.parent p.child (p.count - 1) t.fit in
    let e = edges_tree p k in
    record {
      some = t.some;
      most = omega (arith, t.most);
      acyclic = rw e (grown_acyclic E g.grown);
      below = rw e g.below;
      many = rw e (rows_length p.parent p.child (p.count - 1));
      degrees = rw e g.degrees;
    }

pub range_shape : (p : Plan) → p.kind ≡ 2 → RangeParts p → Shape p
range_shape p k t =
    let e = edges_range p k in
    let n : suc (p.count - 1) ≡ p.count = omega (arith, t.some) in
    record {
      some = t.some;
      most = t.most;
      acyclic = rw e (path_acyclic (p.count - 1));
      below = rw e (subst (λ (m : ℕ). Below m (path_edges (p.count - 1))) n (path_below (p.count - 1)));
      many = rw e (path_length (p.count - 1));
      degrees = rw e (λ x. omega (arith, path_degree (p.count - 1) x));
    }

-- the kinds that pass
pub data Kinds (p : Plan) : Type 0 where
  tree : p.kind ≡ 1 → T (tree_valid p) → Kinds p
  range : p.kind ≡ 2 → T (range_valid p) → Kinds p

pub kinds : (p : Plan) → T (plan_valid p) → Kinds p
unfolding plan_valid
kinds p h = go (eqb p.kind 1) (eqb p.kind 2) refl refl h
  where
    go : (a b : Bool) → eqb p.kind 1 ≡ a → eqb p.kind 2 ≡ b → T (pick a (tree_valid p) (pick b (range_valid p) false)) → Kinds p
    go true b i j h = tree (eqb-true p.kind 1 i) h
    go false true i j h = range (eqb-true p.kind 2 j) h
    go false false i j h = absurd h

pub shape : (p : Plan) → T (plan_valid p) → Shape p
shape p h = go (kinds p h)
  where
    go : Kinds p → Shape p
    go (tree k t) = tree_shape p k (tree_parts p t)
    go (range k t) = range_shape p k (range_parts p t)
