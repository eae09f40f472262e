-- Plans alike, of which twins are an instance, have the same geometry.
use mathlib.Core.Path.{◌≡◌, ap, ◌∙◌}
use mathlib.Core.Logic.{◌⊎◌, inl, inr}
use Prim.Native.Nat.{ℕ, suc, ◌-◌, ◌≤◌}
use native.Mathlib.Omega.{arith}
use borrow.Author.Tests.{ne_eqb}
use Rattle.base.specs.Sets.{Set, count}
use Rattle.tree.specs.Edges.{Edges}
use Rattle.tree.specs.Path.{path_edges}
use Rattle.tree.specs.Component.{centre, degree, port, neighbour, side}
use Rattle.tree.proofs.PathEdges.{path_adjacent}
use Rattle.tree.proofs.Same.{Same, same_centre, same_degree, same_port, same_neighbour, same_side}
use Rattle.plan.specs.Plan.{Plan}
use Rattle.plan.specs.Positions.{edges_of}
use Rattle.component.specs.Component.{size_of, centre_of, degree_of, port_of, neighbour_of, side_of}
use Rattle.component.specs.Inner.{survey_of}
use Rattle.range_as_path.specs.Twin.{NextBelow, Numbered, TwinPlans}

-- ---- the path

-- the edges of the path of n positions are numbered along it
pub path_numbered : (n : ℕ) → Numbered n (path_edges (n - 1))
path_numbered n x y = (λ h. to ((path_adjacent (n - 1) x y).0 h), λ h. (path_adjacent (n - 1) x y).1 (from h))
  where
    to : ((y ≡ suc x) ⊎ (x ≡ suc y)) × (x ≤ n - 1) × (y ≤ n - 1) → NextBelow n x y
    to (inl e, k, l) = (inl e, omega arith, omega arith)
    to (inr e, k, l) = (inr e, omega arith, omega arith)

    from : NextBelow n x y → ((y ≡ suc x) ⊎ (x ≡ suc y)) × (x ≤ n - 1) × (y ≤ n - 1)
    from (e, k, l) = (e, omega arith, omega arith)

-- a range's edges are its path
pub range_edges : (r : Plan) → r.kind ≡ 2 → edges_of r ≡ path_edges (r.count - 1)
unfolding edges_of
range_edges r k = rw (ne_eqb r.kind 1 (λ z. omega arith))

-- two lists of edges numbered along the same path make the same positions neighbours
pub numbered_same : (n : ℕ) (E F : Edges) → Numbered n E → Numbered n F → Same E F
numbered_same n E F a b x y = (λ h. (b x y).1 ((a x y).0 h), λ h. (a x y).1 ((b x y).0 h))

-- ---- plans alike

-- as many positions, of which the same are neighbours
pub record Alike (r q : Plan) : Type 0 where
  pub count : r.count ≡ q.count
  pub edges : Same (edges_of r) (edges_of q)

pub twin_alike : (r q : Plan) → TwinPlans r q → Alike r q
twin_alike r q w = record {
  count = w.count;
  edges = rw (range_edges r w.range, w.count) (numbered_same q.count (path_edges (q.count - 1)) (edges_of q) (path_numbered q.count) w.path);
}

-- ---- the same geometry

module _ (r q : Plan) (a : Alike r q) where
  -- what depends on neighbours alone
  alike : {A : Type 0} (f : Edges → ℕ → A) → ((n : ℕ) → f (edges_of r) n ≡ f (edges_of q) n) → f (edges_of r) r.count ≡ f (edges_of q) q.count
  alike f h = h r.count ∙ ap (f (edges_of q)) a.count

  pub alike_size : (S : Set) → size_of r S ≡ size_of q S
  alike_size S = ap (λ (n : ℕ). count n S) a.count

  pub alike_centre : (S : Set) → centre_of r S ≡ centre_of q S
  alike_centre S = alike (λ E n. centre E n S) (λ n. same_centre (edges_of r) (edges_of q) a.edges n S)

  pub alike_degree : (S : Set) → degree_of r S ≡ degree_of q S
  alike_degree S = alike (λ E n. degree E n S) (λ n. same_degree (edges_of r) (edges_of q) a.edges n S)

  pub alike_port : (S : Set) (x : ℕ) → port_of r S x ≡ port_of q S x
  alike_port S x = alike (λ E n. port E n S x) (λ n. ap (λ (f : ℕ → ℕ). f x) (same_port (edges_of r) (edges_of q) a.edges n S))

  pub alike_neighbour : (S : Set) (k : ℕ) → neighbour_of r S k ≡ neighbour_of q S k
  alike_neighbour S k = alike (λ E n. neighbour E n S k) (λ n. ap (λ (f : ℕ → ℕ). f k) (same_neighbour (edges_of r) (edges_of q) a.edges n S))

  pub alike_side : (S : Set) (k : ℕ) → side_of r S k ≡ side_of q S k
  alike_side S k = alike (λ E n. side E n S k) (λ n. ap (λ (f : ℕ → Set). f k) (same_side (edges_of r) (edges_of q) a.edges n S))

  pub alike_survey : (S : Set) (x : ℕ) → survey_of r S x ≡ survey_of q S x
  unfolding survey_of
  alike_survey S x z = record { centre = alike_centre S z; degree = alike_degree S z; port = alike_port S x z }
