-- A tree numbered along a path has the path's geometry.
use mathlib.Core.Path.{sym, subst}
use mathlib.Core.Logic.{inl, inr}
use Prim.Native.Nat.{ℕ, suc, ◌-◌, ◌≤◌, ◌<◌}
use native.Mathlib.Omega.{arith}
use Rattle.tree.specs.Edges.{Edges, Adjacent, Below}
use Rattle.tree.specs.Path.{path_edges}
use Rattle.tree.proofs.Edges.{flip, adjacent_below}
use Rattle.tree.proofs.PathEdges.{Next, Along, path_adjacent}
use Rattle.tree.proofs.Same.{Same}

-- edges below n that are numbered along a path make neighbours of the same positions as the path 0 .. n-1
pub along_same : (n : ℕ) (E : Edges) → 0 < n → Below n E → Along n E → Same E (path_edges (n - 1))
along_same n E l b path x y = (to, from)
  where
    to : Adjacent E x y → Adjacent (path_edges (n - 1)) x y
    to h =
        let p : y < n = adjacent_below n E b x y h in
        let q : x < n = adjacent_below n E b y x (flip E x y h) in
        (path_adjacent (n - 1) x y).1 (path.near x y h, omega arith, omega arith)

    back : Next x y → x ≤ n - 1 → y ≤ n - 1 → Adjacent E x y
    back (inl e) p q = subst (Adjacent E x) (sym e) (path.link x (omega arith))
    back (inr e) p q = subst (λ (z : ℕ). Adjacent E z y) (sym e) (flip E y (suc y) (path.link y (omega arith)))

    from : Adjacent (path_edges (n - 1)) x y → Adjacent E x y
    from h = let r = (path_adjacent (n - 1) x y).0 h in back r.0 r.1 r.2

-- and the other way
pub same_along : (n : ℕ) (E F : Edges) → Same E F → Along n F → Along n E
same_along n E F s path = record { near = λ x y h. path.near x y ((s x y).0 h); link = λ x l. (s x (suc x)).1 (path.link x l) }
