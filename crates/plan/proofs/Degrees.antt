-- How many edges are at a position after one more edge.
use mathlib.Core.Path.{◌≡◌, refl, ap}
use mathlib.Core.List.{[], ◌∷◌}
use mathlib.Core.Bool.{Bool, true, false, ◌||◌}
use Prim.Native.Nat.{ℕ, suc, ◌+◌, ◌≤◌, ◌<◌, zero-le}
use native.Mathlib.Omega.{arith}
use lib.Dec.{T, eqb, eqb_refl}
use borrow.Author.Tests.{eqb-true}
use Rattle.base.specs.Sets.{bit}
use Rattle.tree.specs.Edges.{Edge, Edges, edges_at}

pub at_none : {m : ℕ} (x : ℕ) → edges_at [] x ≤ m
unfolding edges_at
at_none x = zero-le

pub at_one : (e : Edge) (F : Edges) → edges_at (e ∷ F) e.one ≡ suc (edges_at F e.one)
unfolding edges_at
at_one e F = go (eqb e.one e.one) (eqb_refl e.one)
  where
    go : (b : Bool) → T b → bit (b || eqb e.one e.two) + edges_at F e.one ≡ suc (edges_at F e.one)
    go true t = omega arith
    go false t = absurd t

pub at_two : (e : Edge) (F : Edges) → edges_at (e ∷ F) e.two ≡ suc (edges_at F e.two)
unfolding edges_at
at_two e F = go (eqb e.two e.one) (eqb e.two e.two) (eqb_refl e.two)
  where
    go : (a b : Bool) → T b → bit (a || b) + edges_at F e.two ≡ suc (edges_at F e.two)
    go true true t = omega arith
    go false true t = omega arith
    go true false t = absurd t
    go false false t = absurd t

-- elsewhere nothing changes, and nowhere are there fewer
pub at_more : (e : Edge) (F : Edges) (x : ℕ) → edges_at F x ≤ edges_at (e ∷ F) x
unfolding edges_at
at_more e F x = omega arith

-- every position keeps within the limit m if the ends do
pub at_most : (m : ℕ) (e : Edge) (F : Edges) → ((x : ℕ) → edges_at F x ≤ m) → edges_at F e.one < m → edges_at F e.two < m → (x : ℕ) → edges_at (e ∷ F) x ≤ m
unfolding edges_at
at_most m e F h a b x = go (eqb x e.one) (eqb x e.two) refl refl
  where
    go : (c d : Bool) → eqb x e.one ≡ c → eqb x e.two ≡ d → bit (c || d) + edges_at F x ≤ m
    go true d i j = let k : x ≡ e.one = eqb-true x e.one i in omega (arith, ap (edges_at F) k)
    go false true i j = let k : x ≡ e.two = eqb-true x e.two j in omega (arith, ap (edges_at F) k)
    go false false i j = omega (arith, h x)
