-- Laws of adjacency by edges, and of bounds on their ends.
use mathlib.Core.Path.{◌≡◌}
use mathlib.Core.Logic.{inl, inr}
use mathlib.Core.List.{[], ◌∷◌}
use mathlib.Core.Bool.{◌&&◌}
use Prim.Native.Nat.{ℕ, ◌≤◌, ◌<◌}
use native.Mathlib.Omega.{arith}
use lib.Dec.{T, eqb, eqb→eq, eqb_refl}
use Rattle.base.proofs.Bools.{T_and, T-left, T-right, or_split, or_left, or_right}
use Rattle.tree.specs.Walk.{Walk, here, step}
use Rattle.tree.specs.Edges.{Edge, Edges, Ends, Adjacent, ends, adjacent, Below}

-- adjacency is symmetric
pub flip : (E : Edges) (x y : ℕ) → Adjacent E x y → Adjacent E y x
flip [] x y h = h
flip (e ∷ E) x y (inl (inl (p, q))) = inl (inr (q, p))
flip (e ∷ E) x y (inl (inr (p, q))) = inl (inl (q, p))
flip (e ∷ E) x y (inr h) = inr (flip E x y h)

-- a walk stays one when an edge is added
pub more : {P : ℕ → Type 0} (e : Edge) (E : Edges) {x y : ℕ} → Walk (Adjacent E) P x y → Walk (Adjacent (e ∷ E)) P x y
more e E (here p) = here p
more e E (step p h w) = step p (inr h) (more e E w)

-- a neighbour is below n where every end is
pub adjacent_below : (n : ℕ) (E : Edges) → Below n E → (x y : ℕ) → Adjacent E x y → y < n
adjacent_below n [] b x y h = absurd h
adjacent_below n (e ∷ E) b x y (inl (inl (i, j))) = rw j b.1
adjacent_below n (e ∷ E) b x y (inl (inr (i, j))) = rw j b.0
adjacent_below n (e ∷ E) b x y (inr h) = adjacent_below n E b.2 x y h

-- ends below n are below m, where m is no less
pub below_more : (n m : ℕ) (E : Edges) → n ≤ m → Below n E → Below m E
below_more n m [] l b = tt
below_more n m (e ∷ E) l b = (omega (arith, b.0), omega (arith, b.1), below_more n m E l b.2)

pair_of_lem : (x y a b : ℕ) → T (eqb x a && eqb y b) → (x ≡ a) × (y ≡ b)
pair_of_lem x y a b h = (eqb→eq x a (T-left (eqb x a) _ h), eqb→eq y b (T-right (eqb x a) _ h))

pair_to : (x y a b : ℕ) → (x ≡ a) × (y ≡ b) → T (eqb x a && eqb y b)
pair_to x y a b (i, j) = rw (i, j) (T_and (eqb a a) (eqb b b) (eqb_refl a) (eqb_refl b))

ends_of : (e : Edge) (x y : ℕ) → T (ends e x y) → Ends e x y
unfolding ends
ends_of e x y h = elim (or_split (eqb x e.one && eqb y e.two) _ h) [ inl p ↦ inl (pair_of_lem x y e.one e.two p) | inr p ↦ inr (pair_of_lem x y e.two e.one p) ]

ends_to : (e : Edge) (x y : ℕ) → Ends e x y → T (ends e x y)
unfolding ends
ends_to e x y (inl p) = or_left (eqb x e.one && eqb y e.two) _ (pair_to x y e.one e.two p)
ends_to e x y (inr p) = or_right (eqb x e.one && eqb y e.two) _ (pair_to x y e.two e.one p)

-- the test tells adjacency
pub adjacent→ : (E : Edges) (x y : ℕ) → T (adjacent E x y) → Adjacent E x y
unfolding adjacent
adjacent→ [] x y h = h
adjacent→ (e ∷ E) x y h = elim (or_split (ends e x y) _ h) [ inl p ↦ inl (ends_of e x y p) | inr p ↦ inr (adjacent→ E x y p) ]

pub adjacent← : (E : Edges) (x y : ℕ) → Adjacent E x y → T (adjacent E x y)
unfolding adjacent
adjacent← [] x y h = h
adjacent← (e ∷ E) x y (inl p) = or_left (ends e x y) _ (ends_to e x y p)
adjacent← (e ∷ E) x y (inr p) = or_right (ends e x y) _ (adjacent← E x y p)
