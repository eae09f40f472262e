-- Definitions that serve proofs, and contracts of inner functions: what holds of a plan's edges, intervals of a path, and passes over edges in growth order.
use Rattle.std.specs.Prelude.{Bool, false, not, ◌&&◌, ◌||◌, [], ◌∷◌, ℕ, ◌+◌, ◌-◌, ◌*◌, ◌/◌, T, eqb, leb, ltb}
use Rattle.base.specs.Pick.{pick}
use Rattle.base.specs.Sets.{Set, bit, count}
use Rattle.tree.specs.Edges.{Edge, Edges, all, joined}
use Rattle.tree.specs.Growth.{reached}

-- x is in the set
abbrev pub In : Set → ℕ → Type 0
In S x = T (S x)

-- "Are its ends not yet joined through earlier edges?", of each edge
abbrev pub Acyclic : Edges → Type 0
Acyclic [] = Unit {0}
Acyclic (e ∷ E) = (T (joined all E e.one e.two) → ⊥) × Acyclic E

-- each edge leads from a position that is reached to one that is not
abbrev pub Grown : Edges → Type 0
Grown [] = Unit {0}
Grown (e ∷ E) = T (reached E e.one) × (T (reached E e.two) → ⊥) × Grown E

-- the positions a to b
unfoldable pub interval : ℕ → ℕ → Set
interval a b x = leb a x && leb x b

-- "On a path from a to b the centre is a + (b-a)/2 rounded down."
abbrev pub middle : ℕ → ℕ → ℕ
middle a b = a + (b - a) / 2

-- ---- passes over edges in growth order: the sizes of subtrees, and a test for light members, each linear in the number of edges
-- (proofs/GrowthLight.antt: the test passes exactly the light members of a component)

-- both ends of the edge are in S
abbrev pub inside : Set → Edge → Bool
inside S e = S e.one && S e.two

-- the first end takes what the second holds, if both are in S
unfoldable pub lift : Set → Edge → (ℕ → ℕ) → ℕ → ℕ
lift S e f x = pick (inside S e && eqb x e.one) (f x + f e.two) (f x)

-- one pass, the latest edge first
unfoldable pub up : Set → Edges → (ℕ → ℕ) → ℕ → ℕ
up S [] f x = f x
up S (e ∷ F) f x = up S F (lift S e f) x

-- how many members of S hang below u, u included: every member counts one, and the pass adds them up
unfoldable pub subtree : Set → Edges → ℕ → ℕ
subtree S F u = up S F (λ x. bit (S x)) u

-- An edge inside S, of s members, shows that its end c is not light: what lies beyond it has more than s/2. `sub` are the subtrees' sizes.
unfoldable pub shows : Set → (ℕ → ℕ) → ℕ → Edge → ℕ → Bool
shows S sub s e c = inside S e && ((eqb c e.one && ltb s (sub e.two * 2)) || (eqb c e.two && ltb s ((s - sub e.two) * 2)))

-- some edge shows it
unfoldable pub bad : Set → (ℕ → ℕ) → ℕ → Edges → ℕ → Bool
bad S sub s [] c = false
bad S sub s (e ∷ F) c = shows S sub s e c || bad S sub s F c

-- the members of S of which no edge shows it
unfoldable pub unshown : Edges → ℕ → Set → Set
unshown F n S c = S c && not (bad S (subtree S F) (count n S) F c)
