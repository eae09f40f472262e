-- The edges of a plan, which positions they make neighbours, and which they join.
use Rattle.std.specs.Prelude.{◌≡◌, ◌⊎◌, List, [], ◌∷◌, Bool, true, false, ◌&&◌, ◌||◌, ℕ, ◌+◌, ◌<◌, T, eqb}
use Rattle.base.specs.Pick.{pick}
use Rattle.base.specs.Sets.{Set, bit}

pub record Edge : Type 0 where
  pub one : ℕ
  pub two : ℕ

-- edges in the order of reading, the latest first
abbrev pub Edges : Type 0
Edges = List Edge

-- every end is below n
abbrev pub Below : ℕ → Edges → Type 0
Below n [] = Unit {0}
Below n (e ∷ E) = (e.one < n) × (e.two < n) × Below n E

-- x and y are the two ends of the edge
abbrev pub Ends : Edge → ℕ → ℕ → Type 0
Ends e x y = ((x ≡ e.one) × (y ≡ e.two)) ⊎ ((x ≡ e.two) × (y ≡ e.one))

-- some edge joins x and y
abbrev pub Adjacent : Edges → ℕ → ℕ → Type 0
Adjacent [] x y = ⊥
Adjacent (e ∷ E) x y = Ends e x y ⊎ Adjacent E x y

-- the same as tests
unfoldable pub ends : Edge → ℕ → ℕ → Bool
ends e x y = (eqb x e.one && eqb y e.two) || (eqb x e.two && eqb y e.one)

unfoldable pub adjacent : Edges → ℕ → ℕ → Bool
adjacent [] x y = false
adjacent (e ∷ E) x y = ends e x y || adjacent E x y

-- every position
abbrev pub all : Set
all = λ _. true

-- Labels: two members of S have the same label exactly when the edges inside S join them by a walk.
unfoldable pub label : Set → Edges → ℕ → ℕ
label S [] x = x
label S (e ∷ E) x = pick ((S e.one && S e.two) && eqb (label S E x) (label S E e.two)) (label S E e.one) (label S E x)

-- x and y are joined by edges inside S
unfoldable pub joined : Set → Edges → ℕ → ℕ → Bool
joined S E x y = eqb (label S E x) (label S E y)

-- how many edges end at c
unfoldable pub edges_at : Edges → ℕ → ℕ
edges_at [] c = 0
edges_at (e ∷ E) c = bit (eqb c e.one || eqb c e.two) + edges_at E c
