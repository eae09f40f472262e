-- Walks along a relation of adjacency, paths and distances.
use Rattle.std.specs.Prelude.{◌≡◌, ℕ, suc, ◌≤◌}

-- a walk along edges, each position of which meets P
pub data Walk (Adj : ℕ → ℕ → Type 0) (P : ℕ → Type 0) : ℕ → ℕ → Type 0 where
  here : {x : ℕ} → P x → Walk Adj P x x
  step : {x y z : ℕ} → P x → Adj x y → Walk Adj P y z → Walk Adj P x z

-- x is not c
abbrev pub Not : ℕ → ℕ → Type 0
Not c x = x ≡ c → ⊥

-- y lies on the path between a and b: no walk from a to b avoids it ("its ends belong to it")
abbrev pub OnPath : (ℕ → ℕ → Type 0) → ℕ → ℕ → ℕ → Type 0
OnPath Adj a b y = Walk Adj (Not y) a b → ⊥

-- how many edges a walk has
unfoldable pub edges_in : {Adj : ℕ → ℕ → Type 0} {P : ℕ → Type 0} {x y : ℕ} → Walk Adj P x y → ℕ
edges_in (here p) = 0
edges_in (step p e w) = suc (edges_in w)

-- "Distance counts a path's edges": the least number of edges of a walk
pub record Distance (Adj : ℕ → ℕ → Type 0) (a b k : ℕ) : Type 0 where
  pub walk : Walk Adj (λ _. Unit {0}) a b
  pub long : edges_in walk ≡ k
  pub least : (w : Walk Adj (λ _. Unit {0}) a b) → k ≤ edges_in w
