-- What is shown of a plan's number of sending levels: it is that of its deepest component, reached by a chain of sides.
use Rattle.std.specs.Prelude.{◌≡◌, ℕ, zero, suc, ◌≤◌, ◌<◌, T}
use Rattle.base.specs.Sets.{Set}
use Rattle.plan.specs.Plan.{Plan}
use Rattle.plan.specs.Valid.{plan_valid}
use Rattle.component.specs.Component.{whole_of, size_of, port_of, side_of}
use Rattle.plan_levels.specs.Levels.{levels_of}

-- the chain of sides of position x: all positions at level 0, and at each next level the side that holds x; where x is the centre of one, the next does not hold x
unfoldable pub chain_at : Plan → ℕ → ℕ → Set
chain_at p x zero = whole_of p
chain_at p x (suc L) = side_of p (chain_at p x L) (port_of p (chain_at p x L) x)

-- x lies in a component of three or more positions at level L of its chain of sides
pub record Deep (p : Plan) (x L : ℕ) : Type 0 where
  pub lies : T (chain_at p x L x)
  pub three : 3 ≤ size_of p (chain_at p x L)

-- k is the number of sending levels of the deepest component
pub record Deepest (p : Plan) (k : ℕ) : Type 0 where
  -- no component that sends lies at level k or beyond
  pub most : (x L : ℕ) → Deep p x L → L < k
  -- one lies at level k - 1, if k is at least 1
  pub reached : (L : ℕ) → suc L ≡ k → (x : ℕ) × Deep p x L

abbrev pub Statement : Type 0
Statement = (p : Plan) → T (plan_valid p) → Deepest p (levels_of p)
