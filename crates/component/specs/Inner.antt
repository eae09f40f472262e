-- A component as the code keeps it, and what it tells of one: for the functions of this crate and those above it.
use Rattle.std.specs.Prelude.{◌≡◌, List, ℕ, suc, ◌-◌, ◌≤◌, ◌<◌, T, ltb, eqb, length, get_or}
use Rattle.base.specs.Pick.{pick}
use Rattle.base.specs.Sets.{Set, count}
use Rattle.tree.specs.Walk.{Walk}
use Rattle.tree.specs.Edges.{Adjacent}
use Rattle.tree.specs.Inner.{In, interval}
use Rattle.marks.specs.Marks.{numbered}
use Rattle.plan.specs.Plan.{Plan}
use Rattle.plan.specs.Positions.{edges_of}
use Rattle.plan.specs.Valid.{plan_valid}
use Rattle.component.specs.Component.{size_of, centre_of, degree_of, port_of}
use Rattle.component.specs.declared.Component.{Component}
use Rattle.component.specs.declared.Centre.{Centre}
use Rattle.component.specs.declared.Survey.{Survey}

-- the port of x in an interval whose centre is m
unfoldable pub port_at : ℕ → ℕ → ℕ
port_at m x = pick (ltb x m) 1 (pick (ltb m x) 2 0)

-- what the rules at a level ask of its component, with the board at x
unfoldable pub survey_of : Plan → Set → ℕ → Survey
survey_of p S x = record { centre = centre_of p S; degree = degree_of p S; port = port_of p S x }

-- ---- a plan and its components

-- a tree's rows are all there
pub record Lent (p : Plan) : Type 0 where
  pub parents : p.kind ≡ 1 → p.count - 1 ≤ length p.parent
  pub children : p.kind ≡ 1 → p.count - 1 ≤ length p.child

-- a valid plan, and a set of its positions that is joined in itself and not empty
pub record OfPlan (p : Plan) (S : Set) : Type 0 where
  pub valid : T (plan_valid p)
  pub below : (x : ℕ) → T (S x) → x < p.count
  pub joins : (x y : ℕ) → T (S x) → T (S y) → Walk (Adjacent (edges_of p)) (In S) x y
  pub some : 0 < count p.count S

-- ---- a component as it is kept: in its bytes for a tree, from low to high for a range

-- its positions: those with a number other than 0, or those of the interval
unfoldable pub members : Plan → Component → Set
members p c = pick (eqb p.kind 1) (numbered c.ports) (interval c.low c.high)

-- before the survey: of a tree every number is 0 or 1
pub record Flat (p : Plan) (c : Component) : Type 0 where
  pub most : p.kind ≡ 1 → (x : ℕ) → get_or c.ports x 0 ≤ 1

-- after it: of a tree every number is 0 outside, 1 at the centre, k + 1 in side k
pub record Numbered (p : Plan) (c : Component) : Type 0 where
  pub is : p.kind ≡ 1 → (x : ℕ) → get_or c.ports x 0 ≡ pick (members p c x) (suc (port_of p (members p c) x)) 0

-- the set S, before its survey
pub record Holds (p : Plan) (c : Component) (S : Set) : Type 0 where
  pub is : members p c ≡ S
  pub flat : Flat p c

-- a component before its survey, with its plan's rows, and x one of its positions
pub record Enterable (p : Plan) (c : Component) (x : ℕ) : Type 0 where
  pub rows : Lent p
  pub of : OfPlan p (members p c)
  pub flat : Flat p c
  pub place : T (members p c x)

-- a component of three or more positions, after its survey
pub record Surveyed (p : Plan) (c : Component) : Type 0 where
  pub of : OfPlan p (members p c)
  pub three : 3 ≤ size_of p (members p c)
  pub numbers : Numbered p c

-- its centre, and k the number of one of its sides
pub record HasSide (p : Plan) (c : Component) (centre k : ℕ) : Type 0 where
  pub surveyed : Surveyed p c
  pub at : centre ≡ centre_of p (members p c)
  pub low : 1 ≤ k
  pub high : k ≤ degree_of p (members p c)

-- what numbering the component S finds, and leaves in c
pub record Finds (p : Plan) (S : Set) (c : Component) (r : Centre) : Type 0 where
  pub centre : r.centre ≡ centre_of p S
  pub degree : r.degree ≡ degree_of p S
  pub same : members p c ≡ S
  pub numbers : Numbered p c

-- and its survey with the board at x
pub record Surveys (p : Plan) (S : Set) (x : ℕ) (c : Component) (r : Survey) : Type 0 where
  pub is : r ≡ survey_of p S x
  pub same : members p c ≡ S
  pub numbers : Numbered p c
