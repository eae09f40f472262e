-- Document 02, Q-7: the number of sending levels of a plan's deepest component, by what boards do.
use Rattle.std.specs.Prelude.{List, ℕ, ◌<◌}
use Rattle.base.specs.Sets.{Set}
use Rattle.message.specs.declared.Body.TheVariants.{FirstEcho}
use Rattle.message.specs.declared.Message.{Message}
use Rattle.plan.specs.Plan.{Plan}
use Rattle.plan.specs.Positions.{reading_of}
use Rattle.component.specs.Component.{port_of}
use Rattle.plan_levels.specs.Levels.{levels_of}
use Rattle.plan_levels.specs.Statement.{chain_at, Deep}
use Rattle.agreement.specs.History.{Instance, History}
use Rattle.agreement.specs.Allowed.{Sound, Allowed}
use Rattle.agreement.specs.Demand.{Started, Made, Shared, Premises}
use Rattle.agreement_levels.specs.Alone.{alone_instance, nobody}

-- no sound board makes a message at a level at or beyond it, whoever is faulty
abbrev pub NoDeeper : Type 0
NoDeeper =
    (v : Instance) (plan : Plan) (bad : Set) (h : History) → Shared v plan → Allowed v bad h
    → (i : ℕ) (m : Message) → Sound v bad i → Made h i m → m.level < levels_of plan

-- the first echo at level L of a board that goes down the chain of sides of x
abbrev pub echo_of : ℕ → Plan → ℕ → ℕ → Message
echo_of a plan x L = record { number = a; level = L; body = FirstEcho (port_of plan (chain_at plan x L) x) }

-- a history of a board alone that starts at x: it makes a message at every level at which x lies in a component of three or more positions
pub record AloneMakes (a : ℕ) (bytes : List ℕ) (plan : Plan) (x : ℕ) : Type 0 where
  pub history : History
  pub premises : Premises (alone_instance a bytes) plan nobody history
  pub started : Started history 0 x (reading_of plan x)
  pub made : (L : ℕ) → Deep plan x L → Made history 0 (echo_of a plan x L)

-- there is one, whatever the plan
abbrev pub Reaches : Type 0
Reaches = (a : ℕ) (bytes : List ℕ) (plan : Plan) → Shared (alone_instance a bytes) plan → (x : ℕ) → x < plan.count → AloneMakes a bytes plan x
