-- What the functions inside this crate ask and give.
use Rattle.std.specs.Prelude.{◌≡◌, Bool, true, false, List, ℕ, ◌≤◌, ◌<◌, T, leb, Option, Some, None}
use Rattle.base.specs.Pick.{pick}
use Rattle.base.specs.Sets.{Set}
use Rattle.plan.specs.Plan.{Plan}
use Rattle.component.specs.declared.Component.{Component}
use Rattle.component.specs.declared.Survey.{Survey}
use Rattle.component.specs.Component.{size_of, neighbour_of, side_of}
use Rattle.component.specs.Inner.{Lent, OfPlan, members, HasSide}
use Rattle.level.specs.Level.{with_entry}
use Rattle.level.specs.declared.Context.{Context}
use Rattle.level.specs.Rules.{Effect, Nothing, Quiet, Send, Enter, SendEnter}
use Rattle.level.specs.declared.Level.{Level}
use Rattle.level.specs.Tie.{as_level}
use Rattle.party.specs.declared.Chart.{Chart}
use Rattle.party.specs.Inner.{Sends, Keeps}
use Rattle.party_step.specs.declared.Way.{Way}

-- what the rules see at a level with this survey, before a next level that is entered or not and has this output
abbrev pub seen : ℕ → ℕ → Survey → Bool → ℕ → Context
seen n t s entered output = record {
  n = n;
  t = t;
  degree = s.degree;
  port = s.port;
  centre = s.centre;
  next_entered = entered;
  next_output = output;
}

-- ---- a level entered, over a component S of the plan

-- m is the level `old` entered as level i over S by side k at x; with three or more positions it sends
pub record Enters (p : Plan) (S : Set) (old : Level) (k x i : ℕ) (before : Chart) (m : Level) (after : Chart) : Type 0 where
  -- its record, whatever was heard there
  pub level : (sets : List ℕ) → as_level sets m ≡ with_entry (as_level sets old) k x (pick (leb 3 (size_of p S)) old.output x)
  pub small : size_of p S < 3 → Keeps before after
  pub large : 3 ≤ size_of p S → Sends p S x i before after

-- ---- a side entered

-- where side k of S is entered: at the old position where `keep`, else at neighbour k
abbrev pub place : Plan → Set → ℕ → Bool → ℕ → ℕ
place p S k keep old = pick keep old (neighbour_of p S k)

-- what entering a side of the component c asks
pub record Descends (p : Plan) (c : Component) (centre position : ℕ) (w : Way) : Type 0 where
  pub rows : Lent p
  pub has : HasSide p c centre w.side
  pub of : OfPlan p (side_of p (members p c) w.side)
  pub place : T (side_of p (members p c) w.side (place p (members p c) w.side w.keep position))

-- ---- a rule

-- what a rule with this effect enters
abbrev pub way_of : Effect → Option Way
way_of Nothing = None
way_of Quiet = None
way_of (Send b) = None
way_of (Enter k keep) = Some (record { side = k; keep = keep })
way_of (SendEnter k) = Some (record { side = k; keep = false })

-- what a rule asks at a level with this centre and position, over the component c where it enters a side
abbrev pub Steps : Plan → Component → ℕ → ℕ → Option Way → Type 0
Steps p c centre position None = Unit {0}
Steps p c centre position (Some w) = Descends p c centre position w

-- the next level, i, entered by a rule: m is its record
abbrev pub Below : Plan → Chart → ℕ → Level → ℕ → Way → Level → Chart → Type 0
Below p before position next i w m after =
    Enters p (side_of p (members p before.deepest) w.side) next w.side (place p (members p before.deepest) w.side w.keep position) i before m after

-- and what a rule gives: m is the next level after it
abbrev pub Stepped : Plan → Chart → ℕ → Level → ℕ → Option Way → Level → Chart → Type 0
Stepped p before position next i None m after = (m ≡ next) × (after ≡ before)
Stepped p before position next i (Some w) m after = Below p before position next i w m after
