-- A party's levels: the component of each, and what the rules at it see.
use Rattle.std.specs.Prelude.{Bool, ◌&&◌, List, ℕ, zero, suc, ◌+◌, leb, get_or, set, replicate}
use Rattle.base.specs.Pick.{pick}
use Rattle.base.specs.Sets.{Set}
use Rattle.base.specs.Limits.{level_count}
use Rattle.plan.specs.Plan.{Plan}
use Rattle.component.specs.Component.{whole_of, size_of, centre_of, degree_of, port_of, side_of}
use Rattle.message.specs.declared.Message.{Message}
use Rattle.level.specs.declared.Context.{Context}
use Rattle.level.specs.Level.{Level, no_level, blank_level, with_heard, with_entry, held}

-- a board in one vote, in the definitions' own words; the code's record stands for it by `as_party` (Tie.antt)
pub record Party : Type 0 where
  pub n : ℕ
  pub t : ℕ
  pub own : ℕ
  pub agreement : ℕ
  pub plan : Plan
  pub levels : List Level

-- a party that has not started
abbrev pub new_party : ℕ → ℕ → ℕ → ℕ → Plan → Party
new_party n t own agreement plan =
    record { n = n; t = t; own = own; agreement = agreement; plan = plan; levels = replicate level_count blank_level }

unfoldable pub level_at : Party → ℕ → Level
level_at p i = get_or p.levels i no_level

unfoldable pub with_level : Party → ℕ → Level → Party
with_level p i l =
    record { n = p.n; t = p.t; own = p.own; agreement = p.agreement; plan = p.plan; levels = set p.levels i l }

-- level 0 is over the whole plan, and each next over a side of the one before
unfoldable pub component_of : Party → ℕ → Set
component_of p zero = whole_of p.plan
component_of p (suc i) = side_of p.plan (component_of p i) (level_at p (suc i)).side

-- the board has started: it has entered level 0
abbrev pub started : Party → Bool
started p = (level_at p 0).entered

-- level i is entered and has three or more positions: rules apply there
unfoldable pub sending : Party → ℕ → Bool
sending p i = (level_at p i).entered && leb 3 (size_of p.plan (component_of p i))

-- what the rules at level i see
unfoldable pub context_of : Party → ℕ → Context
context_of p i = record {
  n = p.n;
  t = p.t;
  degree = degree_of p.plan (component_of p i);
  port = port_of p.plan (component_of p i) (level_at p i).position;
  centre = centre_of p.plan (component_of p i);
  next_entered = (level_at p (i + 1)).entered;
  next_output = (level_at p (i + 1)).output;
}

-- level i over a component S is entered by side k at x: "Entering a component of 1 or 2 positions gives that level's output, the board's position"
unfoldable pub entering : Party → ℕ → Set → ℕ → ℕ → Party
entering p i S k x = with_level p i (with_entry (level_at p i) k x (pick (leb 3 (size_of p.plan S)) (level_at p i).output x))

-- "A board enters level 0 at its start, at its input."
unfoldable pub entered : Party → ℕ → Party
entered p x = entering p 0 (whole_of p.plan) 0 x

-- the message is held already
unfoldable pub held_by : Party → ℕ → Message → Bool
held_by p s m = held (level_at p m.level) m.body s

-- the message was taken from s
unfoldable pub hearing : Party → ℕ → Message → Party
hearing p s m = with_level p m.level (with_heard (level_at p m.level) m.body s)

-- "Level 0's output is the answer"; no_output where there is none
abbrev pub output_of : Party → ℕ
output_of p = (level_at p 0).output
