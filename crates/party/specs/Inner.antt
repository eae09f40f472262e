-- What a chart says of its party: for the calls inside the library.
use Rattle.std.specs.Prelude.{◌≡◌, false, ℕ, suc, ◌+◌, ◌*◌, ◌<◌, ltb, length, get_or, set}
use Rattle.base.specs.Limits.{level_count}
use Rattle.base.specs.Sets.{Set}
use Rattle.plan.specs.Plan.{Plan}
use Rattle.component.specs.declared.Survey.{Survey}
use Rattle.component.specs.Inner.{members, Numbered, survey_of}
use Rattle.level.specs.Level.{slot_count, value_count}
use Rattle.party.specs.declared.Chart.{Chart}
use Rattle.party.specs.declared.Party as Code
use Rattle.party.specs.Party.{Party, level_at, component_of, sending}

-- what reading past the last survey gives
abbrev pub no_survey : Survey
no_survey = record { centre = 0; degree = 0; port = 0 }

-- how many sets of senders a party has
abbrev pub set_count : ℕ
set_count = slot_count * level_count

pub record Charts (p : Party) (c : Chart) : Type 0 where
  -- the levels that send are those below c .sending, and a level follows them
  pub sends : (i : ℕ) → i < level_count → sending p i ≡ ltb i c.sending
  pub last : c.sending < level_count
  pub surveys : (i : ℕ) → i < c.sending → get_or c.surveys i no_survey ≡ survey_of p.plan (component_of p i) (level_at p i).position
  -- the component of the last of them, from which a next level can still be entered
  pub deepest : (i : ℕ) → c.sending ≡ suc i → (level_at p (suc i)).entered ≡ false → members p.plan c.deepest ≡ component_of p i
  pub numbered : (i : ℕ) → c.sending ≡ suc i → (level_at p (suc i)).entered ≡ false → Numbered p.plan c.deepest

-- ---- a level is entered

-- level i, over S with the board at x, is then the last that sends
pub record Sends (p : Plan) (S : Set) (x i : ℕ) (before after : Chart) : Type 0 where
  pub sending : after.sending ≡ i + 1
  pub surveys : after.surveys ≡ set before.surveys i (survey_of p S x)
  pub deepest : members p after.deepest ≡ S
  pub numbers : Numbered p after.deepest

-- the same levels send; the component is another
pub record Keeps (before after : Chart) : Type 0 where
  pub sending : after.sending ≡ before.sending
  pub surveys : after.surveys ≡ before.surveys

-- the lengths of a record's arrays, which the language knows of every value of the type
pub record Whole (c : Code.Party) : Type 0 where
  pub levels : length c.levels ≡ level_count
  pub sets : length c.sets ≡ set_count

-- the same of a party: what every value of the type stands for
pub record Filled (p : Party) : Type 0 where
  pub levels : length p.levels ≡ level_count
  -- a place for every second echo
  pub echoed : (i : ℕ) → i < level_count → length (level_at p i).echoed ≡ value_count
