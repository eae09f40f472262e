-- Question 19 of one level by what is known of the levels before it, for the functions inside this crate.
use Rattle.std.specs.Prelude.{◌≡◌, Bool, ◌&&◌, ℕ, zero, suc, ◌-◌, ◌≤◌, ◌<◌, T, leb, get_or}
use Rattle.base.specs.Pick.{pick}
use Rattle.base.specs.Sets.{Set}
use Rattle.base.specs.Limits.{level_count}
use Rattle.plan.specs.Plan.{Plan}
use Rattle.plan.specs.Valid.{plan_valid}
use Rattle.component.specs.declared.Component.{Component}
use Rattle.component.specs.declared.Survey.{Survey}
use Rattle.component.specs.Component.{whole_of, size_of, centre_of, degree_of, side_of}
use Rattle.component.specs.Inner.{Lent, OfPlan, members, Flat, Surveyed}
use Rattle.level.specs.declared.Level as Code
use Rattle.party.specs.declared.Chart.{Chart}
use Rattle.party.specs.Inner.{no_survey, Sends, Keeps}
use Rattle.party_fields.specs.Inner.{is_unresolved, values_fit, entry_fits}

-- ---- tests

-- the results of a level over S
unfoldable pub results_fit : Plan → Set → Code.Level → Bool
results_fit p S l = pick (leb 3 (size_of p S)) (values_fit (degree_of p S) l) (is_unresolved l)

-- the position and the results of a level over S
unfoldable pub part_fits : Plan → Set → Code.Level → Bool
part_fits p S l = S l.position && results_fit p S l

-- the component that is entered so
unfoldable pub part_of : Plan → Component → ℕ → ℕ → Set
part_of p c zero k = whole_of p
part_of p c (suc i) k = side_of p (members p c) k

-- the survey of the level before i
abbrev pub survey_before : Chart → ℕ → Survey
survey_before d i = get_or d.surveys (i - 1) no_survey

-- question 19 of level i, which is entered, by the chart of the levels before it
unfoldable pub entered_fits : Plan → Chart → ℕ → Code.Level → Bool
entered_fits p d i l =
    entry_fits d.sending (survey_before d i).degree i l.side && part_fits p (part_of p d.deepest i l.side) l

-- ---- what is known before a level

-- level i is over the component that is kept
pub record Over (p : Plan) (c : Component) (i : ℕ) : Type 0 where
  pub lent : Lent p
  pub component : OfPlan p (members p c)
  pub flat : Flat p c
  pub exists : i < level_count

-- the component of the level before i is kept, and was surveyed
pub record Deepest (p : Plan) (d : Chart) (i : ℕ) : Type 0 where
  pub surveyed : Surveyed p d.deepest
  pub centre : (survey_before d i).centre ≡ centre_of p (members p d.deepest)
  pub degree : (survey_before d i).degree ≡ degree_of p (members p d.deepest)

-- level i comes next: the level before it is known, if there is one and it sends
pub record Ready (p : Plan) (d : Chart) (i : ℕ) : Type 0 where
  pub valid : T (plan_valid p)
  pub lent : Lent p
  pub exists : i < level_count
  pub before : (j : ℕ) → i ≡ suc j → d.sending ≡ suc j → Deepest p d i

-- ---- answers

-- r is the test of level i over S with the board at x; where it passes, it sends if S has three or more positions, and else the same levels send
pub record Settles (p : Plan) (test : Bool) (S : Set) (x i : ℕ) (before : Chart) (r : Bool) (after : Chart) : Type 0 where
  pub passes : r ≡ test
  pub small : T r → size_of p S < 3 → Keeps before after
  pub large : T r → 3 ≤ size_of p S → Sends p S x i before after
