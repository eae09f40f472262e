-- At a level that a sound board sends at, its second echoes of a value are all of one value: each is some sound board's first result, and the sound boards that
-- send there are over one component, where first results that are values are the same.
use mathlib.Core.Path.{◌≡◌, refl}
use mathlib.Core.Logic.{◌⊎◌, inl, inr}
use Prim.Native.Nat.{ℕ, ◌≤◌, ◌<◌}
use native.Mathlib.Omega.{arith}
use lib.Dec.{T}
use Rattle.base.specs.Sets.{Set, Sound}
use Rattle.base.specs.Limits.{level_count}
use Rattle.plan.specs.Plan.{Plan}
use Rattle.plan.specs.Positions.{edges_of}
use Rattle.component.specs.Component.{whole_of, degree_of}
use Rattle.component_laws.proofs.Laws.{plan_component, acyclic, whole_plan}
use Rattle.message.specs.Message.{none_value}
use Rattle.level_laws.specs.Inner.{Echoed}
use Rattle.party.specs.Party.{Party, level_at, component_of, sending, context_of}
use Rattle.party_laws.proofs.Laws.{sending_entered, sending_level}
use Rattle.graded_consensus.specs.Inner.{Fair, Justified}
use Rattle.graded_consensus.proofs.Second.{origin_agree}
use Rattle.descent.proofs.Trees.{tree_laws}
use Rattle.descent.proofs.Descent.{Here, together}
use Rattle.log_agreement.proofs.Joint.{Joint}
use Rattle.log_agreement.proofs.Views.{plan_shape, levels_of, setting_of, view_of, degree_limit, context_degree}
use Rattle.log_agreement.proofs.Shared.{fair, level_justified}
use Rattle.log_agreement.proofs.Safe.{facts}
use Rattle.agreement_messages.proofs.Bodies.{OneValue}

module _ {n t agreement : ℕ} {plan : Plan} {bad : Set} {st : ℕ → Party} (J : Joint n t agreement plan bad st) (i L : ℕ) (g : Sound n bad i)
    (on : T (sending (st i) L)) where
  abbrev S : Set
  S = component_of (st i) L

  -- a sound board that sends at the level is there
  here : (j : ℕ) → Sound n bad j → T (sending (st j) L) → Here (plan_shape plan) (levels_of plan st) n bad j L (component_of (st j) L) (level_at (st j) L).position
  here j k o = record { sound = k; entered = record { entered = sending_entered (st j) L o; over = refl; place = refl } }

  -- over this board's component
  same : (j : ℕ) → Sound n bad j → T (sending (st j) L) → component_of (st j) L ≡ component_of (st i) L
  same j k o =
      (together (plan_shape plan) (levels_of plan st) n bad (tree_laws (edges_of plan) (acyclic plan J.passes.valid) plan.count) (whole_of plan)
      (plan_component plan (whole_of plan) (whole_plan plan J.passes.valid)) (facts J) L).same (here j k o) (here i g on)

  low : L < level_count
  low = omega (arith, (sending_level (st i) (J.inv i).regular.formed L on).next)

  abbrev F : Fair (setting_of n t plan bad S)
  F = fair J L low S same

  abbrev K : Justified (setting_of n t plan bad S) (view_of st L)
  K = level_justified J L low S same

  abbrev degree : degree_of plan (component_of (st i) L) < none_value
  degree = omega (arith, degree_limit plan J.passes.valid S)

  -- a second echo is of a value of the component, or of none
  candidate : (w : ℕ) → Echoed (level_at (st i) L) w → (w ≤ degree_of plan (component_of (st i) L)) ⊎ (w ≡ none_value)
  candidate w e = go (((J.inv i).regular.law L on).echoed w e).1
    where
      go : (w ≤ (context_of (st i) L).degree) ⊎ (w ≡ none_value) → (w ≤ degree_of plan S) ⊎ (w ≡ none_value)
      go (inl k) = inl (omega (arith, k, context_degree (st i) (J.seated i) L))
      go (inr q) = inr q

  -- one that is not of none
  valued : (w : ℕ) → Echoed (level_at (st i) L) w → w < none_value → w ≤ degree_of plan (component_of (st i) L)
  valued w e k = go (candidate w e)
    where
      go : (w ≤ degree_of plan S) ⊎ (w ≡ none_value) → w ≤ degree_of plan S
      go (inl h) = h
      go (inr q) = absurd (omega arith)

  pub one_value : OneValue (level_at (st i) L)
  one_value = record {
    value = λ w e. go w (candidate w e);
    one = λ v w a b x y. origin_agree F K v w (valued v x a) (valued w y b) (K.second_echo_lem i v g x) (K.second_echo_lem i w g y);
    told = λ h. (((J.inv i).regular.law L on).told h).0;
  }
    where
      go : (w : ℕ) → (w ≤ degree_of plan S) ⊎ (w ≡ none_value) → (w < none_value) ⊎ (w ≡ none_value)
      go w (inl h) = inl (omega (arith, degree))
      go w (inr q) = inr q
