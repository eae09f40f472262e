-- The boards' states as crates descent and graded see them.
use mathlib.Core.Path.{◌≡◌, refl, sym, subst}
use mathlib.Core.Bool.{Bool}
use Prim.Native.Nat.{ℕ, suc, ◌≤◌, ◌<◌}
use native.Mathlib.Numerals.{add-one}
use lib.Dec.{T}
use Rattle.base.specs.Sets.{Set}
use Rattle.base.specs.Limits.{max_degree}
use Rattle.plan.specs.Plan.{Plan}
use Rattle.plan.specs.Positions.{edges_of}
use Rattle.plan.specs.Valid.{plan_valid}
use Rattle.component.specs.Component.{size_of, centre_of, degree_of, port_of}
use Rattle.component_laws.proofs.Laws.{degree_most}
use Rattle.message.specs.Message.{none_value}
use Rattle.level.specs.Level.{no_output}
use Rattle.level.specs.Counts.{bit_places}
use Rattle.level_laws.specs.Inner.{SentIn, heard_from}
use Rattle.party.specs.Party.{Party, level_at, component_of, sending, context_of}
use Rattle.party_laws.proofs.Laws.{sending_three, entered_sending}
use Rattle.graded_consensus.specs.Inner.{Setting, View}
use Rattle.descent.specs.Inner.{Shape, Levels}
use Rattle.descent.proofs.Trees.{tree_shape}
use Rattle.log_agreement.proofs.Joint.{Seated}

-- ---- crate descent's view

-- the board has entered level L, over the component S, at position x
pub record EnteredAt (p : Party) (L : ℕ) (S : Set) (x : ℕ) : Type 0 where
  pub entered : T (level_at p L).entered
  pub over : S ≡ component_of p L
  pub place : x ≡ (level_at p L).position

-- its result there is the value v, sure or not
pub record ResultAt (p : Party) (L v : ℕ) (sure : Bool) : Type 0 where
  pub sends : T (sending p L)
  pub result : (level_at p L).result ≡ v
  pub value : v < none_value
  pub grade : (level_at p L).sure ≡ sure

-- its result there is none
pub record NoneAt (p : Party) (L : ℕ) : Type 0 where
  pub sends : T (sending p L)
  pub result : (level_at p L).result ≡ none_value

-- its output there is y
pub record OutputAt (p : Party) (L y : ℕ) : Type 0 where
  pub entered : T (level_at p L).entered
  pub output : (level_at p L).output ≡ y
  pub there : y ≡ no_output → ⊥

-- the plan as a tree
abbrev pub plan_shape : Plan → Shape
plan_shape plan = tree_shape (edges_of plan) plan.count

abbrev pub levels_of : (plan : Plan) → (ℕ → Party) → Levels (plan_shape plan)
levels_of plan st = record {
  Entered = λ i. EnteredAt (st i);
  Result = λ i. ResultAt (st i);
  None = λ i. NoneAt (st i);
  Output = λ i. OutputAt (st i);
}

-- ---- crate graded_consensus' view, of level L over the component S

abbrev pub setting_of : (n t : ℕ) (plan : Plan) (bad S : Set) → Setting
setting_of n t plan bad S = record { n = n; t = t; bad = bad; d = degree_of plan S; K = bit_places }

abbrev pub view_of : (ℕ → Party) → ℕ → View
view_of st L = record {
  Entered = λ i. T (sending (st i) L);
  port = λ i. (context_of (st i) L).port;
  heard = λ i. heard_from (level_at (st i) L);
  Sent = λ i. SentIn (context_of (st i) L) (level_at (st i) L);
  first = λ i. (level_at (st i) L).first;
  result = λ i. (level_at (st i) L).result;
  sure = λ i. (level_at (st i) L).sure;
}

-- ---- a board's context and component, on the plan of the vote

pub degree_limit : (plan : Plan) → T (plan_valid plan) → (S : Set) → degree_of plan S ≤ max_degree
degree_limit = degree_most

module _ {n t agreement : ℕ} {plan : Plan} (p : Party) (s : Seated n t agreement plan p) (L : ℕ) where
  pub context_n : (context_of p L).n ≡ n
  unfolding context_of
  context_n = s.boards

  pub context_t : (context_of p L).t ≡ t
  unfolding context_of
  context_t = s.faults

  pub context_degree : (context_of p L).degree ≡ degree_of plan (component_of p L)
  unfolding context_of
  context_degree z = degree_of (s.on z) (component_of p L)

  pub context_port : (context_of p L).port ≡ port_of plan (component_of p L) (level_at p L).position
  unfolding context_of
  context_port z = port_of (s.on z) (component_of p L) (level_at p L).position

  pub context_centre : (context_of p L).centre ≡ centre_of plan (component_of p L)
  unfolding context_of
  context_centre z = centre_of (s.on z) (component_of p L)

  pub large : T (sending p L) → 3 ≤ size_of plan (component_of p L)
  large h = subst (λ (q : Plan). 3 ≤ size_of q (component_of p L)) s.on (sending_three p L h)

  pub sends : T (level_at p L).entered → 3 ≤ size_of plan (component_of p L) → T (sending p L)
  sends h k = entered_sending p L h (subst (λ (q : Plan). 3 ≤ size_of q (component_of p L)) (sym s.on) k)

-- what the context says of the next level
pub next_entered_lem : (p : Party) (L : ℕ) → (context_of p L).next_entered ≡ (level_at p (suc L)).entered
unfolding context_of
next_entered_lem p L = rw add-one refl

pub next_output_lem : (p : Party) (L : ℕ) → (context_of p L).next_output ≡ (level_at p (suc L)).output
unfolding context_of
next_output_lem p L = rw add-one refl
