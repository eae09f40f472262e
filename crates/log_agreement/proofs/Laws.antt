-- Agreement, validity and the end of a vote, after every history with at most t faulty boards among n, 3t below n.
use mathlib.Core.Path.{◌≡◌, refl, sym, ◌∙◌, subst}
use mathlib.Core.Logic.{◌⊎◌}
use mathlib.Core.List.{List}
use Prim.Native.Nat.{ℕ, ◌≤◌}
use native.Mathlib.Omega.{arith}
use lib.Dec.{T}
use Rattle.base.specs.Sets.{Set, count, Sound}
use Rattle.base.proofs.Bools.{T-dec}
use Rattle.tree.specs.Walk.{Walk, OnPath}
use Rattle.tree.specs.Edges.{Adjacent}
use Rattle.plan.specs.Plan.{Plan}
use Rattle.plan.specs.Positions.{edges_of}
use Rattle.message.specs.declared.Message.{Message}
use Rattle.level.specs.Level.{no_output}
use Rattle.party.specs.Party.{Party, level_at, component_of}
use Rattle.component.specs.Component.{whole_of}
use Rattle.component_laws.proofs.Laws.{plan_component, acyclic, whole_plan, whole_joined}
use Rattle.execution.specs.History.{HStep, log, after}
use Rattle.execution.specs.Inner.{ValidH}
use Rattle.vote_machine.specs.Machine.{vote_machine, Heard, Sent}
use Rattle.vote_machine.proofs.Laws.{Passes}
use Rattle.descent.specs.Inner.{Input}
use Rattle.descent.proofs.Trees.{tree_near, tree_between, tree_ends}
use Rattle.log_agreement.proofs.Joint.{Joint, joint}
use Rattle.log_agreement.proofs.Views.{plan_shape, OutputAt, levels_of}
use Rattle.log_agreement.proofs.Safe.{facts}
use Rattle.log_agreement.proofs.Ends.{quiet}

-- board i's party after the history h
abbrev pub state_of : (n t agreement : ℕ) (plan : Plan) → List (HStep (vote_machine n t agreement plan)) → ℕ → Party
state_of n t agreement plan h i = after (vote_machine n t agreement plan) i (log (vote_machine n t agreement plan) i h)

-- x is the input of a sound board: the position at which it entered level 0
pub record InputAt (n : ℕ) (bad : Set) (st : ℕ → Party) (x : ℕ) : Type 0 where
  pub board : ℕ
  pub sound : Sound n bad board
  pub entered : T (level_at (st board) 0).entered
  pub position : (level_at (st board) 0).position ≡ x

module _ (n t agreement : ℕ) (plan : Plan) (v : Passes n t plan) (bad : Set) (few : count n bad ≤ t)
    (h : List (HStep (vote_machine n t agreement plan))) (ok : ValidH (vote_machine n t agreement plan) n bad h) where
  abbrev st : ℕ → Party
  st = state_of n t agreement plan h

  abbrev J : Joint n t agreement plan bad st
  J = joint n t agreement plan v bad few h ok

  -- all positions are a component
  whole : (plan_shape plan).Proper (whole_of plan)
  whole = plan_component plan (whole_of plan) (whole_plan plan v.valid)

  -- an output at level 0 is there only if it is entered
  answer : (i : ℕ) → ((level_at (st i) 0).output ≡ no_output → ⊥) → OutputAt (st i) 0 (level_at (st i) 0).output
  answer i d = record { entered = go (T-dec (level_at (st i) 0).entered); output = refl; there = d }
    where
      go : Dec (T (level_at (st i) 0).entered) → T (level_at (st i) 0).entered
      go (yes e) = e
      go (no e) = absurd (d ((J.inv i).regular.fresh 0 (omega arith) e).output)

  -- The outputs of sound boards are the same or joined by an edge of the plan.
  pub near : (i j : ℕ) → Sound n bad i → Sound n bad j
      → ((level_at (st i) 0).output ≡ no_output → ⊥) → ((level_at (st j) 0).output ≡ no_output → ⊥)
      → ((level_at (st i) 0).output ≡ (level_at (st j) 0).output)
      ⊎ Adjacent (edges_of plan) (level_at (st i) 0).output (level_at (st j) 0).output
  near i j gi gj di dj =
      tree_near (edges_of plan) (acyclic plan v.valid) plan.count (levels_of plan st) n bad (whole_of plan) whole (facts J)
      i j (level_at (st i) 0).output (level_at (st j) 0).output gi gj (answer i di) (answer j dj)

  -- Each lies on the path between two inputs of sound boards, which may be the same one.
  pub between : (i : ℕ) → Sound n bad i → ((level_at (st i) 0).output ≡ no_output → ⊥)
      → (a : ℕ) × (b : ℕ) × InputAt n bad st a × InputAt n bad st b
      × OnPath (Adjacent (edges_of plan)) a b (level_at (st i) 0).output
  between i g d =
      let r = tree_between (edges_of plan) (acyclic plan v.valid) plan.count (levels_of plan st) n bad (whole_of plan) whole (facts J) i (level_at (st i) 0).output g (answer i d) in
      (r.0, r.1, input r.0 r.2, input r.1 r.3, r.4)
    where
      input : (x : ℕ) → Input (plan_shape plan) (levels_of plan st) n bad x → InputAt n bad st x
      input x (j, S, s, e) = record { board = j; sound = s; entered = e.entered; position = sym e.place }

  -- An input is a position of the plan, so a walk joins any two.
  input_on : (x : ℕ) → InputAt n bad (state_of n t agreement plan h) x → T (whole_of plan x)
  input_on x r =
      let f = (facts J).first r.board (component_of (st r.board) 0) x r.sound (record { entered = r.entered; over = refl; place = sym r.position }) in
      subst (λ (S : Set). T (S x)) f.0 f.1

  pub joined : (x y : ℕ) → InputAt n bad (state_of n t agreement plan h) x → InputAt n bad (state_of n t agreement plan h) y
      → Walk (Adjacent (edges_of plan)) (λ _. Unit {0}) x y
  joined x y a b = whole_joined plan v.valid x y (input_on x a) (input_on y b)

  -- Once every sound board has started and has taken all that sound boards made, each has an output.
  pub ends : ((i : ℕ) → Sound n bad i → T (level_at (st i) 0).entered)
      → ((i j : ℕ) (m : Message) → Sound n bad i → Sound n bad j → Sent (st j) m → Heard (st i) j m)
      → (i : ℕ) → Sound n bad i → (level_at (st i) 0).output ≡ no_output → ⊥
  ends started delivered i g e =
      let r =
      tree_ends (edges_of plan) (acyclic plan v.valid) plan.count (levels_of plan st) n bad (whole_of plan) whole (facts J) t v.faults few (quiet J delivered)
      (λ j s. (component_of (st j) 0, (level_at (st j) 0).position, record { entered = started j s; over = refl; place = refl })) i g in
      r.1.there (sym r.1.output ∙ e)
