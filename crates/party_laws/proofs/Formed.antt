-- A party that passes question 19 and has all its levels: its entered levels and those that send; and everything that a board does keeps it so.
use mathlib.Core.Path.{◌≡◌, ◌∙◌}
use Prim.Native.Nat.{ℕ, suc, ◌+◌, ◌≤◌, ◌<◌}
use native.Mathlib.Omega.{arith}
use lib.Dec.{T}
use lib.ListN.{length-replicate}
use Rattle.base.specs.Limits.{max_degree, last_level, level_count}
use Rattle.plan.specs.Plan.{Plan}
use Rattle.plan.specs.Valid.{plan_valid}
use Rattle.component.specs.Component.{size_of, centre_of, degree_of, port_of}
use Rattle.component.specs.Inner.{OfPlan}
use Rattle.component_laws.proofs.Laws.{centre_in, Nested}
use Rattle.message.specs.declared.Message.{Message}
use Rattle.message.specs.Message.{in_table}
use Rattle.level.specs.Level.{not_yet, no_output, blank_level}
use Rattle.level.specs.Inner.{InLimits}
use Rattle.level_laws.proofs.Law.{Same}
use Rattle.party.specs.Party.{Party, new_party, level_at, component_of, sending, context_of, entered, started, hearing}
use Rattle.party.specs.Run.{open_at, step_at, run_up_to, run, starting, taking}
use Rattle.party.specs.Valid.{settings_pass}
use Rattle.plan_laws.proofs.Shape.{shape}
use Rattle.party_laws.specs.Inner.{SameBoard, Grown, Formed}
use Rattle.party_laws.proofs.Valid.{Value, Holds, Entry, Valid, valid→, →valid}
use Rattle.party_laws.proofs.Components as components
use Rattle.party_laws.proofs.Components.{sending_entered, sending_three}
use Rattle.party_laws.proofs.Moves.{step_valid}
use Rattle.party_laws.proofs.Calls.{new_valid, hearing_valid, entered_valid}
use Rattle.party_laws.proofs.Runs.{runs_keep, run_keeps, starting_keeps, taking_keeps}
use Rattle.party_laws.proofs.Kept as kept
use Rattle.party_laws.proofs.Kept.{Keeps, step_kept, keeps_hearing, keeps_entered}

-- an entered level
pub record EnteredLevel (p : Party) (i : ℕ) : Type 0 where
  pub exists : i < level_count
  pub entry : Entry p i
  pub plan : OfPlan p.plan (component_of p i)
  pub place : T (component_of p i (level_at p i).position)
  pub degree : degree_of p.plan (component_of p i) ≤ max_degree
  pub port : port_of p.plan (component_of p i) (level_at p i).position ≤ degree_of p.plan (component_of p i)

-- a level that sends
pub record SendingLevel (p : Party) (i : ℕ) : Type 0 where
  pub entered : T (level_at p i).entered
  pub level : EnteredLevel p i
  pub last : i ≤ last_level
  pub next : i + 1 < level_count
  pub three : 3 ≤ size_of p.plan (component_of p i)
  pub some : 1 ≤ degree_of p.plan (component_of p i)
  pub centre : T (component_of p i (centre_of p.plan (component_of p i)))
  pub first : Value (degree_of p.plan (component_of p i)) (level_at p i).first
  pub result : Value (degree_of p.plan (component_of p i)) (level_at p i).result
  pub limits : InLimits (context_of p i) (level_at p i)

module _ (p : Party) (w : Formed p) where
  abbrev v : Valid p
  v = valid→ p w.valid

  -- levels that send are a prefix, and so are those that are entered; the level before an entered one sends
  pub sending_before : (i : ℕ) → T (sending p (suc i)) → T (sending p i)
  sending_before i h = components.sending_before p v w.full i h

  pub entered_before : (i : ℕ) → T (level_at p (suc i)).entered → T (sending p i)
  entered_before i h = components.entered_before p v w.full i h

  pub entered_down : (i j : ℕ) → i ≤ j → T (level_at p j).entered → T (level_at p i).entered
  entered_down i j l h = components.entered_down p v w.full i j l h

  -- what every level's record holds
  pub level_holds : (i : ℕ) → i < level_count → Holds p i
  level_holds i l = v.holds i l

  pub first_limit : (i : ℕ) → i < level_count → (level_at p i).first ≤ not_yet
  first_limit i l = components.level_value p v w.full i (level_at p i).first (components.level_results p v w.full i l).0

  pub result_limit : (i : ℕ) → i < level_count → (level_at p i).result ≤ not_yet
  result_limit i l = components.level_value p v w.full i (level_at p i).result (components.level_results p v w.full i l).1

  pub level_limits : (i : ℕ) → i < level_count → InLimits (context_of p i) (level_at p i)
  level_limits i l = components.level_limits p v w.full i l

  pub entered_level : (i : ℕ) → T (level_at p i).entered → EnteredLevel p i
  entered_level i h = record {
    exists = components.entered_level p v w.full i h;
    entry = components.entered_entry p v w.full i h;
    plan = components.entered_plan p v w.full i h;
    place = components.entered_place p v w.full i h;
    degree = components.level_degree p v w.full i;
    port = components.entered_port p v w.full i h;
  }

  -- its component is nested in those before it
  pub entered_nested : (i : ℕ) → T (level_at p i).entered → Nested p.plan i (component_of p i)
  entered_nested i h = components.entered_nested p v w.full i h

  pub sending_level : (i : ℕ) → T (sending p i) → SendingLevel p i
  sending_level i h =
      let e = sending_entered p i h in
      let l : suc i < level_count = components.sending_level p v w.full i h in
      let r = components.level_results p v w.full i (omega arith) in
      record {
        entered = e;
        level = entered_level i e;
        last = omega arith;
        next = omega arith;
        three = sending_three p i h;
        some = components.sending_degree p v w.full i h;
        centre = centre_in p.plan (component_of p i) (components.entered_plan p v w.full i e);
        first = r.0;
        result = r.1;
        limits = level_limits i (omega arith);
      }

  -- a position is no missing output
  pub position_output : (x : ℕ) → x < p.plan.count → x ≡ no_output → ⊥
  position_output x h e = omega (arith, (shape p.plan v.plan).most)

  -- the centre that the rules see is a position
  pub context_centre : (i : ℕ) → T (sending p i) → (context_of p i).centre < p.plan.count
  unfolding context_of
  context_centre i h = let s = sending_level i h in s.level.plan.below (centre_of p.plan (component_of p i)) s.centre

-- ---- question 19 is kept

-- of a party with the settings and plan of one that is formed
formed : (p q : Party) → Formed p → SameBoard p q → Valid q → Formed q
formed p q w b v = record { valid = →valid q v; full = b.levels ∙ w.full }

pub formed_new : (n t own a : ℕ) (plan : Plan) → T (settings_pass (new_party n t own a plan)) → T (plan_valid plan) → Formed (new_party n t own a plan)
formed_new n t own a plan s h = record { valid = →valid (new_party n t own a plan) (new_valid n t own a plan s h); full = length-replicate level_count blank_level }

-- a message of the table taken from a board
pub formed_hearing : (p : Party) → Formed p → (s : ℕ) (m : Message) → s < p.n → T (in_table m) → Formed (hearing p s m)
formed_hearing p w s m h k = formed p (hearing p s m) w (keeps_hearing p s m).board (hearing_valid p (valid→ p w.valid) w.full s m h k)

-- a start at a position
pub formed_entered : (p : Party) → Formed p → (x : ℕ) → (T (started p) → ⊥) → x < p.plan.count → Formed (entered p x)
formed_entered p w x new h = formed p (entered p x) w (keeps_entered p x new).board (entered_valid p (valid→ p w.valid) w.full x new h)

-- a rule at a level where one applies
pub formed_step : (p : Party) → Formed p → (i : ℕ) → T (open_at p i) → Formed (step_at p i)
formed_step p w i h = formed p (step_at p i) w (step_kept p i h).0.board (step_valid p (valid→ p w.valid) w.full i h)

-- rules until none applies
pub formed_runs : (f : ℕ) (p : Party) → Formed p → Formed (run_up_to f p).party
formed_runs f p w = runs_keep Formed (λ q i. λ h. formed_step q h i) f p w

pub formed_run : (p : Party) → Formed p → Formed (run p).party
formed_run p w = run_keeps Formed (λ q i. λ h. formed_step q h i) p w

pub formed_starting : (p : Party) → Formed p → (x : ℕ) → (T (started p) → ⊥) → x < p.plan.count → Formed (starting p x).party
formed_starting p w x new h = starting_keeps Formed (λ q i. λ h. formed_step q h i) p x (formed_entered p w x new h)

pub formed_taking : (p : Party) → Formed p → (s : ℕ) (m : Message) → s < p.n → T (in_table m) → Formed (taking p s m).party
formed_taking p w s m h k = taking_keeps Formed (λ q i. λ h. formed_step q h i) p s m w (formed_hearing p w s m h k)

-- ---- what stays as it is

-- what is there at a level, its output too, stays as it is in a grown party
pub output_stays : (p q : Party) → Grown p q → (i : ℕ) → ((level_at p i).output ≡ no_output → ⊥) → (level_at q i).output ≡ (level_at p i).output
output_stays p q g i h = (g i).output h

-- an entered level stays over its component, sends if it did, and its rules see the same, but for the next level
module _ (p q : Party) (w : Formed p) (k : Keeps p q) (i : ℕ) (h : T (level_at p i).entered) where
  pub kept_component : component_of q i ≡ component_of p i
  kept_component = kept.kept_component p q (valid→ p w.valid) w.full k i h

  pub kept_sending : sending q i ≡ sending p i
  kept_sending = kept.kept_sending p q (valid→ p w.valid) w.full k i h

  pub kept_context : Same (context_of p i) (context_of q i)
  kept_context = kept.kept_context p q (valid→ p w.valid) w.full k i h
