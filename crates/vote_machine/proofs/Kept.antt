-- What holds of every party: of a new one, and kept by messages, starts, rules and calls; and each of these only rises.
use mathlib.Core.Path.{◌≡◌, refl, sym, subst}
use mathlib.Core.Bool.{Bool, true, false}
use Prim.Native.Nat.{ℕ, suc, ◌<◌}
use lib.Dec.{T}
use Rattle.base.specs.Pick.{pick}
use Rattle.plan.specs.Plan.{Plan}
use Rattle.plan.specs.Valid.{plan_valid}
use Rattle.message.specs.declared.Message.{Message}
use Rattle.message.specs.Message.{in_table}
use Rattle.level.specs.Level.{Level}
use Rattle.level_laws.specs.Inner.{Heard, Untouched}
use Rattle.level_laws.proofs.Law.{blank_heard, blank_untouched}
use Rattle.party.specs.Party.{Party, new_party, level_at, sending, entered, started, hearing}
use Rattle.party.specs.Run.{Ran, open_at, step_at, resting, run, starting, taking}
use Rattle.party.specs.Valid.{settings_pass}
use Rattle.party_laws.proofs.Laws.{sending_entered, entered_level, formed_new, fresh_new, run_keeps, starting_keeps, taking_keeps}
use Rattle.party_laws.proofs.Laws.{starting_kept, taking_kept, starting_grown, taking_grown}
use Rattle.party_laws.proofs.Calls.{new_level}
use Rattle.party_life.proofs.Fits.{fits_start, fitting_start, fits_taken, fitting_taken}
use Rattle.execution.specs.Machine.{Event, start, take}
use Rattle.vote_machine.specs.Machine.{accepts, accepted, called}
use Rattle.vote_machine.specs.Inner.{Regular, Le}
use Rattle.vote_machine.proofs.Order.{kept_le, le_refl}
use Rattle.vote_machine.proofs.Changes.{regular_changed}
use Rattle.vote_machine.proofs.Calls.{hearing_changed, entered_changed}
use Rattle.vote_machine.proofs.Steps.{step_changed}

-- ---- a new party

module _ (n t own a : ℕ) (plan : Plan) (s : T (settings_pass (new_party n t own a plan))) (h : T (plan_valid plan)) where
  abbrev p : Party
  p = new_party n t own a plan

  -- it has entered no level
  pub new_entered : (i : ℕ) → T (level_at (new_party n t own a plan) i).entered → ⊥
  new_entered i e =
      subst (λ (l : Level). T l.entered) (new_level n t own a plan i (entered_level p (formed_new n t own a plan s h) i e).exists) e

  pub new_sending : (i : ℕ) → T (sending (new_party n t own a plan) i) → ⊥
  new_sending i on = new_entered i (sending_entered p i on)

  pub regular_new : Regular (new_party n t own a plan)
  regular_new = record {
    formed = formed_new n t own a plan s h;
    fresh = fresh_new n t own a plan;
    heard = λ i k. subst (Heard n) (sym (new_level n t own a plan i k)) (blank_heard n);
    law = λ i on. absurd (new_sending i on);
    descends = λ i on. absurd (new_sending i on);
    output = λ i on. absurd (new_sending i on);
    untouched = λ i k _. subst Untouched (sym (new_level n t own a plan i k)) blank_untouched;
    small = λ i e _. absurd (new_entered i e);
    entry = λ i e. absurd (new_entered (suc i) e);
  }

-- ---- messages, starts and rules

pub regular_hearing : (p : Party) → Regular p → (s : ℕ) (m : Message) → s < p.n → T (in_table m) → Regular (hearing p s m)
regular_hearing p r s m k t = regular_changed p (hearing p s m) (λ _. ⊥) r (hearing_changed p r s m k t)

pub regular_entered : (p : Party) → Regular p → (x : ℕ) → (T (started p) → ⊥) → x < p.plan.count → Regular (entered p x)
regular_entered p r x new k = regular_changed p (entered p x) (λ _. ⊥) r (entered_changed p r x new k)

pub regular_step : (p : Party) → Regular p → (i : ℕ) → T (open_at p i) → Regular (step_at p i)
regular_step p r i h = regular_changed p (step_at p i) (λ j. j ≡ i) r (step_changed p r i h)

pub regular_run : (p : Party) → Regular p → Regular (run p).party
regular_run p r = run_keeps Regular (λ q i r. regular_step q r i) p r

pub regular_starting : (p : Party) → Regular p → (x : ℕ) → (T (started p) → ⊥) → x < p.plan.count → Regular (starting p x).party
regular_starting p r x new k = starting_keeps Regular (λ q i r. regular_step q r i) p x (regular_entered p r x new k)

pub regular_taking : (p : Party) → Regular p → (s : ℕ) (m : Message) → s < p.n → T (in_table m) → Regular (taking p s m).party
regular_taking p r s m k t = taking_keeps Regular (λ q i r. regular_step q r i) p s m r (regular_hearing p r s m k t)

-- ---- each only rises

pub le_starting : (p : Party) → Regular p → (x : ℕ) → (T (started p) → ⊥) → Le p (starting p x).party
le_starting p r x new =
    kept_le p (starting p x).party r.formed (starting_kept p x new).0 (starting_grown p r.formed.full r.fresh x new).0

pub le_taking : (p : Party) → Regular p → (s : ℕ) (m : Message) → Le p (taking p s m).party
le_taking p r s m = kept_le p (taking p s m).party r.formed (taking_kept p s m) (taking_grown p r.formed.full r.fresh s m).0

-- ---- calls

-- a call is accepted, or does nothing
pub called_cases : (P : Ran → Type 0) (p : Party) (e : Event Message ℕ) → (T (accepts p e) → P (accepted p e)) → P (resting p) → P (called p e)
unfolding called
called_cases P p e f g = go (accepts p e) refl
  where
    go : (b : Bool) → accepts p e ≡ b → P (pick b (accepted p e) (resting p))
    go true i = f (subst T (sym i) tt)
    go false i = g

-- which of the two
pub called_accepted : (p : Party) (e : Event Message ℕ) → T (accepts p e) → called p e ≡ accepted p e
unfolding called
called_accepted p e h = go (accepts p e) h
  where
    go : (b : Bool) → T b → pick b (accepted p e) (resting p) ≡ accepted p e
    go true h = refl
    go false h = absurd h

pub called_refused : (p : Party) (e : Event Message ℕ) → (T (accepts p e) → ⊥) → called p e ≡ resting p
called_refused p e d = called_cases (λ a. a ≡ resting p) p e (λ f. absurd (d f)) refl

-- what an accepted start, and an accepted message, is
pub start_fits : (p : Party) (x : ℕ) → T (accepts p (start x)) → (T (started p) → ⊥) × (x < p.plan.count)
start_fits p x h = let f = fits_start p p.agreement x h in (f.1, f.2)

pub take_fits : (p : Party) (s : ℕ) (m : Message) → T (accepts p (take s m)) → (s < p.n) × T (in_table m) × (m.number ≡ p.agreement)
take_fits p s m h = let f = fits_taken p s m h in (f.1, f.2, f.0)

-- and what is enough for it
pub start_accepted : (p : Party) (x : ℕ) → (T (started p) → ⊥) → x < p.plan.count → T (accepts p (start x))
start_accepted p x new k = fitting_start p p.agreement x (refl, new, k)

pub take_accepted : (p : Party) (s : ℕ) (m : Message) → s < p.n → T (in_table m) → m.number ≡ p.agreement → T (accepts p (take s m))
take_accepted p s m k t e = fitting_taken p s m (e, k, t)

regular_accepted : (p : Party) → Regular p → (e : Event Message ℕ) → T (accepts p e) → Regular (accepted p e).party
regular_accepted p r (start x) h = let f = start_fits p x h in regular_starting p r x f.0 f.1
regular_accepted p r (take s m) h = let f = take_fits p s m h in regular_taking p r s m f.0 f.1

le_accepted : (p : Party) → Regular p → (e : Event Message ℕ) → T (accepts p e) → Le p (accepted p e).party
le_accepted p r (start x) h = le_starting p r x (start_fits p x h).0
le_accepted p r (take s m) h = le_taking p r s m

pub regular_called : (p : Party) → Regular p → (e : Event Message ℕ) → Regular (called p e).party
regular_called p r e = called_cases (λ a. Regular a.party) p e (regular_accepted p r e) r

pub le_called : (p : Party) → Regular p → (e : Event Message ℕ) → Le p (called p e).party
le_called p r e = called_cases (λ a. Le p a.party) p e (le_accepted p r e) (le_refl p)
