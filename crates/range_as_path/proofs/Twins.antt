-- Twin parties: whatever they do, they stay twins, apply as many rules and make the same messages.
use mathlib.Core.Path.{◌≡◌, refl, sym, ap, ap₂, ◌∙◌, subst}
use mathlib.Core.Logic.{◌↔◌}
use mathlib.Core.Bool.{◌&&◌}
use mathlib.Core.List.{List, [], ◌∷◌, ◌++◌}
use Prim.Native.Nat.{ℕ, ◌+◌}
use lib.Dec.{T, ltb, eqb}
use Rattle.base.specs.Pick.{pick}
use Rattle.base.specs.Limits.{max_rules}
use Rattle.base.proofs.Bools.{T→true}
use Rattle.plan.specs.Plan.{Plan}
use Rattle.plan.specs.Valid.{plan_valid}
use Rattle.message.specs.declared.Message.{Message}
use Rattle.journal.specs.declared.Record.{Record}
use Rattle.journal.specs.declared.Record.TheVariants.{Start, Taken}
use Rattle.level.specs.Level.{Level}
use Rattle.party.specs.Party.{Party, level_at, component_of, sending, context_of, started, entered, held_by, hearing, output_of, new_party}
use Rattle.party.specs.Run.{Ran, rule_at, open_at, open_level, step_at, resting, run_up_to, run, starting, taking}
use Rattle.party.specs.Valid.{party_valid}
use Rattle.party_life.specs.Life.{replayed, following, lived, fault, tabled, passes, Fits, Life}
use Rattle.range_as_path.specs.Twin.{TwinPlans, TwinParties, TwinRan}
use Rattle.range_as_path.proofs.Geometry.{Alike, twin_alike}
use Rattle.range_as_path.proofs.Parties.{retold, retold_ran, retold_component, retold_sending, retold_context, retold_rule, retold_open, retold_lowest, retold_entered, retold_hearing, retold_step, retold_runs, retold_starting, retold_taking, step_plan, entered_plan, hearing_plan, runs_plan, starting_plan, taking_plan}
use Rattle.range_as_path.proofs.Valid.{retold_valid}

-- ---- twins are the same party on twin plans

-- the second is the first on the second's plan
twin_retold : (p p' : Party) → TwinParties p p' → retold p'.plan p ≡ p'
twin_retold p p' w z = record { n = w.n z; t = w.t z; own = w.own z; agreement = w.agreement z; plan = p'.plan; levels = w.levels z }

-- a party whose plan is r, and the same on a twin of r
retold_twin : (r q : Plan) → TwinPlans r q → (p : Party) → p.plan ≡ r → TwinParties p (retold q p)
retold_twin r q w p e = record { n = refl; t = refl; own = refl; agreement = refl; levels = refl; plans = subst (λ (s : Plan). TwinPlans s q) (sym e) w }

retold_ran_lem : (r q : Plan) → TwinPlans r q → (a : Ran) → a.party.plan ≡ r → TwinRan a (retold_ran q a)
retold_ran_lem r q w a e = record { party = retold_twin r q w a.party e; rules = refl; made = refl }

module _ (p p' : Party) (w : TwinParties p p') where
  -- the same but for their plans
  twin : Alike p.plan p'.plan
  twin = twin_alike p.plan p'.plan w.plans

  -- what is the same of a party and the party retold is the same of twins
  told : {A : Type 0} (f : Party → A) → f (retold p'.plan p) ≡ f p → f p ≡ f p'
  told f e = sym e ∙ ap f (twin_retold p p' w)

  -- a party that a party makes
  told_party : (f : Party → Party) → f (retold p'.plan p) ≡ retold p'.plan (f p) → (f p).plan ≡ p.plan → TwinParties (f p) (f p')
  told_party f e k = subst (TwinParties (f p)) (sym e ∙ ap f (twin_retold p p' w)) (retold_twin p.plan p'.plan w.plans (f p) k)

  -- a run that a party makes
  told_ran : (f : Party → Ran) → f (retold p'.plan p) ≡ retold_ran p'.plan (f p) → (f p).party.plan ≡ p.plan → TwinRan (f p) (f p')
  told_ran f e k = subst (TwinRan (f p)) (sym e ∙ ap f (twin_retold p p' w)) (retold_ran_lem p.plan p'.plan w.plans (f p) k)

  -- ---- what the rules see

  pub twin_level : (i : ℕ) → level_at p i ≡ level_at p' i
  unfolding level_at
  twin_level i = told (λ p. level_at p i) refl

  pub twin_component : (i : ℕ) → component_of p i ≡ component_of p' i
  twin_component i = told (λ p. component_of p i) (retold_component p'.plan p twin i)

  pub twin_sending : (i : ℕ) → sending p i ≡ sending p' i
  twin_sending i = told (λ p. sending p i) (retold_sending p'.plan p twin i)

  pub twin_context : (i : ℕ) → context_of p i ≡ context_of p' i
  twin_context i = told (λ p. context_of p i) (retold_context p'.plan p twin i)

  pub twin_rule : (i : ℕ) → rule_at p i ≡ rule_at p' i
  twin_rule i = told (λ p. rule_at p i) (retold_rule p'.plan p twin i)

  pub twin_open : (i : ℕ) → open_at p i ≡ open_at p' i
  twin_open i = told (λ p. open_at p i) (retold_open p'.plan p twin i)

  pub twin_lowest : open_level p ≡ open_level p'
  twin_lowest = told open_level (retold_lowest p'.plan p twin)

  pub twin_started : started p ≡ started p'
  twin_started = ap (λ (l : Level). l.entered) (twin_level 0)

  pub twin_held : (s : ℕ) (m : Message) → held_by p s m ≡ held_by p' s m
  unfolding held_by level_at
  twin_held s m = told (λ p. held_by p s m) refl

  -- "Level 0's output is the answer"
  pub twin_output : output_of p ≡ output_of p'
  twin_output = ap (λ (l : Level). l.output) (twin_level 0)

  -- question 19
  pub twin_valid : party_valid p ≡ party_valid p'
  twin_valid = told party_valid (retold_valid p'.plan p twin (T→true (plan_valid p'.plan) w.plans.valid' ∙ sym (T→true (plan_valid p.plan) w.plans.valid)))

  -- ---- what they do

  pub twin_step : (i : ℕ) → TwinParties (step_at p i) (step_at p' i)
  twin_step i = told_party (λ p. step_at p i) (retold_step p'.plan p twin i) (step_plan p i)

  pub twin_entered : (x : ℕ) → TwinParties (entered p x) (entered p' x)
  twin_entered x = told_party (λ p. entered p x) (retold_entered p'.plan p twin x) (entered_plan p x)

  pub twin_hearing : (s : ℕ) (m : Message) → TwinParties (hearing p s m) (hearing p' s m)
  twin_hearing s m = told_party (λ p. hearing p s m) (retold_hearing p'.plan p twin s m) (hearing_plan p s m)

  pub twin_runs : (f : ℕ) → TwinRan (run_up_to f p) (run_up_to f p')
  twin_runs f = told_ran (run_up_to f) (retold_runs p'.plan f p twin) (runs_plan f p)

  pub twin_run : TwinRan (run p) (run p')
  unfolding run
  twin_run = twin_runs max_rules

  pub twin_starting : (x : ℕ) → TwinRan (starting p x) (starting p' x)
  twin_starting x = told_ran (λ p. starting p x) (retold_starting p'.plan p twin x) (starting_plan p x)

  pub twin_taking : (s : ℕ) (m : Message) → TwinRan (taking p s m) (taking p' s m)
  twin_taking s m = told_ran (λ p. taking p s m) (retold_taking p'.plan p twin s m) (taking_plan p s m)

  pub twin_resting : TwinRan (resting p) (resting p')
  twin_resting = record { party = w; rules = refl; made = refl }

  -- what a record's call did
  pub twin_replayed : (r : Record) → TwinRan (replayed p r) (replayed p' r)
  unfolding replayed
  twin_replayed (Start a x) = twin_starting x
  twin_replayed (Taken s m) = twin_taking s m

-- ---- lives

pub twin_following : (a b a' b' : Ran) → TwinRan a b → TwinRan a' b' → TwinRan (following a a') (following b b')
twin_following a b a' b' w w' = record { party = w'.party; rules = ap₂ ◌+◌ w.rules w'.rules; made = ap₂ ◌++◌ w.made w'.made }

-- after the same records
pub twin_lived : (p p' : Party) → TwinParties p p' → (rs : List Record) → TwinRan (lived p rs) (lived p' rs)
unfolding lived
twin_lived p p' w [] = twin_resting p p' w
twin_lived p p' w (r ∷ rs) =
    let h = twin_lived p p' w rs in
    twin_following (lived p rs) (lived p' rs) (replayed (lived p rs).party r) (replayed (lived p' rs).party r) h
    (twin_replayed (lived p rs).party (lived p' rs).party h.party r)

-- the same question of a record fails
pub twin_fault : (p p' : Party) → TwinParties p p' → (r : Record) → fault p r ≡ fault p' r
twin_fault p p' w (Start a x) = λ z. pick (eqb a (w.agreement z)) (pick (twin_started p p' w z) 13 (pick (ltb x (w.plans.count z)) 0 12)) 16
twin_fault p p' w (Taken s m) = λ z. pick (eqb m.number (w.agreement z)) (pick (ltb s (w.n z)) 0 14) 16

-- the same records fit
pub twin_fits : (p p' : Party) → TwinParties p p' → (r : Record) → Fits p r ↔ Fits p' r
twin_fits p p' w r =
    let e : passes p r ≡ passes p' r = ap (λ (k : ℕ). eqb k 0 && tabled r) (twin_fault p p' w r) in
    (λ f. subst T e f, λ f. subst T (sym e) f)

-- and make the same lives
pub twin_life : (p p' : Party) → TwinParties p p' → (rs : List Record) → Life p rs ↔ Life p' rs
twin_life p p' w [] = (λ h. h, λ h. h)
twin_life p p' w (r ∷ rs) =
    let f = twin_fits (lived p rs).party (lived p' rs).party (twin_lived p p' w rs).party r in
    let h = twin_life p p' w rs in
    (λ l. (f.0 l.0, h.0 l.1), λ l. (f.1 l.0, h.1 l.1))

-- parties that have not started
pub twin_new : (n t own agreement : ℕ) (r q : Plan) → TwinPlans r q → TwinParties (new_party n t own agreement r) (new_party n t own agreement q)
twin_new n t own agreement r q w = record { n = refl; t = refl; own = refl; agreement = refl; levels = refl; plans = w }
