-- A party on another plan that is alike: everything it does is the same, but for the plan.
use mathlib.Core.Path.{◌≡◌, refl, sym, ap, ap₂, ◌∙◌, subst, fun_ext}
use mathlib.Core.Bool.{Bool, true, false, ◌&&◌}
use Prim.Native.Nat.{ℕ, zero, suc, ◌+◌}
use lib.Dec.{leb, ltb}
use Rattle.base.specs.Pick.{pick, smallest}
use Rattle.base.specs.Sets.{Set}
use Rattle.base.specs.Limits.{level_count, max_rules}
use Rattle.tree.specs.Component.{upto}
use Rattle.plan.specs.Plan.{Plan}
use Rattle.component.specs.Component.{size_of, centre_of, degree_of, port_of, neighbour_of, side_of}
use Rattle.message.specs.declared.Message.{Message}
use Rattle.level.specs.declared.Context.{Context}
use Rattle.level.specs.Rules.{Effect}
use Rattle.level.specs.Rules.{Nothing, Quiet, Send, Enter, SendEnter}
use Rattle.level.specs.Level.{Level, with_entry}
use Rattle.level.specs.Rules.{Applied, lowest_rule, applies}
use Rattle.party.specs.Party.{Party, level_at, with_level, component_of, sending, context_of, entering, entered, held_by, hearing}
use Rattle.party.specs.Run.{Ran, rule_at, open_at, open_level, descend, gate, after_rule, made_by, resting, one_more, step_at, run_up_to, run, starting, taking}
use Rattle.range_as_path.proofs.Geometry.{Alike, alike_size, alike_centre, alike_degree, alike_port, alike_neighbour, alike_side}

-- the party on plan q
abbrev pub retold : Plan → Party → Party
retold q p = record { n = p.n; t = p.t; own = p.own; agreement = p.agreement; plan = q; levels = p.levels }

-- and so in what a run gives
abbrev pub retold_ran : Plan → Ran → Ran
retold_ran q r = record { party = retold q r.party; rules = r.rules; made = r.made }

-- ---- what the rules see

module _ (q : Plan) (p : Party) (a : Alike p.plan q) where
  pub retold_level : (i : ℕ) → level_at (retold q p) i ≡ level_at p i
  unfolding level_at
  retold_level i = refl

  pub retold_component : (i : ℕ) → component_of (retold q p) i ≡ component_of p i
  unfolding component_of level_at
  retold_component zero = ap upto (sym a.count)
  retold_component (suc i) =
      ap (λ (S : Set). side_of q S (level_at p (suc i)).side) (retold_component i)
      ∙ sym (alike_side p.plan q a (component_of p i) (level_at p (suc i)).side)

  -- what is asked of level i's component
  at_component : {A : Type 0} (f : Plan → Set → A) → ((S : Set) → f p.plan S ≡ f q S) → (i : ℕ) → f q (component_of (retold q p) i) ≡ f p.plan (component_of p i)
  at_component f h i = ap (f q) (retold_component i) ∙ sym (h (component_of p i))

  pub retold_size : (i : ℕ) → size_of q (component_of (retold q p) i) ≡ size_of p.plan (component_of p i)
  retold_size = at_component size_of (alike_size p.plan q a)

  pub retold_centre : (i : ℕ) → centre_of q (component_of (retold q p) i) ≡ centre_of p.plan (component_of p i)
  retold_centre = at_component centre_of (alike_centre p.plan q a)

  pub retold_degree : (i : ℕ) → degree_of q (component_of (retold q p) i) ≡ degree_of p.plan (component_of p i)
  retold_degree = at_component degree_of (alike_degree p.plan q a)

  pub retold_port : (i x : ℕ) → port_of q (component_of (retold q p) i) x ≡ port_of p.plan (component_of p i) x
  retold_port i x = at_component (λ r S. port_of r S x) (λ S. alike_port p.plan q a S x) i

  pub retold_gate : (i k : ℕ) → gate (retold q p) i k ≡ gate p i k
  retold_gate i k = at_component (λ r S. neighbour_of r S k) (λ S. alike_neighbour p.plan q a S k) i

  pub retold_side : (i k : ℕ) → side_of q (component_of (retold q p) i) k ≡ side_of p.plan (component_of p i) k
  retold_side i k = at_component (λ r S. side_of r S k) (λ S. alike_side p.plan q a S k) i

  pub retold_sending : (i : ℕ) → sending (retold q p) i ≡ sending p i
  unfolding sending level_at
  retold_sending i = ap (λ (s : ℕ). (level_at p i).entered && leb 3 s) (retold_size i)

  pub retold_context : (i : ℕ) → context_of (retold q p) i ≡ context_of p i
  unfolding context_of level_at
  retold_context i z = record {
    n = p.n;
    t = p.t;
    degree = retold_degree i z;
    port = retold_port i (level_at p i).position z;
    centre = retold_centre i z;
    next_entered = (level_at p (i + 1)).entered;
    next_output = (level_at p (i + 1)).output;
  }

  pub retold_rule : (i : ℕ) → rule_at (retold q p) i ≡ rule_at p i
  unfolding rule_at level_at
  retold_rule i = ap (λ (c : Context). lowest_rule c (level_at p i)) (retold_context i)

  pub retold_open : (i : ℕ) → open_at (retold q p) i ≡ open_at p i
  unfolding open_at
  retold_open i = ap₂ (λ (s : Bool) (r : Applied). s && applies r.effect) (retold_sending i) (retold_rule i)

  pub retold_lowest : open_level (retold q p) ≡ open_level p
  unfolding open_level
  retold_lowest = ap (smallest level_count) (fun_ext retold_open)

  -- ---- what they do

  pub retold_entering : (i : ℕ) (S : Set) (k x : ℕ) → entering (retold q p) i S k x ≡ retold q (entering p i S k x)
  unfolding entering with_level level_at
  retold_entering i S k x =
      ap (λ (s : ℕ). retold q (with_level p i (with_entry (level_at p i) k x (pick (leb 3 s) (level_at p i).output x)))) (sym (alike_size p.plan q a S))

  pub retold_entered : (x : ℕ) → entered (retold q p) x ≡ retold q (entered p x)
  unfolding entered
  retold_entered x =
      ap (λ (n : ℕ). entering (retold q p) 0 (upto n) 0 x) (sym a.count) ∙ retold_entering 0 (upto p.plan.count) 0 x

  pub retold_held : (s : ℕ) (m : Message) → held_by (retold q p) s m ≡ held_by p s m
  unfolding held_by level_at
  retold_held s m = refl

  pub retold_hearing : (s : ℕ) (m : Message) → hearing (retold q p) s m ≡ retold q (hearing p s m)
  unfolding hearing with_level level_at
  retold_hearing s m = refl

  pub retold_made : (i : ℕ) (e : Effect) → made_by (retold q p).agreement i e ≡ made_by p.agreement i e
  retold_made i Nothing = refl
  retold_made i Quiet = refl
  retold_made i (Send b) = refl
  retold_made i (Enter k keep) = refl
  retold_made i (SendEnter k) = refl

  pub retold_descend : (i k x : ℕ) → descend (retold q p) i k x ≡ retold q (descend p i k x)
  retold_descend i k x =
      ap (λ (S : Set). entering (retold q p) (i + 1) S k x) (retold_side i k) ∙ retold_entering (i + 1) (side_of p.plan (component_of p i) k) k x

-- ---- one rule

module _ (q : Plan) (p : Party) (a : Alike p.plan q) where
  pub retold_after : (i : ℕ) (l : Level) (e : Effect) → after_rule (retold q p) i l e ≡ retold q (after_rule p i l e)
  unfolding after_rule with_level level_at
  retold_after i l Nothing = refl
  retold_after i l Quiet = refl
  retold_after i l (Send b) = refl
  retold_after i l (Enter k keep) =
      ap (λ (g : ℕ). descend (retold q (with_level p i l)) i k (pick keep (level_at p i).position g)) (retold_gate q p a i k)
      ∙ retold_descend q (with_level p i l) a i k (pick keep (level_at p i).position (gate p i k))
  retold_after i l (SendEnter k) =
      ap (λ (g : ℕ). descend (retold q (with_level p i l)) i k g) (retold_gate q p a i k) ∙ retold_descend q (with_level p i l) a i k (gate p i k)

  pub retold_step : (i : ℕ) → step_at (retold q p) i ≡ retold q (step_at p i)
  retold_step i = ap (λ (r : Applied). after_rule (retold q p) i r.level r.effect) (retold_rule q p a i) ∙ retold_after i (rule_at p i).level (rule_at p i).effect

-- ---- the plan stays

pub after_plan : (p : Party) (i : ℕ) (l : Level) (e : Effect) → (after_rule p i l e).plan ≡ p.plan
unfolding after_rule entering with_level
after_plan p i l Nothing = refl
after_plan p i l Quiet = refl
after_plan p i l (Send b) = refl
after_plan p i l (Enter k keep) = refl
after_plan p i l (SendEnter k) = refl

pub step_plan : (p : Party) (i : ℕ) → (step_at p i).plan ≡ p.plan
step_plan p i = after_plan p i (rule_at p i).level (rule_at p i).effect

pub entered_plan : (p : Party) (x : ℕ) → (entered p x).plan ≡ p.plan
unfolding entered entering with_level
entered_plan p x = refl

pub hearing_plan : (p : Party) (s : ℕ) (m : Message) → (hearing p s m).plan ≡ p.plan
unfolding hearing with_level
hearing_plan p s m = refl

pub runs_plan : (f : ℕ) (p : Party) → (run_up_to f p).party.plan ≡ p.plan
unfolding run_up_to
runs_plan zero p = refl
runs_plan (suc f) p = go (ltb (open_level p) level_count) (runs_plan f (step_at p (open_level p)))
  where
    next : Ran
    next = one_more (made_by p.agreement (open_level p) (rule_at p (open_level p)).effect) (run_up_to f (step_at p (open_level p)))

    go : (b : Bool) → (run_up_to f (step_at p (open_level p))).party.plan ≡ (step_at p (open_level p)).plan → (pick b next (resting p)).party.plan ≡ p.plan
    go true ih = ih ∙ step_plan p (open_level p)
    go false ih = refl

pub starting_plan : (p : Party) (x : ℕ) → (starting p x).party.plan ≡ p.plan
unfolding starting run
starting_plan p x = runs_plan max_rules (entered p x) ∙ entered_plan p x

pub taking_plan : (p : Party) (s : ℕ) (m : Message) → (taking p s m).party.plan ≡ p.plan
unfolding taking run
taking_plan p s m = go (held_by p s m)
  where
    go : (b : Bool) → (pick b (resting p) (run_up_to max_rules (hearing p s m))).party.plan ≡ p.plan
    go true = refl
    go false = runs_plan max_rules (hearing p s m) ∙ hearing_plan p s m

-- ---- a run of rules

pub retold_runs : (q : Plan) (f : ℕ) (p : Party) → Alike p.plan q → run_up_to f (retold q p) ≡ retold_ran q (run_up_to f p)
unfolding run_up_to
retold_runs q zero p a = refl
retold_runs q (suc f) p a = go (retold_lowest q p a) (retold_runs q f (step_at p i) (subst (λ (r : Plan). Alike r q) (sym (step_plan p i)) a))
  where
    i : ℕ
    i = open_level p

    same : run_up_to f (step_at (retold q p) i) ≡ run_up_to f (retold q (step_at p i))
    same = ap (run_up_to f) (retold_step q p a i)

    made : made_by (retold q p).agreement i (rule_at (retold q p) i).effect ≡ made_by p.agreement i (rule_at p i).effect
    made = ap (λ (r : Applied). made_by (retold q p).agreement i r.effect) (retold_rule q p a i) ∙ retold_made q p a i (rule_at p i).effect

    next : run_up_to f (retold q (step_at p i)) ≡ retold_ran q (run_up_to f (step_at p i))
        → one_more (made_by (retold q p).agreement i (rule_at (retold q p) i).effect) (run_up_to f (step_at (retold q p) i))
        ≡ retold_ran q (one_more (made_by p.agreement i (rule_at p i).effect) (run_up_to f (step_at p i)))
    next ih = ap₂ one_more made (same ∙ ih)

    pushed : (b : Bool) (x : Ran) → pick b (retold_ran q x) (resting (retold q p)) ≡ retold_ran q (pick b x (resting p))
    pushed true x = refl
    pushed false x = refl

    go : open_level (retold q p) ≡ i → run_up_to f (retold q (step_at p i)) ≡ retold_ran q (run_up_to f (step_at p i)) → run_up_to (suc f) (retold q p) ≡ retold_ran q (run_up_to (suc f) p)
    go e ih =
        ap (λ (j : ℕ). pick (ltb j level_count) (one_more (made_by (retold q p).agreement j (rule_at (retold q p) j).effect) (run_up_to f (step_at (retold q p) j))) (resting (retold q p))) e
        ∙ ap (λ (x : Ran). pick (ltb i level_count) x (resting (retold q p))) (next ih)
        ∙ pushed (ltb i level_count) (one_more (made_by p.agreement i (rule_at p i).effect) (run_up_to f (step_at p i)))

pub retold_run : (q : Plan) (p : Party) → Alike p.plan q → run (retold q p) ≡ retold_ran q (run p)
unfolding run
retold_run q p a = retold_runs q max_rules p a

pub retold_starting : (q : Plan) (p : Party) → Alike p.plan q → (x : ℕ) → starting (retold q p) x ≡ retold_ran q (starting p x)
unfolding starting
retold_starting q p a x = ap run (retold_entered q p a x) ∙ retold_run q (entered p x) (subst (λ (r : Plan). Alike r q) (sym (entered_plan p x)) a)

pub retold_taking : (q : Plan) (p : Party) → Alike p.plan q → (s : ℕ) (m : Message) → taking (retold q p) s m ≡ retold_ran q (taking p s m)
unfolding taking
retold_taking q p a s m = ap (λ (b : Bool). pick b (resting (retold q p)) (run (hearing (retold q p) s m))) (retold_held q p a s m) ∙ go (held_by p s m)
  where
    go : (b : Bool) → pick b (resting (retold q p)) (run (hearing (retold q p) s m)) ≡ retold_ran q (pick b (resting p) (run (hearing p s m)))
    go true = refl
    go false = ap run (retold_hearing q p a s m) ∙ retold_run q (hearing p s m) (subst (λ (r : Plan). Alike r q) (sym (hearing_plan p s m)) a)
