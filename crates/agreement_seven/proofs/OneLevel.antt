-- A board of the vote on the star that has entered level 0 only, at the centre: its runs by the level's record alone, what the rules see there being fixed.
use mathlib.Core.Path.{◌≡◌, refl, sym, ap, ap₂, ◌∙◌, subst}
use mathlib.Core.Bool.{Bool, true, false, ◌&&◌}
use mathlib.Core.List.{List, [], ◌∷◌}
use Prim.Native.Nat.{ℕ, zero, suc}
use native.Mathlib.Omega.{arith}
use lib.Dec.{T, eqb, leb, ltb, eqb→eq}
use lib.ListN.{get_or, replicate}
use Rattle.base.specs.Pick.{pick}
use Rattle.base.specs.Limits.{level_count, max_rules}
use Rattle.base.proofs.Bools.{T-left, T-right, T→true, true→T}
use Rattle.base.proofs.Smallest.{smallest_is}
use Rattle.message.specs.declared.Body.{Body}
use Rattle.message.specs.declared.Message.{Message}
use Rattle.level.specs.declared.Context.{Context}
use Rattle.level.specs.Rules.{Effect}
use Rattle.level.specs.Rules.{Nothing, Quiet, Send, Enter, SendEnter}
use Rattle.level.specs.Level.{Level, no_level, blank_level, no_output, held, with_heard, with_entry}
use Rattle.level.specs.Rules.{Applied, lowest_rule, applies}
use Rattle.component.specs.Component.{whole_of, size_of, centre_of, degree_of, port_of}
use Rattle.party.specs.Party.{Party, new_party, level_at, with_level, component_of, sending, context_of, entering, entered, held_by, hearing}
use Rattle.party.specs.Run.{Ran, rule_at, open_at, open_level, after_rule, step_at, made_by, resting, one_more, run_up_to, run, starting, taking}
use Rattle.party_bounds.proofs.Runs.{levels_quiescent}
use Rattle.agreement_histories.specs.Scripts.{says}
use Rattle.agreement_histories.proofs.Computing.{computing}
use Rattle.agreement_seven.specs.Unbounded.{star, plan}

-- ---- what the rules see

abbrev pub at : Level → Party
at l = record { n = 2; t = 0; own = 0; agreement = 1; plan = plan; levels = l ∷ replicate 15 blank_level }

abbrev pub seeing : ℕ → ℕ → ℕ → Context
seeing d k c = record { n = 2; t = 0; degree = d; port = k; centre = c; next_entered = false; next_output = no_output }

abbrev pub seen : Context
seen = seeing 15 0 0

-- entered, at the centre
abbrev pub okay : Level → Bool
okay l = l.entered && eqb l.position 0

degree_is : degree_of plan (whole_of plan) ≡ 15
unfolding computing star
degree_is = refl

port_is : port_of plan (whole_of plan) 0 ≡ 0
unfolding computing star
port_is = refl

centre_is : centre_of plan (whole_of plan) ≡ 0
unfolding computing star
centre_is = refl

size_is : size_of plan (whole_of plan) ≡ 16
unfolding computing star
size_is = refl

module _ (l : Level) (h : T (okay l)) where
  context_is : context_of (at l) 0 ≡ seen
  unfolding context_of component_of level_at
  context_is =
      ap (λ (d : ℕ). seeing d (port_of plan (whole_of plan) l.position) (centre_of plan (whole_of plan))) degree_is
      ∙ ap (λ (x : ℕ). seeing 15 (port_of plan (whole_of plan) x) (centre_of plan (whole_of plan))) (eqb→eq l.position 0 (T-right l.entered (eqb l.position 0) h))
      ∙ ap₂ (seeing 15) port_is centre_is

  rule_is : rule_at (at l) 0 ≡ lowest_rule seen l
  unfolding rule_at level_at
  rule_is = ap (λ (c : Context). lowest_rule c l) context_is

  open_first : open_at (at l) 0 ≡ applies (lowest_rule seen l).effect
  unfolding open_at sending component_of level_at
  open_first =
      ap (λ (b : Bool). (b && leb 3 (size_of plan (whole_of plan))) && applies (rule_at (at l) 0).effect) (T→true l.entered (T-left l.entered (eqb l.position 0) h))
      ∙ ap (λ (k : ℕ). leb 3 k && applies (rule_at (at l) 0).effect) size_is
      ∙ ap (λ (a : Applied). applies a.effect) rule_is

blank_later : (n i : ℕ) → (get_or (replicate n blank_level) i no_level).entered ≡ false
blank_later zero i = refl
blank_later (suc n) zero = refl
blank_later (suc n) (suc i) = blank_later n i

open_later : (l : Level) (i : ℕ) → open_at (at l) (suc i) ≡ false
unfolding open_at sending level_at
open_later l i = ap (λ (b : Bool). (b && leb 3 (size_of plan (component_of (at l) (suc i)))) && applies (rule_at (at l) (suc i)).effect) (blank_later 15 i)

-- ---- one rule

module _ (f : ℕ) (l : Level) (h : T (okay l)) where
  step_rest : (lowest_rule seen l).effect ≡ Nothing → run_up_to (suc f) (at l) ≡ resting (at l)
  unfolding run_up_to
  step_rest e =
      ap (λ (k : ℕ). pick (ltb k level_count) (one_more (made_by 1 (open_level (at l)) (rule_at (at l) (open_level (at l))).effect) (run_up_to f (step_at (at l) (open_level (at l))))) (resting (at l)))
      (levels_quiescent (at l) closed)
    where
      closed : (i : ℕ) → T (open_at (at l) i) → ⊥
      closed zero o = subst T (open_first l h ∙ ap applies e) o
      closed (suc i) o = subst T (open_later l i) o

  opened : applies (lowest_rule seen l).effect ≡ true → open_level (at l) ≡ 0
  unfolding open_level
  opened e = smallest_is level_count (open_at (at l)) 0 (omega arith) (true→T (open_first l h ∙ e)) (λ i k. absurd (omega arith))

  -- the rule's level and effect
  on_by : Applied → Ran
  on_by a = one_more (made_by 1 0 a.effect) (run_up_to f (after_rule (at l) 0 a.level a.effect))

  step_on : applies (lowest_rule seen l).effect ≡ true → run_up_to (suc f) (at l) ≡ one_more (made_by 1 0 (lowest_rule seen l).effect) (run_up_to f (after_rule (at l) 0 (lowest_rule seen l).level (lowest_rule seen l).effect))
  unfolding run_up_to on_by
  step_on e =
      ap (λ (k : ℕ). pick (ltb k level_count) (one_more (made_by 1 k (rule_at (at l) k).effect) (run_up_to f (step_at (at l) k))) (resting (at l))) (opened e)
      ∙ ap on_by (rule_is l h)

  step_quiet : (lowest_rule seen l).effect ≡ Quiet → run_up_to (suc f) (at l) ≡ one_more [] (run_up_to f (at (lowest_rule seen l).level))
  unfolding after_rule with_level
  step_quiet e =
      step_on (ap applies e) ∙ ap (λ (x : Effect). one_more (made_by 1 0 x) (run_up_to f (after_rule (at l) 0 (lowest_rule seen l).level x))) e

  step_send : (b : Body) → (lowest_rule seen l).effect ≡ Send b → run_up_to (suc f) (at l) ≡ one_more (says b ∷ []) (run_up_to f (at (lowest_rule seen l).level))
  unfolding after_rule with_level
  step_send b e =
      step_on (ap applies e) ∙ ap (λ (x : Effect). one_more (made_by 1 0 x) (run_up_to f (after_rule (at l) 0 (lowest_rule seen l).level x))) e

-- ---- a run: the level after it, what it made, and that no other level was entered

pub record Rest : Type 0 where
  pub level : Level
  pub made : List Message
  pub fine : Bool

abbrev onward : Effect → Level → Rest → Rest
onward Nothing l next = record { level = l; made = []; fine = true }
onward Quiet l next = next
onward (Send b) l next = record { level = next.level; made = says b ∷ next.made; fine = next.fine }
onward (Enter k keep) l next = record { level = l; made = []; fine = false }
onward (SendEnter k) l next = record { level = l; made = []; fine = false }

abbrev guarded : Bool → Rest → Rest
guarded b r = record { level = r.level; made = r.made; fine = b && r.fine }

unfoldable pub level_run : ℕ → Level → Rest
level_run zero l = record { level = l; made = []; fine = true }
level_run (suc f) l = guarded (okay l) (onward (lowest_rule seen l).effect l (level_run f (lowest_rule seen l).level))

-- the party's run is the level's
pub record Follows (r : Ran) (next : Rest) : Type 0 where
  pub party : r.party ≡ at next.level
  pub made : r.made ≡ next.made

follows_by : (f : ℕ) (l : Level) → T (okay l) → (e : Effect) → (lowest_rule seen l).effect ≡ e → (next : Rest)
    → (T next.fine → Follows (run_up_to f (at (lowest_rule seen l).level)) next) → T (onward e l next).fine → Follows (run_up_to (suc f) (at l)) (onward e l next)
follows_by f l o Nothing e next below h = let s = step_rest f l o e in record { party = ap (λ (r : Ran). r.party) s; made = ap (λ (r : Ran). r.made) s }
follows_by f l o Quiet e next below h =
    let s = step_quiet f l o e in
    record { party = ap (λ (r : Ran). r.party) s ∙ (below h).party; made = ap (λ (r : Ran). r.made) s ∙ (below h).made }
follows_by f l o (Send b) e next below h =
    let s = step_send f l o b e in
    record { party = ap (λ (r : Ran). r.party) s ∙ (below h).party; made = ap (λ (r : Ran). r.made) s ∙ ap (λ (ms : List Message). says b ∷ ms) (below h).made }
follows_by f l o (Enter k keep) e next below h = absurd h
follows_by f l o (SendEnter k) e next below h = absurd h

run_follows : (f : ℕ) (l : Level) → T (level_run f l).fine → Follows (run_up_to f (at l)) (level_run f l)
unfolding run_up_to level_run
run_follows zero l h = record { party = refl; made = refl }
run_follows (suc f) l h =
    let next : Rest = level_run f (lowest_rule seen l).level in
    let g : Bool = (onward (lowest_rule seen l).effect l next).fine in
    let k = follows_by f l (T-left (okay l) g h) (lowest_rule seen l).effect refl next (run_follows f (lowest_rule seen l).level) (T-right (okay l) g h) in
    record { party = k.party; made = k.made }

-- ---- a start at the centre, a message taken

abbrev pub begun : Level
begun = with_entry blank_level 0 0 no_output

pub start_follows : T (level_run max_rules begun).fine → Follows (starting (new_party 2 0 0 1 plan) 0) (level_run max_rules begun)
unfolding starting run entered entering with_level level_at
start_follows h =
    subst (λ (p : Party). Follows (run_up_to max_rules p) (level_run max_rules begun))
    (sym (ap (λ (k : ℕ). at (with_entry blank_level 0 0 (pick (leb 3 k) no_output 0))) size_is)) (run_follows max_rules begun h)

pub take_follows : (l : Level) (s : ℕ) (b : Body) → held l b s ≡ false → T (level_run max_rules (with_heard l b s)).fine
    → Follows (taking (at l) s (says b)) (level_run max_rules (with_heard l b s))
unfolding taking run held_by hearing with_level level_at
take_follows l s b e h =
    subst (λ (q : Bool). Follows (pick q (resting (at l)) (run_up_to max_rules (at (with_heard l b s)))) (level_run max_rules (with_heard l b s))) (sym e)
    (run_follows max_rules (with_heard l b s) h)
