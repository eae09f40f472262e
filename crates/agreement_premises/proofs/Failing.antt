-- Examples that fail, by tests: an answer is not between inputs, or all is delivered and there is none.
use mathlib.Core.Path.{◌≡◌, refl, sym, ◌∙◌, subst}
use mathlib.Core.Logic.{inl, inr}
use mathlib.Core.Bool.{Bool, true, false, ◌&&◌}
use mathlib.Core.List.{List, []}
use Prim.Native.Nat.{ℕ}
use native.Mathlib.Omega.{arith}
use lib.Dec.{T}
use lib.IntN.{ℤ}
use Rattle.std.specs.Prelude.{Some, None}
use Rattle.base.specs.Sets.{Set}
use Rattle.base.specs.Found.{found}
use Rattle.base.proofs.Bools.{T-left, T-right, true→T}
use Rattle.plan.specs.Plan.{Plan}
use Rattle.plan.specs.Reading.{plan_of}
use Rattle.board_calls.specs.Answers.{Answer}
use Rattle.board_calls.specs.Calls.{answered_of}
use Rattle.agreement.specs.History.{Instance, set_up, calls, History, Stage, waiting, running, Board, board_after}
use Rattle.agreement.specs.Allowed.{Sound, May}
use Rattle.agreement.specs.Demand.{party_by, answer_now, Answers, Holds}
use Rattle.agreement_histories.specs.Scripts.{Action, history_of}
use Rattle.agreement_histories.proofs.Worlds.{World, sound, is_running}
use Rattle.agreement_histories.proofs.Tests.{sound→}
use Rattle.agreement_histories.proofs.Shows.{Shows}
use Rattle.agreement_histories.proofs.Passing.{answer_in, settled, passes, ending, shown, ours, sharing}
use Rattle.agreement_histories.proofs.Delivery.{full}
use Rattle.agreement_histories.proofs.Delivered.{completed}
use Rattle.agreement_premises.specs.Edits.{Edit}
use Rattle.agreement_premises.specs.Examples.{alone, four, nobody, last, Example, history_with, Fails}
use Rattle.agreement_premises.proofs.Running.{Runs, world_at_end, lawful, board, Strays, runs}
use Rattle.agreement_premises.proofs.Starts.{misplaced, not_between}

-- ---- settings and steps

pub sound_alone : (plan : List ℕ) → Sound (alone plan) nobody 0
sound_alone plan = (omega arith, tt)

pub sound_four : (plan : List ℕ) → Sound (four plan) last 0
sound_four plan = (omega arith, tt)

-- a running board has been set up
pub not_waiting : running ≡ waiting → ⊥
not_waiting e = subst (λ (s : Stage). T (is_running s)) e tt

-- a first set-up of a vote
pub may_set_up : (v : Instance) (bad : Set) (i : ℕ) → Sound v bad i → May v bad (calls i (set_up v.n v.t i v.agreement v.plan)) []
unfolding board_after
may_set_up v bad i o = (o, inr (refl, ours v i))

-- ---- answers

-- what a board has at the end
pub now : (v : Instance) (w : World) (h : History) → Shows v w h → (i : ℕ) (a : Answer) → answer_in v w i ≡ a → answer_now v h i ≡ a
now v w h s i a e = subst (λ (b : Board). (answered_of (party_by v i b b.stage)).answer ≡ a) (s.board i) e

abbrev is_none : Answer → Bool
is_none None = true
is_none (Some z) = false

-- no answer is none
pub unanswered : {a : Answer} → a ≡ None → (z : ℤ) × (a ≡ Some z) → ⊥
unanswered e r = subst (λ (a : Answer). T (is_none a)) (sym e ∙ r.1) tt

-- after a script that passes, where board 0 has an answer
module _ (v : Instance) (bad : Set) (script : List Action) (f : passes v bad script ≡ true) (z : ℤ) (a : answer_in v (ending v script) 0 ≡ Some z) where
  pub script_answers : Answers v (history_of v script) 0 z
  script_answers = inl (now v (ending v script) (history_of v script) (shown v bad script f) 0 (Some z) a)

  -- that is not between inputs
  pub script_fails : (plan : Plan) (y : ℕ) → misplaced v plan (ending v script) y z ≡ true → Sound v bad 0 → Holds v plan bad (history_of v script) → ⊥
  script_fails plan y k o = not_between v plan bad (ending v script) (history_of v script) (shown v bad script f) y z (true→T k) 0 o script_answers

-- ---- examples

-- the settings pass, the board is sound, and the other actions pass
abbrev pub passing : Example → Bool
passing x = (settled x.vote x.bad && sound x.vote x.bad (board x)) && lawful x

module _ (e : Edit) (x : Example) (f : passing x ≡ true) (g : plan_of x.vote.plan ≡ found x.plan) (s : Strays e x) where
  abbrev v : Instance
  v = x.vote

  abbrev i : ℕ
  i = board x

  abbrev h : History
  h = history_with x

  abbrev one : Bool
  one = settled v x.bad

  abbrev two : Bool
  two = sound v x.bad i

  both : T (one && two)
  both = T-left (one && two) (lawful x) (true→T f)

  o : Sound v x.bad i
  o = sound→ v x.bad i (T-right one two both)

  run : Runs e v x.bad (world_at_end x) h
  run = runs e x (T-right (one && two) (lawful x) (true→T f)) o s

  failing : (Holds v x.plan x.bad h → ⊥) → Fails e x
  failing k = let c = sharing v x.plan x.bad (T-left one two both) g in record { shared = c.0; few = c.1; steps = run.steps; fails = k }

  -- an answer of the board is not between inputs
  pub invalid : (y : ℕ) (z : ℤ) → misplaced v x.plan (world_at_end x) y z ≡ true → Answers v h i z → Fails e x
  invalid y z k a = failing (not_between v x.plan x.bad (world_at_end x) h run.shows y z (true→T k) i o a)

  -- the one that it has at the end is not
  pub invalid_now : (y : ℕ) (z : ℤ) → misplaced v x.plan (world_at_end x) y z ≡ true → answer_in v (world_at_end x) i ≡ Some z → Fails e x
  invalid_now y z k a = invalid y z k (inl (now v (world_at_end x) h run.shows i (Some z) a))

  -- all is delivered, and it has none
  pub unended : full v x.bad (world_at_end x) ≡ true → answer_in v (world_at_end x) i ≡ None → Fails e x
  unended k a = failing (λ q.
      unanswered (now v (world_at_end x) h run.shows i None a)
      (q.ending (completed v x.bad (world_at_end x) h run.shows (true→T k)) i o))
