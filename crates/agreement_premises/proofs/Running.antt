-- A script with one stray step, by tests: a world shows its history, and every step is allowed or let in.
use mathlib.Core.Logic.{inl, inr}
use mathlib.Core.Bool.{Bool, ◌&&◌}
use mathlib.Core.List.{List, [], ◌∷◌}
use Prim.Native.Nat.{ℕ}
use lib.Dec.{T}
use Rattle.base.specs.Sets.{Set}
use Rattle.base.proofs.Bools.{T-left, T-right}
use Rattle.agreement.specs.History.{Instance, History, board_after}
use Rattle.agreement.specs.Allowed.{Sound}
use Rattle.agreement_histories.specs.Scripts.{Action, actor, step_of, followed}
use Rattle.agreement_histories.proofs.Worlds.{World, board_of, beginning, acted, world_after, sound, fits, fits_board, all_fit}
use Rattle.agreement_histories.proofs.Tests.{sound→}
use Rattle.agreement_histories.proofs.Shows.{Shows, shows_beginning, shows_action}
use Rattle.agreement_histories.proofs.Passing.{may}
use Rattle.agreement_premises.specs.Edits.{Edit, Lets, AllowedWith}
use Rattle.agreement_premises.specs.Examples.{Example, history_with}

-- ---- a world shows the history so far, and its steps are allowed or let in

pub record Runs (e : Edit) (v : Instance) (bad : Set) (w : World) (h : History) : Type 0 where
  pub shows : Shows v w h
  pub steps : AllowedWith e v bad h

module _ (e : Edit) (v : Instance) (bad : Set) where
  -- through actions that pass
  onward : (w : World) (h : History) (script : List Action) → Runs e v bad w h → T (all_fit v bad w script)
      → Runs e v bad (world_after v w script) (followed v h script)
  unfolding all_fit world_after followed
  onward w h [] r f = r
  onward w h (a ∷ rest) r f = onward (acted v w a) (step_of v (board_after h (actor a)) a ∷ h) rest
      (record {
        shows = shows_action v w h a r.shows (sound→ v bad (actor a) (T-left (sound v bad (actor a)) (fits_board v bad w.sent (board_of w (actor a)) a) first)).0;
        steps = (inl (may v bad w h r.shows a first), r.steps);
      }) (T-right (fits v bad w a) (all_fit v bad (acted v w a) rest) f)
    where
      first : T (fits v bad w a)
      first = T-left (fits v bad w a) (all_fit v bad (acted v w a) rest) f

-- the worlds before the stray step, after it, and at the end
abbrev pub world_before : Example → World
world_before x = world_after x.vote (beginning x.vote) x.before

abbrev pub world_astray : Example → World
world_astray x = acted x.vote (world_before x) x.stray

abbrev pub world_at_end : Example → World
world_at_end x = world_after x.vote (world_astray x) x.after

abbrev pub history_before : Example → History
history_before x = followed x.vote [] x.before

-- the other actions pass
abbrev pub lawful : Example → Bool
lawful x = all_fit x.vote x.bad (beginning x.vote) x.before && all_fit x.vote x.bad (world_astray x) x.after

-- the board that goes astray
abbrev pub board : Example → ℕ
board x = actor x.stray

-- its step is let in
abbrev pub Strays : Edit → Example → Type 0
Strays e x = Lets x.vote x.bad (history_before x) e (step_of x.vote (board_after (history_before x) (board x)) x.stray)

module _ (e : Edit) (x : Example) (f : T (lawful x)) (o : Sound x.vote x.bad (board x)) (s : Strays e x) where
  abbrev v : Instance
  v = x.vote

  abbrev one : Bool
  one = all_fit v x.bad (beginning v) x.before

  abbrev two : Bool
  two = all_fit v x.bad (world_astray x) x.after

  pub runs : Runs e v x.bad (world_at_end x) (history_with x)
  unfolding followed
  runs =
      let r = onward e v x.bad (beginning v) [] x.before (record { shows = shows_beginning v; steps = tt }) (T-left one two f) in
      onward e v x.bad (world_astray x) (step_of v (board_after (history_before x) (board x)) x.stray ∷ history_before x) x.after
      (record { shows = shows_action v (world_before x) (history_before x) x.stray r.shows o.0; steps = (inr s, r.steps) }) (T-right one two f)
