-- What every rule keeps, a run of rules keeps.
use mathlib.Core.Path.{◌≡◌, refl, sym, subst}
use mathlib.Core.Bool.{Bool, true, false}
use Prim.Native.Nat.{ℕ, zero, suc, ◌<◌}
use lib.Dec.{T, ltb, ltb→lt}
use Rattle.base.specs.Pick.{pick}
use Rattle.base.specs.Limits.{level_count, max_rules}
use Rattle.base.proofs.Smallest.{sought}
use Rattle.message.specs.declared.Message.{Message}
use Rattle.party.specs.Party.{Party, hearing, held_by, entered}
use Rattle.party.specs.Run.{Ran, open_at, open_level, rule_at, made_by, step_at, one_more, resting, run_up_to, run, starting, taking}

-- the level that is chosen has a rule that applies
pub open_level_lem : (p : Party) → open_level p < level_count → T (open_at p (open_level p))
unfolding open_level
open_level_lem p h = (sought level_count (open_at p)).hit h

-- where the party after each rule keeps a property, so does the run
pub runs_keep : (P : Party → Type 0) → ((p : Party) (i : ℕ) → P p → T (open_at p i) → P (step_at p i)) → (f : ℕ) (p : Party) → P p → P (run_up_to f p).party
unfolding run_up_to
runs_keep P step zero p h = h
runs_keep P step (suc f) p h = go (ltb (open_level p) level_count) refl (runs_keep P step f (step_at p (open_level p)))
  where
    next : Ran
    next = one_more (made_by p.agreement (open_level p) (rule_at p (open_level p)).effect) (run_up_to f (step_at p (open_level p)))

    go : (b : Bool) → ltb (open_level p) level_count ≡ b → (P (step_at p (open_level p)) → P (run_up_to f (step_at p (open_level p))).party) → P (pick b next (resting p)).party
    go true e ih = ih (step p (open_level p) h (open_level_lem p (ltb→lt (open_level p) level_count (subst T (sym e) tt))))
    go false e ih = h

pub run_keeps : (P : Party → Type 0) → ((p : Party) (i : ℕ) → P p → T (open_at p i) → P (step_at p i)) → (p : Party) → P p → P (run p).party
unfolding run
run_keeps P step p h = runs_keep P step max_rules p h

-- a start, and a message taken
pub starting_keeps : (P : Party → Type 0) → ((p : Party) (i : ℕ) → P p → T (open_at p i) → P (step_at p i)) → (p : Party) (x : ℕ) → P (entered p x)
    → P (starting p x).party
unfolding starting
starting_keeps P step p x h = run_keeps P step (entered p x) h

pub taking_keeps : (P : Party → Type 0) → ((p : Party) (i : ℕ) → P p → T (open_at p i) → P (step_at p i)) → (p : Party) (s : ℕ) (m : Message) → P p
    → P (hearing p s m) → P (taking p s m).party
unfolding taking
taking_keeps P step p s m h k = go (held_by p s m)
  where
    go : (b : Bool) → P (pick b (resting p) (run (hearing p s m))).party
    go true = h
    go false = run_keeps P step (hearing p s m) k
