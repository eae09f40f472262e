-- After a call no rule applies: the invariant is kept.
use mathlib.Core.Bool.{Bool, true, false}
use Prim.Native.Nat.{ℕ, ◌<◌}
use lib.Dec.{T}
use Rattle.base.specs.Pick.{pick}
use Rattle.base.proofs.Bools.{not-T→false, false→not-T}
use Rattle.plan.specs.Plan.{Plan}
use Rattle.plan.specs.Valid.{plan_valid}
use Rattle.message.specs.declared.Message.{Message}
use Rattle.message.specs.Message.{in_table}
use Rattle.level_laws.proofs.Moves.{AtRest}
use Rattle.party.specs.Party.{Party, new_party, level_at, sending, context_of, started, held_by, hearing, entered}
use Rattle.party.specs.Run.{open_at, resting, run, starting, taking}
use Rattle.party.specs.Valid.{settings_pass}
use Rattle.party_laws.proofs.Laws.{open_sending}
use Rattle.party_bounds.proofs.Laws.{quiescent_levels, levels_quiescent, quiescent_rest, run_quiescent}
use Rattle.execution.specs.Machine.{Event, start, take}
use Rattle.vote_machine.specs.Machine.{accepts, accepted, called}
use Rattle.vote_machine.specs.Inner.{Regular, Inv}
use Rattle.vote_machine.proofs.Kept.{new_sending, regular_new, regular_hearing, regular_entered, regular_run, called_cases, start_fits, take_fits}

-- a level that sends is at rest
pub at_rest : (p : Party) → Inv p → (i : ℕ) → T (sending p i) → AtRest (context_of p i) (level_at p i)
at_rest p v i on = quiescent_rest p v.regular.formed (levels_quiescent p (λ j. false→not-T (v.quiet j))) i on

pub inv_new : (n t own a : ℕ) (plan : Plan) → T (settings_pass (new_party n t own a plan)) → T (plan_valid plan) → Inv (new_party n t own a plan)
inv_new n t own a plan s h = record {
  regular = regular_new n t own a plan s h;
  quiet = λ i. not-T→false (open_at (new_party n t own a plan) i) (λ k. new_sending n t own a plan s h i (open_sending (new_party n t own a plan) i k));
}

-- a run of rules ends where none applies
pub inv_run : (p : Party) → Regular p → Inv (run p).party
inv_run p r =
    let q = regular_run p r in
    let end = run_quiescent p (record { formed = r.formed; echoes = λ i k. (r.heard i k).values }) in
    record { regular = q; quiet = λ i. not-T→false (open_at (run p).party i) (quiescent_levels (run p).party q.formed end i) }

pub inv_starting : (p : Party) → Regular p → (x : ℕ) → (T (started p) → ⊥) → x < p.plan.count → Inv (starting p x).party
unfolding starting
inv_starting p r x new k = inv_run (entered p x) (regular_entered p r x new k)

pub inv_taking : (p : Party) → Inv p → (s : ℕ) (m : Message) → s < p.n → T (in_table m) → Inv (taking p s m).party
unfolding taking
inv_taking p v s m k t = go (held_by p s m)
  where
    go : (b : Bool) → Inv (pick b (resting p) (run (hearing p s m))).party
    go true = v
    go false = inv_run (hearing p s m) (regular_hearing p v.regular s m k t)

inv_accepted : (p : Party) → Inv p → (e : Event Message ℕ) → T (accepts p e) → Inv (accepted p e).party
inv_accepted p v (start x) h = let f = start_fits p x h in inv_starting p v.regular x f.0 f.1
inv_accepted p v (take s m) h = let f = take_fits p s m h in inv_taking p v s m f.0 f.1

pub inv_called : (p : Party) → Inv p → (e : Event Message ℕ) → Inv (called p e).party
inv_called p v e = called_cases (λ a. Inv a.party) p e (inv_accepted p v e) v
