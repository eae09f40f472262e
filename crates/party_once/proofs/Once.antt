-- No message twice: along a run of rules, in a call, and in a life.
use mathlib.Core.Bool.{Bool, true, false}
use mathlib.Core.List.{List, [], ◌∷◌}
use Prim.Native.Nat.{ℕ, ◌<◌}
use lib.Dec.{T}
use Rattle.base.specs.Pick.{pick}
use Rattle.base.specs.Limits.{max_rules}
use Rattle.message.specs.declared.Message.{Message}
use Rattle.message.specs.Message.{in_table}
use Rattle.journal.specs.declared.Record.{Record}
use Rattle.journal.specs.declared.Record.TheVariants.{Start, Taken}
use Rattle.party.specs.Party.{Party, started, entered, held_by, hearing}
use Rattle.party.specs.Run.{rule_at, made_by, step_at, resting, run, starting, taking}
use Rattle.party_life.specs.Life.{replayed, lived, Fits, Life, made_along}
use Rattle.party_life.proofs.Fits.{fits_start, fits_taken}
use Rattle.party_bounds.proofs.Runs.{runs_all}
use Rattle.party_bounds.proofs.Laws.{Sized, typed_sized, sized_hearing, sized_entered, sized_step, sized_lived, aged_hearing, aged_entered}
use Rattle.party_once.specs.Statement.{Once}
use Rattle.party_once.proofs.Made.{Made, made_refl, made_aged, made_trans, step_made}

-- ---- runs and calls

pub run_made : (p : Party) → Sized p → Made p (run p).made (run p).party
unfolding run
run_made p z =
    runs_all Sized (λ q i s. sized_step q s i) (λ q r. Made q r.made r.party) (λ q _. made_refl q)
    (λ q i s o r m. made_trans q (step_at q i) r.party (made_by q.agreement i (rule_at q i).effect) r.made (step_made q s i o) m) max_rules p z

-- a run after a change without a rule
changed_made : (p q : Party) → Made p [] q → Sized q → Made p (run q).made (run q).party
changed_made p q a z = made_trans p q (run q).party [] (run q).made a (run_made q z)

starting_made : (p : Party) → Sized p → (x : ℕ) → (T (started p) → ⊥) → x < p.plan.count → Made p (starting p x).made (starting p x).party
unfolding starting
starting_made p z x new h =
    let q = sized_entered p z x new h in
    changed_made p (entered p x) (made_aged p (entered p x) (aged_entered p z.formed x q.formed)) q

taking_made : (p : Party) → Sized p → (s : ℕ) (m : Message) → s < p.n → T (in_table m) → Made p (taking p s m).made (taking p s m).party
unfolding taking
taking_made p z s m h k = go (held_by p s m)
  where
    go : (b : Bool) → Made p (pick b (resting p) (run (hearing p s m))).made (pick b (resting p) (run (hearing p s m))).party
    go true = made_refl p
    go false = changed_made p (hearing p s m) (made_aged p (hearing p s m) (aged_hearing p s m)) (sized_hearing p z s m h k)

-- the call of a record that a restore accepts
pub replayed_made : (p : Party) → Sized p → (r : Record) → Fits p r → Made p (replayed p r).made (replayed p r).party
unfolding replayed
replayed_made p z (Start a x) f = let g = fits_start p a x f in starting_made p z x g.1 g.2
replayed_made p z (Taken s m) f = let g = fits_taken p s m f in taking_made p z s m g.1 g.2

-- ---- lives

pub lived_made : (p : Party) → Sized p → (rs : List Record) → Life p rs → Made p (made_along p rs) (lived p rs).party
unfolding lived
lived_made p z [] l = made_refl p
lived_made p z (r ∷ rs) l =
    let q : Party = (lived p rs).party in
    made_trans p q (replayed q r).party (made_along p rs) (replayed q r).made (lived_made p z rs l.1)
    (replayed_made q (sized_lived p z rs l.1) r l.0)

pub once : Once
once p t v rs l = (lived_made p (typed_sized p t v) rs l).distinct
