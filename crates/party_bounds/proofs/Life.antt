-- Starts, messages taken, and whole lives: within the bounds, and in the end no rule applies.
use mathlib.Core.Path.{◌≡◌, ◌∙◌, subst}
use mathlib.Core.Logic.{◌⊎◌, inl, inr}
use mathlib.Core.Bool.{Bool, true, false}
use mathlib.Core.List.Memᴰ
use mathlib.Core.List.{List, [], ◌∷◌, Memᴰ}
use Prim.Native.Nat.{ℕ, ◌+◌, ◌*◌, ◌≤◌, ◌<◌}
use native.Mathlib.Omega.{arith}
use lib.Dec.{T}
use lib.ListN.{length, length-append}
use Rattle.base.specs.Pick.{pick}
use Rattle.base.specs.Limits.{last_level, max_rules, outgoing_size, message_size}
use Rattle.plan.specs.Plan.{Plan}
use Rattle.plan.specs.Valid.{plan_valid}
use Rattle.message.specs.declared.Message.{Message}
use Rattle.message.specs.Message.{in_table, message_bytes}
use Rattle.journal.specs.declared.Record.{Record}
use Rattle.journal.specs.declared.Record.TheVariants.{Start, Taken}
use Rattle.level.specs.Level.{Level}
use Rattle.party.specs.Party.{Party, new_party, started, entered, held_by, hearing}
use Rattle.party.specs.Valid.{settings_pass}
use Rattle.party.specs.Run.{Ran, resting, run, starting, taking, bytes_of}
use Rattle.party_life.specs.Life.{replayed, following, lived, Fits, Life}
use Rattle.party_life.proofs.Fits.{fits_start, fits_taken}
use Rattle.party_laws.proofs.Laws.{sending_entered, open_sending, run_keeps, starting_keeps, taking_keeps, entered_level, keeps_hearing, keeps_entered}
use Rattle.party_laws.proofs.Calls.{new_level}
use Rattle.party_bounds.proofs.Measures.{Aged}
use Rattle.party_bounds.proofs.Sized.{Sized, aged_hearing, aged_entered, sized_new, sized_hearing, sized_entered, sized_step}
use Rattle.party_bounds.proofs.Steps.{messages_left, rules_most, messages_most, aged_rules, aged_messages}
use Rattle.party_bounds.proofs.Runs.{Quiescent, levels_quiescent, Within, within_resting, runs_within, runs_quiescent, within_bytes}

-- ---- what the bounds ask is kept

pub sized_run : (p : Party) → Sized p → Sized (run p).party
sized_run p z = run_keeps Sized (λ q i s. sized_step q s i) p z

pub sized_starting : (p : Party) → Sized p → (x : ℕ) → (T (started p) → ⊥) → x < p.plan.count → Sized (starting p x).party
sized_starting p z x new h = starting_keeps Sized (λ q i s. sized_step q s i) p x (sized_entered p z x new h)

pub sized_taking : (p : Party) → Sized p → (s : ℕ) (m : Message) → s < p.n → T (in_table m) → Sized (taking p s m).party
sized_taking p z s m h k = taking_keeps Sized (λ q i w. sized_step q w i) p s m z (sized_hearing p z s m h k)

pub sized_replayed : (p : Party) → Sized p → (r : Record) → Fits p r → Sized (replayed p r).party
unfolding replayed
sized_replayed p z (Start a x) f = let g = fits_start p a x f in sized_starting p z x g.1 g.2
sized_replayed p z (Taken s m) f = let g = fits_taken p s m f in sized_taking p z s m g.1 g.2

pub sized_lived : (p : Party) → Sized p → (rs : List Record) → Life p rs → Sized (lived p rs).party
unfolding lived
sized_lived p z [] l = z
sized_lived p z (r ∷ rs) l = sized_replayed (lived p rs).party (sized_lived p z rs l.1) r l.0

-- ---- the bounds, for the levels that send and as many more as one likes

within_aged : (L : ℕ) (p q : Party) → Aged p q → q.agreement ≡ p.agreement → (r : Ran) → Within L q r → Within L p r
within_aged L p q a e r w = record {
  rules = omega (arith, w.rules, aged_rules L p q a);
  messages = omega (arith, w.messages, aged_messages L p q a);
  proper = λ m h. let x = w.proper m h in (x.0, x.1 ∙ e);
  agreement = w.agreement ∙ e;
}

-- one call after another
within_following : (L : ℕ) (p : Party) (r s : Ran) → Within L p r → Within L r.party s → Within L p (following r s)
within_following L p r s a b = record {
  rules = omega (arith, a.rules, b.rules);
  messages = omega (arith, a.messages, b.messages, length-append r.made s.made);
  proper = λ m h. of m (Memᴰ.append_cases r.made h);
  agreement = b.agreement ∙ a.agreement;
}
  where
    of : (m : Message) → Memᴰ m r.made ⊎ Memᴰ m s.made → T (in_table m) × (m.number ≡ p.agreement)
    of m (inl h) = a.proper m h
    of m (inr h) = let x = b.proper m h in (x.0, x.1 ∙ a.agreement)

module _ (L : ℕ) (all : last_level < L) where
  pub run_within : (p : Party) → Sized p → Within L p (run p)
  unfolding run
  run_within p z = runs_within L all max_rules p z

  pub starting_within : (p : Party) → Sized p → (x : ℕ) → (T (started p) → ⊥) → x < p.plan.count → Within L p (starting p x)
  unfolding starting
  starting_within p z x new h =
      let q = sized_entered p z x new h in
      within_aged L p (entered p x) (aged_entered p z.formed x q.formed) (keeps_entered p x new).board.agreement (run (entered p x)) (run_within (entered p x) q)

  pub taking_within : (p : Party) → Sized p → (s : ℕ) (m : Message) → s < p.n → T (in_table m) → Within L p (taking p s m)
  unfolding taking
  taking_within p z s m h k = go (held_by p s m)
    where
      go : (b : Bool) → Within L p (pick b (resting p) (run (hearing p s m)))
      go true = within_resting L p
      go false =
          within_aged L p (hearing p s m) (aged_hearing p s m) (keeps_hearing p s m).board.agreement (run (hearing p s m))
          (run_within (hearing p s m) (sized_hearing p z s m h k))

  pub replayed_within : (p : Party) → Sized p → (r : Record) → Fits p r → Within L p (replayed p r)
  unfolding replayed
  replayed_within p z (Start a x) f = let g = fits_start p a x f in starting_within p z x g.1 g.2
  replayed_within p z (Taken s m) f = let g = fits_taken p s m f in taking_within p z s m g.1 g.2

  -- a whole life
  pub lived_within : (p : Party) → Sized p → (rs : List Record) → Life p rs → Within L p (lived p rs)
  unfolding lived
  lived_within p z [] l = within_resting L p
  lived_within p z (r ∷ rs) l =
      within_following L p (lived p rs) (replayed (lived p rs).party r) (lived_within p z rs l.1)
      (replayed_within (lived p rs).party (sized_lived p z rs l.1) r l.0)

-- ---- document 01's numbers

-- "that is at most 390"
pub within_rules : (p : Party) (r : Ran) → Within (last_level + 1) p r → r.rules ≤ max_rules
within_rules p r w = omega (arith, w.rules, rules_most (last_level + 1) p)

-- "2,640 bytes (15 × 22 × 8)"
pub outgoing_enough : (p : Party) → message_size * messages_left (last_level + 1) p ≤ outgoing_size
outgoing_enough p = omega (arith, messages_most (last_level + 1) p)

pub within_outgoing : ((m : Message) → T (in_table m) → length (message_bytes m) ≤ message_size) → (p : Party) (r : Ran) → Within (last_level + 1) p r
    → length (bytes_of r.made) ≤ outgoing_size
within_outgoing short p r w = omega (arith, within_bytes message_size short (last_level + 1) p r w, outgoing_enough p)

-- over all starts and takes from set-up
pub set_up_rules : (n t own a : ℕ) (plan : Plan) → T (settings_pass (new_party n t own a plan)) → T (plan_valid plan) → (rs : List Record)
    → Life (new_party n t own a plan) rs → (lived (new_party n t own a plan) rs).rules ≤ max_rules
set_up_rules n t own a plan s h rs l =
    let p : Party = new_party n t own a plan in
    within_rules p (lived p rs) (lived_within (last_level + 1) (omega arith) p (sized_new n t own a plan s h) rs l)

-- ---- no rule applies in the end

pub run_quiescent : (p : Party) → Sized p → Quiescent (run p).party
unfolding run
run_quiescent p z = runs_quiescent (last_level + 1) (omega arith) max_rules p z (omega (arith, rules_most (last_level + 1) p))

pub starting_quiescent : (p : Party) → Sized p → (x : ℕ) → (T (started p) → ⊥) → x < p.plan.count → Quiescent (starting p x).party
unfolding starting
starting_quiescent p z x new h = run_quiescent (entered p x) (sized_entered p z x new h)

pub taking_quiescent : (p : Party) → Sized p → Quiescent p → (s : ℕ) (m : Message) → s < p.n → T (in_table m) → Quiescent (taking p s m).party
unfolding taking
taking_quiescent p z q s m h k = go (held_by p s m)
  where
    go : (b : Bool) → Quiescent (pick b (resting p) (run (hearing p s m))).party
    go true = q
    go false = run_quiescent (hearing p s m) (sized_hearing p z s m h k)

pub replayed_quiescent : (p : Party) → Sized p → Quiescent p → (r : Record) → Fits p r → Quiescent (replayed p r).party
unfolding replayed
replayed_quiescent p z q (Start a x) f = let g = fits_start p a x f in starting_quiescent p z x g.1 g.2
replayed_quiescent p z q (Taken s m) f = let g = fits_taken p s m f in taking_quiescent p z q s m g.1 g.2

pub lived_quiescent : (p : Party) → Sized p → Quiescent p → (rs : List Record) → Life p rs → Quiescent (lived p rs).party
unfolding lived
lived_quiescent p z q [] l = q
lived_quiescent p z q (r ∷ rs) l = replayed_quiescent (lived p rs).party (sized_lived p z rs l.1) (lived_quiescent p z q rs l.1) r l.0

-- before the start no rule applies
pub new_quiescent : (n t own a : ℕ) (plan : Plan) → T (settings_pass (new_party n t own a plan)) → T (plan_valid plan) → Quiescent (new_party n t own a plan)
new_quiescent n t own a plan s h =
    let p : Party = new_party n t own a plan in
    levels_quiescent p (λ i o.
    let e = sending_entered p i (open_sending p i o) in
    let l = (entered_level p (sized_new n t own a plan s h).formed i e).exists in
    subst (λ (m : Level). T m.entered) (new_level n t own a plan i l) e)

-- nor after any life from set-up
pub set_up_quiescent : (n t own a : ℕ) (plan : Plan) → T (settings_pass (new_party n t own a plan)) → T (plan_valid plan) → (rs : List Record)
    → Life (new_party n t own a plan) rs → Quiescent (lived (new_party n t own a plan) rs).party
set_up_quiescent n t own a plan s h rs l =
    lived_quiescent (new_party n t own a plan) (sized_new n t own a plan s h) (new_quiescent n t own a plan s h) rs l
