-- What a start, take or restore sends and applies is within the bounds: a start's or take's is what a record that fits the party makes, a restore's what the
-- records of a life make.
use mathlib.Core.Path.{◌≡◌, refl, sym, ap, ◌∙◌, subst}
use mathlib.Core.Bool.{Bool, true, false}
use mathlib.Core.List.{List}
use Prim.Native.Nat.{ℕ, ◌+◌, ◌≤◌, ◌<◌}
use native.Mathlib.Omega.{arith}
use lib.Dec.{T, leb, leb→le}
use lib.ListN.{length}
use Rattle.base.specs.Pick.{pick}
use Rattle.base.specs.Limits.{last_level, max_rules, outgoing_size}
use Rattle.base.specs.Found.{Found, found, refused}
use Rattle.varint.specs.Varint.{AllBytes}
use Rattle.plan.proofs.Listed.{asked}
use Rattle.message.specs.declared.Message.{Message}
use Rattle.message.specs.Message.{in_table}
use Rattle.journal.specs.declared.Record.{Record}
use Rattle.journal.specs.Reading.{records_in}
use Rattle.party.specs.Party.{Party, new_party, held_by, hearing}
use Rattle.party.specs.Run.{Ran, resting, run, taking, bytes_of}
use Rattle.party.specs.Valid.{party_valid}
use Rattle.party_life.specs.Life.{replayed, lived, Fits}
use Rattle.party_life.proofs.Fits.{fits_start, fits_taken}
use Rattle.party_bounds.proofs.Laws.{sized_new, sized_hearing, Within, replayed_within, lived_within, within_rules, Quiescent, run_quiescent, starting_quiescent, set_up_quiescent, typed_sized}
use Rattle.board_calls.specs.Answers.{position_of}
use Rattle.board_calls.specs.Calls.{Entry, again, fresh, start_questions, take_questions, called_of}
use Rattle.board_calls.specs.Restore.{Replay, restore_questions, restored_of}
use Rattle.party.specs.Typed.{Typed}
use Rattle.board_laws.specs.Inner.{New}
use Rattle.board_laws.proofs.Questions.{take_held}
use Rattle.board_laws.proofs.Restored.{settled_new}
use Rattle.board_promises.specs.Restored.{LivedAgain}
use Rattle.board_promises.proofs.Restored.{restore_lived}
use Rattle.board_laws.proofs.Replays.{outgoing_most}
use Rattle.agreement.specs.History.{Lent, StartInput, voted_input, start_finds}
use Rattle.agreement.proofs.Entries.{Recorded, voted_start, start_recorded, take_recorded}

-- what ran fits the outgoing buffer and counts few enough rules
pub record Bounded (r : Ran) : Type 0 where
  pub sent : length (bytes_of r.made) ≤ outgoing_size
  pub rules : r.rules ≤ max_rules

within_bounded : (p : Party) (r : Ran) → Within (last_level + 1) p r → Bounded r
within_bounded p r w = record { sent = outgoing_most p r w; rules = within_rules p r w }

-- ---- start and take

module _ (p : Party) (t : Typed p) (room used out : ℕ) where
  recorded_bounded : (r : Record) (ran : Ran) → T (party_valid p) → Recorded p room used r ran → Bounded ran
  recorded_bounded r ran v d =
      subst Bounded d.does (within_bounded p (replayed p r) (replayed_within (last_level + 1) (omega arith) p (typed_sized p t v) r d.fits))

  pub take_bounded : (s : ℕ) (bytes : List ℕ) (r : Record) (ran : Ran) → take_questions p s bytes room used out ≡ found (fresh r ran) → Bounded ran
  unfolding take_questions
  take_bounded s bytes r ran e = recorded_bounded r ran (asked (party_valid p) 19 0 _ (fresh r ran) e).0 (take_recorded p s bytes room used out r ran e).3

  -- where it made a record, no rule applies after it
  pub take_quiescent : (s : ℕ) (bytes : List ℕ) (r : Record) (ran : Ran) → take_questions p s bytes room used out ≡ found (fresh r ran) → Quiescent ran.party
  unfolding take_questions replayed taking
  take_quiescent s bytes r ran e =
      let a = asked (party_valid p) 19 0 _ (fresh r ran) e in
      let b = asked (leb outgoing_size out) 18 0 _ (fresh r ran) a.1 in
      let c = asked (leb used room) 20 0 _ (fresh r ran) b.1 in
      let (m, one, i, d) = take_recorded p s bytes room used out r ran e in
      let f = fits_taken p s m (subst (Fits p) (sym i) d.fits) in
      subst (λ (y : Ran). Quiescent y.party) (ap (replayed p) i ∙ d.does)
      (new m f.1 f.2 (held_by p s m) (λ k. take_held p s bytes room used out a.0 (leb→le outgoing_size out b.0) (leb→le used room c.0) f.1 m one f.0 k) refl a.0)
    where
      new : (m : Message) → s < p.n → T (in_table m) → (h : Bool) → (h ≡ true → take_questions p s bytes room used out ≡ found again) → held_by p s m ≡ h → T (party_valid p)
          → Quiescent (pick h (resting p) (run (hearing p s m))).party
      new m b i true g k v = let y : found again ≡ found (fresh r ran) = sym (g refl) ∙ e in let z : ◌≡◌ {A = ℕ} 0 1 = cc in absurd (omega arith)
      new m b i false g k v = run_quiescent (hearing p s m) (sized_hearing p (typed_sized p t v) s m b i)

  -- what a call gives that finds q
  pub called_sent : (q : Found Entry) → ((r : Record) (ran : Ran) → q ≡ found (fresh r ran) → Bounded ran) → (called_of p used q).sent ≤ outgoing_size
  called_sent (found again) h = omega arith
  called_sent (found (fresh r ran)) h = (h r ran refl).sent
  called_sent (refused number place) h = omega arith

  pub called_rules : (q : Found Entry) → ((r : Record) (ran : Ran) → q ≡ found (fresh r ran) → Bounded ran) → (called_of p used q).rules ≤ max_rules
  called_rules (found again) h = omega arith
  called_rules (found (fresh r ran)) h = (h r ran refl).rules
  called_rules (refused number place) h = omega arith

module _ (p : Party) (t : Typed p) (input : StartInput) (lent : Lent) (used : ℕ) (r : Record) (ran : Ran)
    (e : start_finds p input lent used ≡ found (fresh r ran)) where
  start_valid : T (party_valid p)
  unfolding start_questions
  start_valid = (asked (party_valid p) 19 0 _ (fresh r ran) (voted_start p input lent used (fresh r ran) e)).0

  pub start_bounded : Bounded ran
  start_bounded = recorded_bounded p t (length lent.journal) used lent.out r ran start_valid (start_recorded p input lent used r ran e).2

  pub start_quiescent : Quiescent ran.party
  unfolding replayed
  start_quiescent =
      let x : ℕ = position_of p.plan (voted_input input) in
      let (i, on, d) = start_recorded p input lent used r ran e in
      let f = fits_start p p.agreement x (subst (Fits p) (sym i) d.fits) in
      subst (λ (y : Ran). Quiescent y.party) (ap (replayed p) i ∙ d.does) (starting_quiescent p (typed_sized p t start_valid) x f.1 f.2)

-- ---- restore

module _ (n t own a : ℕ) (bytes j : List ℕ) (all : AllBytes j) (out : ℕ) (x : Replay) (e : restore_questions n t own a bytes j out ≡ found x) where
  -- an accepted restore gives a life of a party as set up
  relived : LivedAgain n t own a bytes j x
  relived = restore_lived n t own a bytes j out x all e

  abbrev p : Party
  p = new_party n t own a relived.plan

  settled : New p
  settled = settled_new n t own bytes a relived.reads

  pub restore_bounded : Bounded x.ran
  restore_bounded =
      let z = sized_new n t own a relived.plan settled.settings settled.plan in
      subst Bounded (sym relived.ran) (within_bounded p (lived p (records_in j)) (lived_within (last_level + 1) (omega arith) p z (records_in j) relived.life))

  pub restore_quiescent : Quiescent x.ran.party
  restore_quiescent =
      subst (λ (y : Ran). Quiescent y.party) (sym relived.ran)
      (set_up_quiescent n t own a relived.plan settled.settings settled.plan (records_in j) relived.life)

-- what a restore gives that finds q
pub restored_sent : (q : Found Replay) → ((x : Replay) → q ≡ found x → Bounded x.ran) → (restored_of q).sent ≤ outgoing_size
restored_sent (found x) h = (h x refl).sent
restored_sent (refused number place) h = omega arith

pub restored_rules : (q : Found Replay) → ((x : Replay) → q ≡ found x → Bounded x.ran) → (restored_of q).rules ≤ max_rules
restored_rules (found x) h = (h x refl).rules
restored_rules (refused number place) h = omega arith
