-- Every record that a set-up, start, start by count, take or restore gives passes question 19; the record that comes with a refused set-up or restore fails it.
use mathlib.Core.Path.{◌≡◌, refl, sym, ◌∙◌, subst}
use mathlib.Core.List.{List}
use Prim.Native.Nat.{ℕ, ◌<◌}
use native.Mathlib.Decide.{dec_lt}
use native.Mathlib.Omega.{arith}
use lib.Dec.{T}
use lib.IntN.{ℤ}
use lib.ListN.{length}
use Rattle.base.specs.Limits.{level_count, outgoing_size}
use Rattle.base.specs.Verdict.{Verdict}
use Rattle.varint.specs.Varint.{AllBytes}
use Rattle.base.specs.Found.{Found, found, refused}
use Rattle.plan.specs.Plan.{Plan}
use Rattle.plan.specs.Reading.{settled_plan}
use Rattle.journal.specs.declared.Record.{Record}
use Rattle.journal.specs.declared.Record.TheVariants.{Start, Taken}
use Rattle.party.specs.Party.{Party, new_party}
use Rattle.party.specs.Run.{Ran, resting}
use Rattle.party.specs.Valid.{party_valid}
use Rattle.party_life.specs.Life.{replayed, Fits}
use Rattle.party_life.proofs.Fits.{fits_start, fits_taken}
use Rattle.party_laws.proofs.Laws.{Formed, formed_starting, formed_taking}
use Rattle.board_calls.proofs.NoParty.{no_party_lem}
use Rattle.board_calls.specs.Calls.{Entry, again, fresh, set_up_answer, set_up_of, start_questions, take_questions, called_of}
use Rattle.board_calls.specs.Counts.{start_count_questions}
use Rattle.board_calls.specs.Restore.{Replay, replay_from, restore_questions, restored_of}
use Rattle.board_promises.specs.Given.{Given, Withheld}
use Rattle.board_promises.proofs.Counts.{count_valid, count_recorded}
use Rattle.board_laws.proofs.Recorded.{Recorded, start_valid, take_valid, start_recorded, take_recorded}
use Rattle.board_laws.proofs.Replays.{new_sized}
use Rattle.board_laws.proofs.Kept.{replay_keeps}
use Rattle.board_laws.proofs.Restored.{settled_new, restore_short, restore_refused, restore_found}

-- ---- set-up

-- a party of settings and a plan that pass questions 1 to 11
settled_formed : (n t own a : ℕ) (bytes : List ℕ) (plan : Plan) → settled_plan n t own bytes ≡ found plan → Formed (new_party n t own a plan)
settled_formed n t own a bytes plan e = (new_sized (new_party n t own a plan) (settled_new n t own bytes a e)).formed

module _ (n t own a : ℕ) (bytes : List ℕ) where
  set_up_given : (set_up_of n t own a bytes).verdict ≡ Verdict.Accepted → T (party_valid (set_up_of n t own a bytes).party)
  unfolding set_up_of
  set_up_given h = go (settled_plan n t own bytes) refl h
    where
      go : (f : Found Plan) → settled_plan n t own bytes ≡ f → (set_up_answer n t own a f).verdict ≡ Verdict.Accepted → T (party_valid (set_up_answer n t own a f).party)
      go (found plan) i h = (settled_formed n t own a bytes plan i).valid
      go (refused number place) i h = let z : ◌≡◌ {A = ℕ} 0 1 = cc in absurd (omega arith)

  set_up_withheld : (number place : ℕ) → (set_up_of n t own a bytes).verdict ≡ Verdict.Refused number place → T (party_valid (set_up_of n t own a bytes).party) → ⊥
  unfolding set_up_of
  set_up_withheld number place h = go (settled_plan n t own bytes) h
    where
      go : (f : Found Plan) → (set_up_answer n t own a f).verdict ≡ Verdict.Refused number place → T (party_valid (set_up_answer n t own a f).party) → ⊥
      go (found plan) h v = let z : ◌≡◌ {A = ℕ} 0 1 = cc in omega arith
      go (refused number place) h v = no_party_lem v

-- ---- start, start by count and take

-- what a record that fits makes of a party
formed_replayed : (p : Party) → Formed p → (r : Record) → Fits p r → Formed (replayed p r).party
unfolding replayed
formed_replayed p w (Start a x) f = let g = fits_start p a x f in formed_starting p w x g.1 g.2
formed_replayed p w (Taken s m) f = let g = fits_taken p s m f in formed_taking p w s m g.1 g.2

module _ (p : Party) (full : length p.levels ≡ level_count) (room used out : ℕ) where
  -- a start, by count or not, or a take that found q is accepted, and its party passes question 19
  abbrev Accepted : Found Entry → Type 0
  Accepted q = (called_of p used q).verdict ≡ Verdict.Accepted

  abbrev Passes : Found Entry → Type 0
  Passes q = T (party_valid (called_of p used q).party)

  -- it recorded what fits
  recorded : (r : Record) (ran : Ran) → Recorded p r ran → T (party_valid ran.party)
  recorded r ran (v, f, e) = subst (λ (y : Ran). T (party_valid y.party)) (sym e) (formed_replayed p (record { valid = v; full = full }) r f).valid

  -- whatever its questions find: of a valid party, and where it is a record, one that fits
  call_given : (q : Found Entry) → ((x : Entry) → q ≡ found x → T (party_valid p)) → ((r : Record) (ran : Ran) → q ≡ found (fresh r ran) → Recorded p r ran)
      → Accepted q → Passes q
  call_given (found again) v f h = v again refl
  call_given (found (fresh r ran)) v f h = recorded r ran (f r ran refl)
  call_given (refused number place) v f h = let y : ◌≡◌ {A = ℕ} 0 1 = cc in absurd (omega arith)

  start_given : (z : ℤ) → Accepted (start_questions p z room used out) → Passes (start_questions p z room used out)
  start_given z = call_given (start_questions p z room used out) (λ x. start_valid p room used out x z) (λ r ran. start_recorded p room used out r ran z)

  start_count_given : (g : ℕ) (c : ℤ) → Accepted (start_count_questions p g c room used out) → Passes (start_count_questions p g c room used out)
  start_count_given g c = call_given (start_count_questions p g c room used out) (count_valid p g c room used out) (count_recorded p g c room used out)

  take_given : (s : ℕ) (bytes : List ℕ) → AllBytes bytes → Accepted (take_questions p s bytes room used out) → Passes (take_questions p s bytes room used out)
  take_given s bytes all =
      call_given (take_questions p s bytes room used out) (λ x. take_valid p room used out x s bytes) (λ r ran. take_recorded p room used out r ran s bytes all)

-- ---- restore

-- the party of a journal's records
replay_formed : (j : List ℕ) → AllBytes j → (f at : ℕ) (r : Ran) (x : Replay) → Formed r.party → replay_from f j at r ≡ found x → Formed x.ran.party
replay_formed j all = replay_keeps (λ (r : Ran). Formed r.party) j all (λ r x w f. formed_replayed r.party w x f)

module _ (n t own a : ℕ) (bytes j : List ℕ) (out : ℕ) where
  restore_given : AllBytes j → (restored_of (restore_questions n t own a bytes j out)).verdict ≡ Verdict.Accepted
      → T (party_valid (restored_of (restore_questions n t own a bytes j out)).party)
  restore_given all h = go (restore_questions n t own a bytes j out) refl h
    where
      on : (x : Replay) → restore_questions n t own a bytes j out ≡ found x → Dec (out < outgoing_size) → (f : Found Plan) → settled_plan n t own bytes ≡ f → Formed x.ran.party
      on x e (yes l) f i = let b : found x ≡ refused 18 0 = sym e ∙ restore_short n t own a bytes j out l in let z : ◌≡◌ {A = ℕ} 0 1 = cc in absurd (omega arith)
      on x e (no l) (found plan) i =
          replay_formed j all (length j) 0 (resting (new_party n t own a plan)) x (settled_formed n t own a bytes plan i)
          (sym (restore_found n t own a bytes j out (omega (arith, l)) i) ∙ e)
      on x e (no l) (refused number place) i =
          let b : found x ≡ refused number place = sym e ∙ restore_refused n t own a bytes j out (omega (arith, l)) i in
          let z : ◌≡◌ {A = ℕ} 0 1 = cc in absurd (omega arith)

      go : (f : Found Replay) → restore_questions n t own a bytes j out ≡ f → (restored_of f).verdict ≡ Verdict.Accepted → T (party_valid (restored_of f).party)
      go (found x) e h = (on x e (dec_lt out outgoing_size) (settled_plan n t own bytes) refl).valid
      go (refused number place) e h = let z : ◌≡◌ {A = ℕ} 0 1 = cc in absurd (omega arith)

  restore_withheld : (number place : ℕ) → (restored_of (restore_questions n t own a bytes j out)).verdict ≡ Verdict.Refused number place
      → T (party_valid (restored_of (restore_questions n t own a bytes j out)).party) → ⊥
  restore_withheld number place h = go (restore_questions n t own a bytes j out) h
    where
      go : (f : Found Replay) → (restored_of f).verdict ≡ Verdict.Refused number place → T (party_valid (restored_of f).party) → ⊥
      go (found x) h v = let z : ◌≡◌ {A = ℕ} 0 1 = cc in omega arith
      go (refused number place) h v = no_party_lem v

-- ---- every call

-- Every record that a set-up, start, start by count, take or restore gives passes question 19.
pub given_valid : {p : Party} → Given p → T (party_valid p)
given_valid (Given.set_up n t own a bytes h) = set_up_given n t own a bytes h
given_valid (Given.start p z room used out full h) = start_given p full room used out z h
given_valid (Given.start_count p g c room used out full h) = start_count_given p full room used out g c h
given_valid (Given.take p s bytes room used out full all h) = take_given p full room used out s bytes all h
given_valid (Given.restore n t own a bytes j out all h) = restore_given n t own a bytes j out all h

-- The record that comes with a refused set-up or restore fails it: "a refused set-up or restore gives no party".
pub withheld_invalid : {p : Party} → Withheld p → T (party_valid p) → ⊥
withheld_invalid (Withheld.set_up n t own a bytes number place h) = set_up_withheld n t own a bytes number place h
withheld_invalid (Withheld.restore n t own a bytes j out number place h) = restore_withheld n t own a bytes j out number place h
