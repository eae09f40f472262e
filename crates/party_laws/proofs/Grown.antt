-- A level that is not entered was not touched by a rule; so what is there at a level stays as it is.
use mathlib.Core.Path.{◌≡◌, refl, sym, ◌∙◌, subst}
use Prim.Native.Nat.{ℕ, ◌+◌, ◌<◌}
use native.Mathlib.Decide.{dec_lt}
use native.Mathlib.Omega.{arith}
use lib.Dec.{T, leb}
use lib.ListN.{length}
use Rattle.base.specs.Pick.{pick}
use Rattle.base.specs.Sets.{Set}
use Rattle.base.specs.Limits.{level_count}
use Rattle.plan.specs.Plan.{Plan}
use Rattle.component.specs.Component.{whole_of, size_of, side_of}
use Rattle.message.specs.declared.Body.{Body}
use Rattle.message.specs.declared.Message.{Message}
use Rattle.level.specs.Level.{Level, with_heard}
use Rattle.level_laws.specs.Inner.{Grows}
use Rattle.level_laws.proofs.Law.{blank_untouched}
use Rattle.level_laws.proofs.Evidence.{untouched_heard}
use Rattle.level_laws.proofs.Grows.{grows_refl, grows_trans, grows_heard, grows_entry, move_grows, Unmoved, move_unmoved}
use Rattle.party.specs.Party.{Party, new_party, level_at, with_level, component_of, context_of, entering, entered, started, hearing}
use Rattle.party.specs.Run.{open_at, step_at, run_up_to, run, starting, taking}
use Rattle.party_laws.specs.Inner.{Unused, Fresh, Grown}
use Rattle.party_laws.proofs.Levels.{level_past, level_all, board_with, board_entering}
use Rattle.party_laws.proofs.Components.{sending_entered}
use Rattle.party_laws.proofs.Moves.{open_sending}
use Rattle.party_laws.proofs.Calls.{new_level}
use Rattle.party_laws.proofs.Runs.{runs_keep, run_keeps, starting_keeps, taking_keeps}
use Rattle.party_laws.proofs.Kept.{Step, changes, enters, open_step, keeps_entered, keeps_hearing}

pub grown_refl : (p : Party) → Grown p p
grown_refl p i = grows_refl (level_at p i)

pub grown_trans : (p q r : Party) → Grown p q → Grown q r → Grown p r
grown_trans p q r f g i = grows_trans (level_at p i) (level_at q i) (level_at r i) (f i) (g i)

-- ---- one level replaced

-- where the new level has grown, and is entered or not touched
module _ (p : Party) (i : ℕ) (m : Level) where
  grown_with : (i < length p.levels → Grows (level_at p i) m) → Grown p (with_level p i m)
  grown_with g = go (dec_lt i (length p.levels))
    where
      go : Dec (i < length p.levels) → Grown p (with_level p i m)
      go (yes h) = level_all p i m h (λ j l. Grows (level_at p j) l) (g h) (λ j _. grows_refl (level_at p j))
      go (no h) = λ j. subst (Grows (level_at p j)) (sym (level_past p i m (omega arith) j)) (grows_refl (level_at p j))

  fresh_with : Fresh p → (i < level_count → (T m.entered → ⊥) → Unused m) → Fresh (with_level p i m)
  fresh_with f g = go (dec_lt i (length p.levels))
    where
      go : Dec (i < length p.levels) → Fresh (with_level p i m)
      go (yes h) = level_all p i m h (λ j l. j < level_count → (T l.entered → ⊥) → Unused l) g (λ j _. f j)
      go (no h) = λ j. subst (λ (l : Level). j < level_count → (T l.entered → ⊥) → Unused l) (sym (level_past p i m (omega arith) j)) (f j)

module _ (p : Party) (full : length p.levels ≡ level_count) (f : Fresh p) (i : ℕ) (S : Set) (k x : ℕ) (new : T (level_at p i).entered → ⊥) where
  grown_entering : Grown p (entering p i S k x)
  unfolding entering
  grown_entering =
      grown_with p i _ (λ h.
      grows_entry (level_at p i) k x (pick (leb 3 (size_of p.plan S)) (level_at p i).output x) new (λ a. absurd (a (f i (omega arith) new).output)))

  fresh_entering : Fresh (entering p i S k x)
  unfolding entering
  fresh_entering = fresh_with p i _ f (λ _ d. absurd (d tt))

-- ---- one rule

stepped : (p : Party) → length p.levels ≡ level_count → Fresh p → (i : ℕ) → T (level_at p i).entered → (q : Party) → Step p i q
    → Grown p q × Fresh q × (length q.levels ≡ level_count)
stepped p full f i h q (changes m e x) =
    let u : Unmoved (level_at p i) m = move_unmoved (context_of p i) (level_at p i) m e x in (
      grown_with p i m (λ _. move_grows (context_of p i) (level_at p i) m e x),
      fresh_with p i m f (λ _ d. absurd (d (subst T (sym u.entered) h))),
      (board_with p i m).levels ∙ full,
    )
stepped p full f i h q (enters k x new) =
    let S : Set = side_of p.plan (component_of p i) k in
    (grown_entering p full f (i + 1) S k x new, fresh_entering p full f (i + 1) S k x new, (board_entering p (i + 1) S k x).levels ∙ full)

-- ---- messages, starts and runs

pub fresh_new : (n t own a : ℕ) (plan : Plan) → Fresh (new_party n t own a plan)
fresh_new n t own a plan i h d = subst Unused (sym (new_level n t own a plan i h)) (record { untouched = blank_untouched; output = refl })

unused_heard : (l : Level) (b : Body) (s : ℕ) → Unused l → Unused (with_heard l b s)
unfolding with_heard
unused_heard l b s u = record { untouched = untouched_heard l b s u.untouched; output = u.output }

pub fresh_hearing : (p : Party) (s : ℕ) (m : Message) → Fresh p → Fresh (hearing p s m)
unfolding hearing with_heard
fresh_hearing p s m f =
    fresh_with p m.level _ f (λ h d. unused_heard (level_at p m.level) m.body s (f m.level h d))

pub grown_hearing : (p : Party) (s : ℕ) (m : Message) → Grown p (hearing p s m)
unfolding hearing
grown_hearing p s m = grown_with p m.level _ (λ _. grows_heard (level_at p m.level) m.body s)

module _ (p : Party) (full : length p.levels ≡ level_count) (f : Fresh p) where
  pub fresh_entered : (x : ℕ) → (T (started p) → ⊥) → Fresh (entered p x)
  unfolding entered
  fresh_entered x new = fresh_entering p full f 0 (whole_of p.plan) 0 x new

  pub grown_entered : (x : ℕ) → (T (started p) → ⊥) → Grown p (entered p x)
  unfolding entered
  grown_entered x new = grown_entering p full f 0 (whole_of p.plan) 0 x new

-- q is p after rules
record Later (p q : Party) : Type 0 where
  grown : Grown p q
  fresh : Fresh q
  full : length q.levels ≡ level_count

later_step : (p q : Party) (i : ℕ) → Later p q → T (open_at q i) → Later p (step_at q i)
later_step p q i h o =
    let s = stepped q h.full h.fresh i (sending_entered q i (open_sending q i o)) (step_at q i) (open_step q i o) in
    record { grown = grown_trans p q (step_at q i) h.grown s.0; fresh = s.1; full = s.2 }

module _ (p : Party) (full : length p.levels ≡ level_count) (f : Fresh p) where
  abbrev self : Later p p
  self = record { grown = grown_refl p; fresh = f; full = full }

  pub step_grown : (i : ℕ) → T (open_at p i) → Grown p (step_at p i) × Fresh (step_at p i)
  step_grown i o = let h = later_step p p i self o in (h.grown, h.fresh)

  pub runs_grown : (r : ℕ) → Grown p (run_up_to r p).party × Fresh (run_up_to r p).party
  runs_grown r = let h = runs_keep (Later p) (later_step p) r p self in (h.grown, h.fresh)

  pub run_grown : Grown p (run p).party × Fresh (run p).party
  run_grown = let h = run_keeps (Later p) (later_step p) p self in (h.grown, h.fresh)

  pub starting_grown : (x : ℕ) → (T (started p) → ⊥) → Grown p (starting p x).party × Fresh (starting p x).party
  starting_grown x new =
      let s : Later p (entered p x) = record { grown = grown_entered p full f x new; fresh = fresh_entered p full f x new; full = (keeps_entered p x new).board.levels ∙ full } in
      let h = starting_keeps (Later p) (later_step p) p x s in
      (h.grown, h.fresh)

  pub taking_grown : (s : ℕ) (m : Message) → Grown p (taking p s m).party × Fresh (taking p s m).party
  taking_grown s m =
      let k : Later p (hearing p s m) = record { grown = grown_hearing p s m; fresh = fresh_hearing p s m f; full = (keeps_hearing p s m).board.levels ∙ full } in
      let h = taking_keeps (Later p) (later_step p) p s m self k in
      (h.grown, h.fresh)
