-- What a message taken and a start make of each level.
use mathlib.Core.Path.{◌≡◌, refl, sym, ap, subst}
use mathlib.Core.Logic.{inl}
use mathlib.Core.Bool.{Bool, true, false}
use Prim.Native.Nat.{ℕ, suc, ◌+◌, ◌<◌}
use native.Mathlib.Decide.{ℕ_discrete}
use native.Mathlib.Omega.{arith}
use lib.Dec.{T, leb, leb→le, le→leb}
use lib.ListN.{length}
use Rattle.base.specs.Pick.{pick}
use Rattle.base.specs.Sets.{Set}
use Rattle.component.specs.Component.{whole_of, size_of}
use Rattle.message.specs.declared.Message.{Message}
use Rattle.message.specs.Message.{in_table}
use Rattle.level.specs.Level.{Level, with_heard}
use Rattle.party.specs.Party.{Party, level_at, component_of, sending, context_of, entering, entered, started, hearing}
use Rattle.party_laws.proofs.Laws.{level_same, level_other, level_field, board_entering, entry_level, entry_other, entry_whole, entered_sending, sending_three}
use Rattle.party_laws.proofs.Laws.{formed_hearing, formed_entered, keeps_hearing, keeps_entered, fresh_hearing, fresh_entered, grown_hearing, grown_entered}
use Rattle.party_laws.proofs.Calls.{table_level}
use Rattle.vote_machine.specs.Inner.{Regular}
use Rattle.vote_machine.proofs.Order.{kept_le}
use Rattle.vote_machine.proofs.Changes as changes
use Rattle.vote_machine.proofs.Changes.{NextOld, Change, Changed}

-- the next level, where its entry stays as it was
pub next_as : (p q : Party) (j : ℕ) → (level_at q (j + 1)).entered ≡ (level_at p (j + 1)).entered → NextOld p q j
unfolding context_of
next_as p q j e n = subst T e n

-- ---- a message taken

module _ (p : Party) (r : Regular p) (s : ℕ) (m : Message) (k : s < p.n) (t : T (in_table m)) where
  abbrev q : Party
  q = hearing p s m

  abbrev new : Level
  new = with_heard (level_at p m.level) m.body s

  pub heard_entered : (j : ℕ) → (level_at (hearing p s m) j).entered ≡ (level_at p j).entered
  unfolding hearing with_heard
  heard_entered j = level_field p m.level new (λ l. l.entered) refl j

  heard_each : (j : ℕ) → Change p (hearing p s m) (λ _. ⊥) j
  unfolding hearing
  heard_each j = go (ℕ_discrete j m.level)
    where
      here : m.level < length p.levels
      here = omega (arith, table_level m t, r.formed.full)

      go : Dec (j ≡ m.level) → Change p (hearing p s m) (λ _. ⊥) j
      go (yes e) =
          subst (Change p q (λ _. ⊥)) (sym e)
          (changes.heard m.body s k (level_same p m.level new here) (next_as p q m.level (heard_entered (m.level + 1))))
      go (no d) = changes.same (level_other p m.level new j d) (next_as p q j (heard_entered (j + 1)))

  pub hearing_changed : Changed p (hearing p s m) (λ _. ⊥)
  hearing_changed = record {
    le = kept_le p q r.formed (keeps_hearing p s m) (grown_hearing p s m);
    formed = formed_hearing p r.formed s m k t;
    fresh = fresh_hearing p s m r.fresh;
    each = λ j _. heard_each j;
    entry = λ j h. inl (subst T (heard_entered (suc j)) h);
  }

-- ---- a level entered

-- its output: with three or more positions as it was, with fewer the position
module _ (p : Party) (i : ℕ) (S : Set) (k x : ℕ) (here : i < length p.levels) (c : component_of (entering p i S k x) i ≡ S) where
  size_same : size_of (entering p i S k x).plan (component_of (entering p i S k x) i) ≡ size_of p.plan S
  size_same z = size_of ((board_entering p i S k x).plan z) (c z)

  abbrev out : Bool → ℕ
  out b = pick b (level_at p i).output x

  pub output_large : T (sending (entering p i S k x) i) → pick (leb 3 (size_of p.plan S)) (level_at p i).output x ≡ (level_at p i).output
  output_large on = go (leb 3 (size_of p.plan S)) refl
    where
      go : (b : Bool) → leb 3 (size_of p.plan S) ≡ b → out b ≡ (level_at p i).output
      go true e = refl
      go false e = absurd (subst T e (le→leb 3 (size_of p.plan S) (omega (arith, size_same, sending_three (entering p i S k x) i on))))

  pub output_small : (T (sending (entering p i S k x) i) → ⊥) → pick (leb 3 (size_of p.plan S)) (level_at p i).output x ≡ x
  output_small off = go (leb 3 (size_of p.plan S)) refl
    where
      go : (b : Bool) → leb 3 (size_of p.plan S) ≡ b → out b ≡ x
      go false e = refl
      go true e =
          absurd (off (entered_sending (entering p i S k x) i (subst (λ (l : Level). T l.entered) (sym (entry_level p i S k x here)) tt)
          (omega (arith, size_same, leb→le 3 (size_of p.plan S) (subst T (sym e) tt)))))

  pub entering_change : (R : ℕ → Type 0) → (T (level_at p i).entered → ⊥) → Change p (entering p i S k x) R i
  entering_change R new =
      changes.entered k x (pick (leb 3 (size_of p.plan S)) (level_at p i).output x) new (entry_level p i S k x here) output_large output_small
      (next_as p (entering p i S k x) i (ap (λ (l : Level). l.entered) (entry_other p i S k x (i + 1) (λ e. omega arith))))

-- ---- a start

module _ (p : Party) (r : Regular p) (x : ℕ) (new : T (started p) → ⊥) (k : x < p.plan.count) where
  abbrev S : Set
  S = whole_of p.plan

  entered_each : (j : ℕ) → Change p (entered p x) (λ _. ⊥) j
  unfolding entered
  entered_each j = go (ℕ_discrete j 0)
    where
      go : Dec (j ≡ 0) → Change p (entered p x) (λ _. ⊥) j
      go (yes e) =
          subst (Change p (entered p x) (λ _. ⊥)) (sym e)
          (entering_change p 0 S 0 x (omega (arith, r.formed.full)) (entry_whole p 0 S 0 x) (λ _. ⊥) new)
      go (no d) =
          changes.same (entry_other p 0 S 0 x j d)
          (next_as p (entered p x) j (ap (λ (l : Level). l.entered) (entry_other p 0 S 0 x (j + 1) (λ e. omega arith))))

  entered_later : (j : ℕ) → level_at (entered p x) (suc j) ≡ level_at p (suc j)
  unfolding entered
  entered_later j = entry_other p 0 S 0 x (suc j) (λ e. omega arith)

  pub entered_changed : Changed p (entered p x) (λ _. ⊥)
  entered_changed = record {
    le = kept_le p (entered p x) r.formed (keeps_entered p x new) (grown_entered p r.formed.full r.fresh x new);
    formed = formed_entered p r.formed x new k;
    fresh = fresh_entered p r.formed.full r.fresh x new;
    each = λ j _. entered_each j;
    entry = λ j h. inl (subst (λ (l : Level). T l.entered) (entered_later j) h);
  }
