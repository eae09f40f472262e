-- What a party has heard: nothing at set-up, nothing by a start, and by a message taken just that message.
use mathlib.Core.Path.{◌≡◌, refl, sym, ap, ◌∙◌, subst}
use mathlib.Core.Logic.{◌⊎◌, inl, inr}
use mathlib.Core.Bool.{◌&&◌}
use mathlib.Core.List.{List}
use Prim.Native.Nat.{ℕ, zero, suc, ◌<◌}
use native.Mathlib.Decide.{ℕ_discrete, dec_lt}
use native.Mathlib.Omega.{arith}
use lib.Dec.{T, leb}
use lib.ListN.{length, get_or, replicate, length-replicate, get_or-eq_default}
use Rattle.base.specs.Limits.{level_count}
use Rattle.base.proofs.Bools.{T-right, false→not-T}
use Rattle.plan.specs.Plan.{Plan}
use Rattle.message.specs.declared.Body.{Body}
use Rattle.message.specs.declared.Message.{Message}
use Rattle.message.specs.Message.{in_table, body_in_table, last_level}
use Rattle.senders.specs.Senders.{is_in}
use Rattle.senders.proofs.Laws.{in_empty}
use Rattle.level.specs.Level.{Level, no_level, blank_level, senders, slot, with_heard}
use Rattle.level_laws.specs.Inner.{heard_from}
use Rattle.level_laws.proofs.Taken.{taken_back, taken_heard}
use Rattle.party.specs.Party.{Party, new_party, level_at, with_level, started, hearing}
use Rattle.party.specs.Run.{starting, taking}
use Rattle.party_laws.proofs.Laws.{level_same, level_other, level_past, starting_kept, taking_kept, taking_sets}
use Rattle.party_laws.proofs.Calls.{new_level, table_level}
use Rattle.execution.specs.Machine.{start, take}
use Rattle.vote_machine.specs.Machine.{called, Heard}
use Rattle.vote_machine.specs.Inner.{Regular, Le}
use Rattle.vote_machine.proofs.Entries.{grows_from}
use Rattle.vote_machine.proofs.Kept.{called_cases, start_fits, take_fits}

-- what was heard at a level rests on its sets
pub sets_heard : (l m : Level) → l.sets ≡ m.sets → (b : Body) (s : ℕ) → T (heard_from l b s) → T (heard_from m b s)
unfolding senders
sets_heard l m e b s h = subst (λ (x : List ℕ). T (body_in_table b && is_in (get_or x (slot b) 0) s)) e h

-- ---- at set-up

-- a list of one element has no other
repeated : (n a i : ℕ) → get_or (replicate n a) i a ≡ a
repeated zero a i = refl
repeated (suc n) a zero = refl
repeated (suc n) a (suc i) = repeated n a i

silent : (l : Level) → ((i : ℕ) → get_or l.sets i 0 ≡ 0) → (b : Body) (s : ℕ) → T (heard_from l b s) → ⊥
unfolding senders
silent l z b s h =
    false→not-T (ap (λ (x : ℕ). is_in x s) (z (slot b)) ∙ in_empty s) (T-right (body_in_table b) (is_in (get_or l.sets (slot b) 0) s) h)

pub heard_new : (n t own a : ℕ) (plan : Plan) (s : ℕ) (m : Message) → Heard (new_party n t own a plan) s m → ⊥
unfolding level_at
heard_new n t own a plan s m h = go (dec_lt m.level level_count)
  where
    p : Party
    p = new_party n t own a plan

    go : Dec (m.level < level_count) → ⊥
    go (yes k) = silent blank_level (repeated 83 0) m.body s (subst (λ (l : Level). T (heard_from l m.body s)) (new_level n t own a plan m.level k) h.body)
    go (no k) =
        silent no_level (λ i. refl) m.body s
        (subst (λ (l : Level). T (heard_from l m.body s))
        (get_or-eq_default p.levels no_level {n = m.level} (omega (arith, length-replicate level_count blank_level))) h.body)

-- ---- a start

pub heard_starting : (p : Party) (x : ℕ) → (T (started p) → ⊥) → (s : ℕ) (m : Message) → Heard (starting p x).party s m → Heard p s m
heard_starting p x new s m h =
    let k = starting_kept p x new in
    record {
      number = h.number ∙ k.0.board.agreement;
      body = sets_heard (level_at (starting p x).party m.level) (level_at p m.level) (k.1 m.level) m.body s h.body;
    }

-- ---- a message taken

-- a level after one was replaced: as it was, or the new one
level_cases : (p : Party) (i : ℕ) (l : Level) (j : ℕ) → (level_at (with_level p i l) j ≡ level_at p j) ⊎ ((i ≡ j) × (level_at (with_level p i l) j ≡ l))
level_cases p i l j = go (ℕ_discrete j i) (dec_lt i (length p.levels))
  where
    go : Dec (j ≡ i) → Dec (i < length p.levels) → (level_at (with_level p i l) j ≡ level_at p j) ⊎ ((i ≡ j) × (level_at (with_level p i l) j ≡ l))
    go (no d) k = inl (level_other p i l j d)
    go (yes e) (yes k) = inr (sym e, ap (level_at (with_level p i l)) e ∙ level_same p i l k)
    go (yes e) (no k) = inl (level_past p i l (omega arith) j)

message_same : (k m : Message) → k.number ≡ m.number → k.level ≡ m.level → k.body ≡ m.body → k ≡ m
message_same k m a b c z = record { number = a z; level = b z; body = c z }

module _ (p : Party) (s : ℕ) (k : Message) (t : T (in_table k)) (e : k.number ≡ p.agreement) where
  heard_hearing : (j : ℕ) (m : Message) → m.number ≡ p.agreement → T (heard_from (level_at (hearing p s k) m.level) m.body j)
      → T (heard_from (level_at p m.level) m.body j) ⊎ ((s ≡ j) × (k ≡ m))
  unfolding hearing
  heard_hearing j m f h = go (level_cases p k.level new m.level)
    where
      new : Level
      new = with_heard (level_at p k.level) k.body s

      last : k.level ≡ m.level → T (heard_from (level_at p k.level) m.body j) ⊎ ((m.body ≡ k.body) × (j ≡ s))
          → T (heard_from (level_at p m.level) m.body j) ⊎ ((s ≡ j) × (k ≡ m))
      last d (inl y) = inl (subst (λ (i : ℕ). T (heard_from (level_at p i) m.body j)) d y)
      last d (inr y) = inr (sym y.1, message_same k m (e ∙ sym f) d (sym y.0))

      go : (level_at (with_level p k.level new) m.level ≡ level_at p m.level) ⊎ ((k.level ≡ m.level) × (level_at (with_level p k.level new) m.level ≡ new))
          → T (heard_from (level_at p m.level) m.body j) ⊎ ((s ≡ j) × (k ≡ m))
      go (inl y) = inl (subst (λ (l : Level). T (heard_from l m.body j)) y h)
      go (inr y) =
          last y.0
          (taken_back (level_at p k.level) k.body s (T-right (leb k.level last_level) (body_in_table k.body) t) m.body j
          (subst (λ (l : Level). T (heard_from l m.body j)) y.1 h))

  pub heard_taking : (j : ℕ) (m : Message) → Heard (taking p s k).party j m → Heard p j m ⊎ ((s ≡ j) × (k ≡ m))
  heard_taking j m h =
      go (heard_hearing j m f (sets_heard (level_at (taking p s k).party m.level) (level_at (hearing p s k) m.level) (taking_sets p s k m.level) m.body j h.body))
    where
      f : m.number ≡ p.agreement
      f = h.number ∙ (taking_kept p s k).board.agreement

      go : T (heard_from (level_at p m.level) m.body j) ⊎ ((s ≡ j) × (k ≡ m)) → Heard p j m ⊎ ((s ≡ j) × (k ≡ m))
      go (inl y) = inl (record { number = f; body = y })
      go (inr y) = inr y

-- ---- what was heard stays

pub le_heard : (p q : Party) → Le p q → (s : ℕ) (m : Message) → Heard p s m → Heard q s m
le_heard p q o s m h = record {
  number = h.number ∙ sym o.board.agreement;
  body = grows_from (level_at p m.level) (level_at q m.level) (o.grown m.level) m.body s h.body;
}

-- a message taken is heard
pub taking_heard : (p : Party) → Regular p → (s : ℕ) (m : Message) → T (in_table m) → m.number ≡ p.agreement → Heard (taking p s m).party s m
unfolding hearing
taking_heard p r s m t e = record {
  number = e ∙ sym (taking_kept p s m).board.agreement;
  body =
      sets_heard (level_at (hearing p s m) m.level) (level_at (taking p s m).party m.level) (sym (taking_sets p s m m.level)) m.body s
      (subst (λ (l : Level). T (heard_from l m.body s)) (sym (level_same p m.level (with_heard (level_at p m.level) m.body s) (omega (arith, k, r.formed.full))))
      (taken_heard p.n (level_at p m.level) m.body s (r.heard m.level k) (T-right (leb m.level last_level) (body_in_table m.body) t)));
}
  where
    k : m.level < level_count
    k = table_level m t

-- ---- calls

pub heard_start : (p : Party) (x s : ℕ) (m : Message) → Heard (called p (start x)).party s m → Heard p s m
heard_start p x s m =
    called_cases (λ a. Heard a.party s m → Heard p s m) p (start x) (λ f. heard_starting p x (start_fits p x f).0 s m) (λ h. h)

pub heard_take : (p : Party) (j : ℕ) (k : Message) (s : ℕ) (m : Message) → Heard (called p (take j k)).party s m → Heard p s m ⊎ ((j ≡ s) × (k ≡ m))
heard_take p j k s m =
    called_cases (λ a. Heard a.party s m → Heard p s m ⊎ ((j ≡ s) × (k ≡ m))) p (take j k)
    (λ f. let g = take_fits p j k f in heard_taking p j k g.1 g.2 s m) inl
