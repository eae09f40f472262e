-- A board alone (n 1, t 0) takes its own messages until none is left: of the messages that can still come or wait, each call leaves one less.
use mathlib.Core.Path.{◌≡◌, refl, sym, subst}
use mathlib.Core.Logic.{◌⊎◌, inl, inr}
use mathlib.Core.Bool.{Bool, true, false}
use mathlib.Core.List.Memᴰ
use mathlib.Core.List.{List, [], ◌∷◌, ◌++◌, Memᴰ}
use Prim.Native.Nat.{ℕ, zero, suc, ◌+◌, ◌≤◌, ◌<◌}
use native.Mathlib.Omega.{arith}
use lib.Dec.{T}
use lib.ListN.{length, length-append}
use Rattle.base.specs.Limits.{last_level}
use Rattle.base.proofs.Bools.{true→T}
use Rattle.plan.specs.Plan.{Plan}
use Rattle.plan.specs.Valid.{plan_valid}
use Rattle.message.specs.declared.Message.{Message}
use Rattle.message.specs.Message.{in_table}
use Rattle.level.specs.Level.{Level}
use Rattle.journal.specs.declared.Record.{Record}
use Rattle.journal.specs.declared.Record.TheVariants.{Start, Taken}
use Rattle.party.specs.Party.{Party, new_party, held_by}
use Rattle.party_laws.proofs.Calls.{new_level}
use Rattle.party_life.specs.Life.{replayed, lived, Fits, Life, made_along}
use Rattle.party_life.proofs.Fits.{fitting_start, fitting_taken}
use Rattle.party_bounds.proofs.Laws.{sized_new, sized_lived, messages_left, replayed_within}
use Rattle.vote_machine.specs.Machine.{Heard, Sent}
use Rattle.vote_machine.specs.Inner.{Regular}
use Rattle.vote_machine.proofs.Laws.{regular_new, regular_lived, le_record, le_lived, le_heard, sent_proper, made_sent, taken_heard}
use Rattle.log_agreement.proofs.Logs.{held_heard}
use Rattle.agreement_levels.specs.Inner.{Own}

-- a life of a board's own messages, from a start at x on: of those made, only the messages ms may not be taken yet
pub record Waits (a : ℕ) (plan : Plan) (x : ℕ) (rs : List Record) (ms : List Message) : Type 0 where
  pub life : Life (new_party 1 0 0 a plan) rs
  pub own : Own (new_party 1 0 0 a plan) rs
  pub start : Memᴰ (Start a x) rs
  pub made : (m : Message) → Memᴰ m ms → Memᴰ m (made_along (new_party 1 0 0 a plan) rs)
  pub taken : (m : Message) → Memᴰ m (made_along (new_party 1 0 0 a plan) rs) → Heard (lived (new_party 1 0 0 a plan) rs).party 0 m ⊎ Memᴰ m ms

module _ (a : ℕ) (plan : Plan) (valid : T (plan_valid plan)) (x : ℕ) where
  abbrev alone : Party
  alone = new_party 1 0 0 a plan

  abbrev after : List Record → Party
  after rs = (lived (new_party 1 0 0 a plan) rs).party

  regular : Regular (new_party 1 0 0 a plan)
  regular = regular_new 1 0 0 a plan tt valid

  -- how many messages can still come
  abbrev left : List Record → ℕ
  left rs = messages_left (last_level + 1) (lived (new_party 1 0 0 a plan) rs).party

  -- ---- the first that waits

  module _ (rs : List Record) (m : Message) (ms : List Message) (w : Waits a plan x rs (m ∷ ms)) where
    was_sent : Sent (lived (new_party 1 0 0 a plan) rs).party m
    was_sent = (made_sent 1 0 0 a plan tt valid rs w.life m).0 (w.made m (Memᴰ.head refl))

    proper : T (in_table m)
    proper = sent_proper (after rs) (regular_lived alone regular rs w.life) m was_sent

    -- in a party that heard it, and what was heard before, only the others wait
    waits_less : (p : Party) → Heard p 0 m → ((k : Message) → Heard (lived (new_party 1 0 0 a plan) rs).party 0 k → Heard p 0 k)
        → (k : Message) → Memᴰ k (made_along (new_party 1 0 0 a plan) rs) → Heard p 0 k ⊎ Memᴰ k ms
    waits_less p first older k h = by (w.taken k h)
      where
        on : (k ≡ m) ⊎ Memᴰ k ms → Heard p 0 k ⊎ Memᴰ k ms
        on (inl e) = inl (subst (Heard p 0) (sym e) first)
        on (inr y) = inr y

        by : Heard (after rs) 0 k ⊎ Memᴰ k (m ∷ ms) → Heard p 0 k ⊎ Memᴰ k ms
        by (inl y) = inl (older k y)
        by (inr y) = on (Memᴰ.cases_cons y)

    -- it was taken already
    skipped : held_by (lived (new_party 1 0 0 a plan) rs).party 0 m ≡ true → Waits a plan x rs ms
    skipped e = record {
      life = w.life;
      own = w.own;
      start = w.start;
      made = λ k h. w.made k (Memᴰ.tail h);
      taken = waits_less (after rs) (held_heard (after rs) 0 m was_sent.number proper (true→T e)) (λ k h. h);
    }

    -- or it is taken now
    fits : Fits (lived (new_party 1 0 0 a plan) rs).party (Taken 0 m)
    fits = fitting_taken (after rs) 0 m (was_sent.number, omega (arith, (le_lived alone regular rs w.life).board.n), proper)

    abbrev new : List Message
    new = (replayed (lived (new_party 1 0 0 a plan) rs).party (Taken 0 m)).made

    took : held_by (lived (new_party 1 0 0 a plan) rs).party 0 m ≡ false → Waits a plan x (Taken 0 m ∷ rs) (ms ++ (replayed (lived (new_party 1 0 0 a plan) rs).party (Taken 0 m)).made)
    unfolding lived
    took e = record {
      life = life;
      own = (w.made m (Memᴰ.head refl), e, w.own);
      start = Memᴰ.tail w.start;
      made = λ k h. made k (Memᴰ.append_cases ms h);
      taken = λ k h. taken k (Memᴰ.append_cases (made_along alone rs) h);
    }
      where
        life : Life alone (Taken 0 m ∷ rs)
        life = (fits, w.life)

        made : (k : Message) → Memᴰ k ms ⊎ Memᴰ k new → Memᴰ k (made_along alone rs ++ new)
        made k (inl h) = Memᴰ.append_left new (w.made k (Memᴰ.tail h))
        made k (inr h) = Memᴰ.append_right (made_along alone rs) h

        older : (k : Message) → Heard (after rs) 0 k → Heard (after (Taken 0 m ∷ rs)) 0 k
        older k h = le_heard (after rs) (after (Taken 0 m ∷ rs)) (le_record alone regular (Taken 0 m) rs life) 0 k h

        old : (k : Message) → Heard (after (Taken 0 m ∷ rs)) 0 k ⊎ Memᴰ k ms → Heard (after (Taken 0 m ∷ rs)) 0 k ⊎ Memᴰ k (ms ++ new)
        old k (inl h) = inl h
        old k (inr h) = inr (Memᴰ.append_left new h)

        taken : (k : Message) → Memᴰ k (made_along alone rs) ⊎ Memᴰ k new → Heard (after (Taken 0 m ∷ rs)) 0 k ⊎ Memᴰ k (ms ++ new)
        taken k (inl h) = old k (waits_less (after (Taken 0 m ∷ rs)) ((taken_heard 1 0 0 a plan tt valid (Taken 0 m ∷ rs) life 0 m).0 (Memᴰ.head refl)) older k h)
        taken k (inr h) = inr (Memᴰ.append_right ms h)

    -- what it made could come before
    fewer : length (replayed (lived (new_party 1 0 0 a plan) rs).party (Taken 0 m)).made + left (Taken 0 m ∷ rs) ≤ left rs
    unfolding lived
    fewer =
        (replayed_within (last_level + 1) (omega arith) (after rs) (sized_lived alone (sized_new 1 0 0 a plan tt valid) rs w.life) (Taken 0 m) fits).messages

  -- ---- all of them

  taken_all : (f : ℕ) (rs : List Record) (ms : List Message) → length ms + left rs ≤ f → Waits a plan x rs ms → (ts : List Record) × Waits a plan x ts []
  taken_all zero rs [] l w = (rs, w)
  taken_all zero rs (m ∷ ms) l w = absurd (omega arith)
  taken_all (suc f) rs [] l w = (rs, w)
  taken_all (suc f) rs (m ∷ ms) l w = go (held_by (after rs) 0 m) refl (taken_all f)
    where
      go : (b : Bool) → held_by (after rs) 0 m ≡ b → ((rs : List Record) (ms : List Message) → length ms + left rs ≤ f → Waits a plan x rs ms → (ts : List Record) × Waits a plan x ts [])
          → (ts : List Record) × Waits a plan x ts []
      go true e ih = ih rs ms (omega arith) (skipped rs m ms w e)
      go false e ih = ih (Taken 0 m ∷ rs) (ms ++ new rs m ms w) (omega (arith, length-append ms (new rs m ms w), fewer rs m ms w)) (took rs m ms w e)

  -- "A board enters level 0 at its start, at its input": nothing is taken, and all that the start made waits
  starts : x < plan.count → Waits a plan x (Start a x ∷ []) (made_along (new_party 1 0 0 a plan) (Start a x ∷ []))
  unfolding lived
  starts h = record {
    life = (fitting_start alone a x (refl, (λ t. subst (λ (l : Level). T l.entered) (new_level 1 0 0 a plan 0 (omega arith)) t), h), tt);
    own = tt;
    start = Memᴰ.head refl;
    made = λ m k. k;
    taken = λ m k. inr k;
  }

  -- A life in which all own messages are taken.
  pub all_taken_lem : x < plan.count → (rs : List Record) × Waits a plan x rs []
  all_taken_lem h =
      let ms : List Message = made_along alone (Start a x ∷ []) in
      taken_all (length ms + left (Start a x ∷ [])) (Start a x ∷ []) ms (omega arith) (starts h)
