-- What makes messages that are different: each could still be made before, and is made no more after.
use mathlib.Core.Path.{◌≡◌, sym, ap, subst, subst₂}
use mathlib.Core.Logic.{◌⊎◌, inl, inr}
use mathlib.Core.Bool.{Bool, ◌||◌}
use mathlib.Core.List.Memᴰ
use mathlib.Core.List.{List, [], ◌++◌, Memᴰ}
use Prim.Native.Nat.{ℕ, ◌+◌}
use native.Mathlib.Decide.{ℕ_discrete}
use native.Mathlib.Omega.{arith}
use lib.Dec.{T}
use Rattle.base.proofs.Bools.{or_right}
use Rattle.message.specs.declared.Body.{Body}
use Rattle.message.specs.declared.Message.{Message}
use Rattle.level.specs.Rules.{Effect}
use Rattle.level.specs.Rules.{Nothing, Quiet, Send, Enter, SendEnter}
use Rattle.level.specs.Level.{Level}
use Rattle.level_laws.proofs.Moves.{enters}
use Rattle.level_laws.proofs.Messages.{Makes}
use Rattle.level_laws.proofs.Grows.{move_grows}
use Rattle.party.specs.Party.{Party, level_at, context_of}
use Rattle.party.specs.Run.{rule_at, open_at, made_by, step_at}
use Rattle.party_laws.proofs.Laws.{sending_level, open_sending, open_move}
use Rattle.party_bounds.proofs.Measures.{Aged, Ruled}
use Rattle.party_bounds.proofs.Sized.{Sized, open_ruled}
use Rattle.base.specs.Distinct.{Distinct}
use Rattle.base.proofs.Distinct.{distinct_append}
use Rattle.party_once.proofs.Spent.{Spent, spent_stays, stays_grows, stays_later, Spends, move_spends}

-- ---- from a party to a later one

-- level i of p makes message b no more
abbrev pub SpentIn : Party → ℕ → Body → Type 0
SpentIn p i b = Spent (level_at p (i + 1)).entered (level_at p i) b

-- p makes the message no more
abbrev pub SpentAt : Party → Message → Type 0
SpentAt p m = SpentIn p m.level m.body

-- from p to q the messages ms were made
pub record Made (p : Party) (ms : List Message) (q : Party) : Type 0 where
  pub stays : (m : Message) → SpentAt p m → SpentAt q m
  pub new : (m : Message) → Memᴰ m ms → SpentAt p m → ⊥
  pub spent : (m : Message) → Memᴰ m ms → SpentAt q m
  pub distinct : Distinct ms

-- none
none_made : (p q : Party) → ((m : Message) → SpentAt p m → SpentAt q m) → Made p [] q
none_made p q s = record { stays = s; new = λ m h. absurd (Memᴰ.not-nil h); spent = λ m h. absurd (Memᴰ.not-nil h); distinct = tt }

pub made_refl : (p : Party) → Made p [] p
made_refl p = none_made p p (λ m h. h)

-- without a rule
pub made_aged : (p q : Party) → Aged p q → Made p [] q
made_aged p q a =
    none_made p q (λ m h.
    let i : ℕ = m.level in
    subst (λ (n : Bool). Spent n (level_at q i) m.body) (sym (a.entered i))
    (spent_stays (level_at p (i + 1)).entered (level_at p (i + 1)).entered (level_at p i) (level_at q i) (λ n. n)
    (stays_later (level_at p i) (level_at q i) (a.levels i)) m.body h))

-- what was made before is not made again
made_apart : (p q r : Party) (ms ns : List Message) → Made p ms q → Made q ns r → (m : Message) → Memᴰ m ms → Memᴰ m ns → ⊥
made_apart p q r ms ns a b m h k = b.new m k (a.spent m h)

-- one after the other
pub made_trans : (p q r : Party) (ms ns : List Message) → Made p ms q → Made q ns r → Made p (ms ++ ns) r
made_trans p q r ms ns a b = record {
  stays = λ m h. b.stays m (a.stays m h);
  new = λ m h s. first m s (Memᴰ.append_cases ms h);
  spent = λ m h. last m (Memᴰ.append_cases ms h);
  distinct = distinct_append ms ns a.distinct b.distinct (made_apart p q r ms ns a b);
}
  where
    first : (m : Message) → SpentAt p m → Memᴰ m ms ⊎ Memᴰ m ns → ⊥
    first m s (inl h) = a.new m h s
    first m s (inr h) = b.new m h (a.stays m s)

    last : (m : Message) → Memᴰ m ms ⊎ Memᴰ m ns → SpentAt r m
    last m (inl h) = b.stays m (a.spent m h)
    last m (inr h) = b.spent m h

-- ---- the message of one rule

-- it is of the rule's level, and the effect's
made_by_lem : (a i : ℕ) (e : Effect) (m : Message) → Memᴰ m (made_by a i e) → (m.level ≡ i) × Makes e m.body
made_by_lem a i Nothing m h = absurd (Memᴰ.not-nil h)
made_by_lem a i Quiet m h = absurd (Memᴰ.not-nil h)
made_by_lem a i (Send b) m h = let e = Memᴰ.eq_of_singleton h in (ap (λ (x : Message). x.level) e, ap (λ (x : Message). x.body) (sym e))
made_by_lem a i (Enter k keep) m h = absurd (Memᴰ.not-nil h)
made_by_lem a i (SendEnter k) m h = let e = Memᴰ.eq_of_singleton h in (ap (λ (x : Message). x.level) e, ap (λ (x : Message). x.body) (sym e))

-- it is alone
made_distinct : (a i : ℕ) (e : Effect) → Distinct (made_by a i e)
made_distinct a i Nothing = tt
made_distinct a i Quiet = tt
made_distinct a i (Send b) = (Memᴰ.not-nil, tt)
made_distinct a i (Enter k keep) = tt
made_distinct a i (SendEnter k) = (Memᴰ.not-nil, tt)

module _ (p : Party) (z : Sized p) (i : ℕ) (h : T (open_at p i)) where
  -- the rule's level, and the others
  ruled : Ruled p i (rule_at p i).level (enters (rule_at p i).effect) (step_at p i)
  ruled = open_ruled p z.formed i h

  spends : Spends (context_of p i) (level_at p i) (rule_at p i).level (rule_at p i).effect
  unfolding context_of
  spends =
      let s = sending_level p z.formed i (open_sending p i h) in
      move_spends (context_of p i) (level_at p i) s.limits s.level.port (z.echoes i (omega (arith, s.last))) (rule_at p i).level (rule_at p i).effect (open_move p i h)

  -- after the rule its level is as the rule left it
  here : (b : Body) → Spent (enters (rule_at p i).effect || (level_at p (i + 1)).entered) (rule_at p i).level b → SpentIn (step_at p i) i b
  here b s = subst₂ (λ (n : Bool) (l : Level). Spent n l b) (sym ruled.next) (sym ruled.here) s

  stays_here : (b : Body) → SpentIn p i b → SpentIn (step_at p i) i b
  stays_here b s =
      here b
      (spent_stays (level_at p (i + 1)).entered (enters (rule_at p i).effect || (level_at p (i + 1)).entered) (level_at p i) (rule_at p i).level
      (or_right (enters (rule_at p i).effect) (level_at p (i + 1)).entered)
      (stays_grows (level_at p i) (rule_at p i).level (move_grows (context_of p i) (level_at p i) (rule_at p i).level (rule_at p i).effect (open_move p i h))) b s)

  stays_other : (j : ℕ) → (j ≡ i → ⊥) → (b : Body) → SpentIn p j b → SpentIn (step_at p i) j b
  stays_other j d b s =
      subst (λ (n : Bool). Spent n (level_at (step_at p i) j) b) (sym (ruled.entered (j + 1) (λ e. d (omega arith))))
      (spent_stays (level_at p (j + 1)).entered (level_at p (j + 1)).entered (level_at p j) (level_at (step_at p i) j) (λ n. n)
      (stays_later (level_at p j) (level_at (step_at p i) j) (ruled.others j d)) b s)

  step_stays : (j : ℕ) (b : Body) → SpentIn p j b → SpentIn (step_at p i) j b
  step_stays j b s = go (ℕ_discrete j i)
    where
      go : Dec (j ≡ i) → SpentIn (step_at p i) j b
      go (yes e) = subst (λ (k : ℕ). SpentIn (step_at p i) k b) (sym e) (stays_here b (subst (λ (k : ℕ). SpentIn p k b) e s))
      go (no d) = stays_other j d b s

  step_new : (b : Body) → Makes (rule_at p i).effect b → SpentIn p i b → ⊥
  unfolding context_of
  step_new b k = (spends b k).0

  step_spent : (b : Body) → Makes (rule_at p i).effect b → SpentIn (step_at p i) i b
  unfolding context_of
  step_spent b k = here b (spends b k).1

  pub step_made : Made p (made_by p.agreement i (rule_at p i).effect) (step_at p i)
  step_made = record {
    stays = λ m s. step_stays m.level m.body s;
    new = λ m k s.
        let x = made_by_lem p.agreement i (rule_at p i).effect m k in
        step_new m.body x.1 (subst (λ (j : ℕ). SpentIn p j m.body) x.0 s);
    spent = λ m k.
        let x = made_by_lem p.agreement i (rule_at p i).effect m k in
        subst (λ (j : ℕ). SpentIn (step_at p i) j m.body) (sym x.0) (step_spent m.body x.1);
    distinct = made_distinct p.agreement i (rule_at p i).effect;
  }
