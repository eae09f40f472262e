-- Runs of rules: they end with no rule that applies, and within the bounds on rules, messages and bytes.
use mathlib.Core.Path.{◌≡◌, refl, sym, ap, ◌∙◌, subst}
use mathlib.Core.Logic.{◌⊎◌, inl, inr}
use mathlib.Core.Bool.{Bool, true, false}
use mathlib.Core.List.Memᴰ
use mathlib.Core.List.{List, [], ◌∷◌, Memᴰ}
use Prim.Native.Nat.{ℕ, zero, suc, ◌+◌, ◌*◌, ◌≤◌, ◌<◌}
use native.Mathlib.Nat.{mul-suc, mul-add, mul-le-mul_left}
use native.Mathlib.Omega.{arith}
use lib.Dec.{T, ltb, ltb→lt, lt→ltb}
use lib.ListN.{length, length-append}
use Rattle.base.specs.Pick.{pick}
use Rattle.base.specs.Limits.{last_level, level_count}
use Rattle.base.proofs.Bools.{T_and}
use Rattle.base.proofs.Smallest.{sought, found}
use Rattle.message.specs.declared.Message.{Message}
use Rattle.message.specs.Message.{in_table, message_bytes}
use Rattle.level.specs.Rules.{Effect}
use Rattle.level.specs.Rules.{Nothing, Quiet, Send, Enter, SendEnter}
use Rattle.level.specs.Rules.{applies}
use Rattle.level_laws.proofs.Moves.{AtRest, lowest_rest}
use Rattle.party.specs.Party.{Party, level_at, sending, context_of}
use Rattle.party.specs.Run.{Ran, rule_at, open_at, open_level, made_by, step_at, resting, one_more, run_up_to, bytes_of}
use Rattle.party_laws.proofs.Laws.{Formed, sending_level, open_sending, open_level_lem, step_kept}
use Rattle.party_bounds.proofs.Sized.{Sized, sized_step}
use Rattle.party_bounds.proofs.Steps.{rules_left, messages_left, Proper, open_last, step_rules, step_messages, step_proper}

-- ---- what holds of runs

-- a run is nothing, or one rule and a run
pub runs_all : (Q : Party → Type 0) → ((p : Party) (i : ℕ) → Q p → T (open_at p i) → Q (step_at p i))
    → (P : Party → Ran → Type 0) → ((p : Party) → Q p → P p (resting p))
    → ((p : Party) (i : ℕ) → Q p → T (open_at p i) → (r : Ran) → P (step_at p i) r → P p (one_more (made_by p.agreement i (rule_at p i).effect) r))
    → (f : ℕ) (p : Party) → Q p → P p (run_up_to f p)
unfolding run_up_to
runs_all Q step P rest more zero p q = rest p q
runs_all Q step P rest more (suc f) p q = go (ltb (open_level p) level_count) refl (runs_all Q step P rest more f (step_at p (open_level p)))
  where
    next : Ran
    next = run_up_to f (step_at p (open_level p))

    go : (b : Bool) → ltb (open_level p) level_count ≡ b → (Q (step_at p (open_level p)) → P (step_at p (open_level p)) next)
        → P p (pick b (one_more (made_by p.agreement (open_level p) (rule_at p (open_level p)).effect) next) (resting p))
    go true e ih =
        let o : T (open_at p (open_level p)) = open_level_lem p (ltb→lt (open_level p) level_count (subst T (sym e) tt)) in
        more p (open_level p) q o next (ih (step p (open_level p) q o))
    go false e ih = rest p q

-- ---- no rule applies

abbrev pub Quiescent : Party → Type 0
Quiescent p = open_level p ≡ level_count

-- at no level
pub quiescent_levels : (p : Party) → Formed p → Quiescent p → (i : ℕ) → T (open_at p i) → ⊥
unfolding open_level
quiescent_levels p w q i h =
    let s = sending_level p w i (open_sending p i h) in
    omega (arith, (found level_count (open_at p) i (omega (arith, s.last)) h).1)

-- the search for a level found none
none_quiescent : (p : Party) → (open_level p < level_count → ⊥) → Quiescent p
unfolding open_level
none_quiescent p d = omega (arith, d, (sought level_count (open_at p)).most)

pub levels_quiescent : (p : Party) → ((i : ℕ) → T (open_at p i) → ⊥) → Quiescent p
levels_quiescent p d = none_quiescent p (λ l. d (open_level p) (open_level_lem p l))

inert : (e : Effect) → (T (applies e) → ⊥) → e ≡ Nothing
inert Nothing d = refl
inert Quiet d = absurd (d tt)
inert (Send b) d = absurd (d tt)
inert (Enter k keep) d = absurd (d tt)
inert (SendEnter k) d = absurd (d tt)

-- so each level that sends is at rest
pub quiescent_rest : (p : Party) → Formed p → Quiescent p → (i : ℕ) → T (sending p i) → AtRest (context_of p i) (level_at p i)
unfolding open_at rule_at
quiescent_rest p w q i s =
    lowest_rest (context_of p i) (level_at p i)
    (inert (rule_at p i).effect (λ a. quiescent_levels p w q i (T_and (sending p i) (applies (rule_at p i).effect) s a)))

-- ---- bytes

-- messages of at most b bytes each
pub bytes_most : (b : ℕ) (ms : List Message) → ((m : Message) → Memᴰ m ms → length (message_bytes m) ≤ b) → length (bytes_of ms) ≤ b * length ms
unfolding bytes_of
bytes_most b [] h = omega arith
bytes_most b (m ∷ ms) h =
    omega (
      arith,
      length-append (message_bytes m) (bytes_of ms),
      h m (Memᴰ.head refl),
      bytes_most b ms (λ x k. h x (Memᴰ.tail k)),
      mul-suc b (length ms),
    )

-- a party to which no rule applies stays as it is
stopped : (p : Party) → Quiescent p → (f : ℕ) → run_up_to (suc f) p ≡ resting p
unfolding run_up_to
stopped p q f = ap (λ (b : Bool). pick b (one_more (made_by p.agreement (open_level p) (rule_at p (open_level p)).effect) (run_up_to f (step_at p (open_level p)))) (resting p))
    (ap (λ (x : ℕ). ltb x level_count) q)

-- ---- the bounds

-- what r took from the measures of p's first L levels, and what it made
pub record Within (L : ℕ) (p : Party) (r : Ran) : Type 0 where
  pub rules : r.rules + rules_left L r.party ≤ rules_left L p
  pub messages : length r.made + messages_left L r.party ≤ messages_left L p
  pub proper : (m : Message) → Memᴰ m r.made → Proper p m
  pub agreement : r.party.agreement ≡ p.agreement

pub within_resting : (L : ℕ) (p : Party) → Within L p (resting p)
within_resting L p = record { rules = omega arith; messages = omega arith; proper = λ m h. absurd (Memᴰ.not-nil h); agreement = refl }

-- the first L levels hold every level that sends
module _ (L : ℕ) (all : last_level < L) where
  within_more : (p : Party) (i : ℕ) → Sized p → T (open_at p i) → (r : Ran) → Within L (step_at p i) r → Within L p (one_more (made_by p.agreement i (rule_at p i).effect) r)
  within_more p i z o r w =
      let ms : List Message = made_by p.agreement i (rule_at p i).effect in
      let l : i < L = omega (arith, open_last p z i o) in
      record {
        rules = omega (arith, w.rules, step_rules p z i o L l);
        messages = omega (arith, w.messages, step_messages p z i o L l, length-append ms r.made);
        proper = λ m h. either m (Memᴰ.append_cases ms h);
        agreement = w.agreement ∙ (step_kept p i o).0.board.agreement;
      }
    where
      either : (m : Message) → Memᴰ m (made_by p.agreement i (rule_at p i).effect) ⊎ Memᴰ m r.made → Proper p m
      either m (inl h) = step_proper p z i o m h
      either m (inr h) = let x = w.proper m h in (x.0, x.1 ∙ (step_kept p i o).0.board.agreement)

  pub runs_within : (f : ℕ) (p : Party) → Sized p → Within L p (run_up_to f p)
  runs_within f p z = runs_all Sized (λ q i s. sized_step q s i) (Within L) (λ q _. within_resting L q) within_more f p z

  -- with as much fuel as there are rules left, no rule applies in the end
  pub runs_quiescent : (f : ℕ) (p : Party) → Sized p → rules_left L p ≤ f → Quiescent (run_up_to f p).party
  unfolding run_up_to
  runs_quiescent zero p z h = levels_quiescent p (λ i o. omega (arith, step_rules p z i o L (omega (arith, open_last p z i o))))
  runs_quiescent (suc f) p z h = go (ltb (open_level p) level_count) refl (runs_quiescent f (step_at p (open_level p)))
    where
      next : Ran
      next = run_up_to f (step_at p (open_level p))

      go : (b : Bool) → ltb (open_level p) level_count ≡ b
          → (Sized (step_at p (open_level p)) → rules_left L (step_at p (open_level p)) ≤ f → Quiescent next.party)
          → Quiescent (pick b (one_more (made_by p.agreement (open_level p) (rule_at p (open_level p)).effect) next) (resting p)).party
      go true e ih =
          let o : T (open_at p (open_level p)) = open_level_lem p (ltb→lt (open_level p) level_count (subst T (sym e) tt)) in
          ih (sized_step p z (open_level p) o) (omega (arith, step_rules p z (open_level p) o L (omega (arith, open_last p z (open_level p) o))))
      go false e ih = none_quiescent p (λ l. subst T e (lt→ltb (open_level p) level_count l))

  -- more fuel than rules left changes nothing
  pub runs_same : (f g : ℕ) (p : Party) → Sized p → rules_left L p ≤ f → rules_left L p ≤ g → run_up_to f p ≡ run_up_to g p
  unfolding run_up_to
  runs_same zero zero p z h k = refl
  runs_same zero (suc g) p z h k = sym (stopped p (runs_quiescent zero p z h) g)
  runs_same (suc f) zero p z h k = stopped p (runs_quiescent zero p z k) f
  runs_same (suc f) (suc g) p z h k = go (ltb (open_level p) level_count) refl (runs_same f g (step_at p (open_level p)))
    where
      next : ℕ → Ran
      next x = one_more (made_by p.agreement (open_level p) (rule_at p (open_level p)).effect) (run_up_to x (step_at p (open_level p)))

      go : (b : Bool) → ltb (open_level p) level_count ≡ b
          → (Sized (step_at p (open_level p)) → rules_left L (step_at p (open_level p)) ≤ f → rules_left L (step_at p (open_level p)) ≤ g
          → run_up_to f (step_at p (open_level p)) ≡ run_up_to g (step_at p (open_level p)))
          → pick b (next f) (resting p) ≡ pick b (next g) (resting p)
      go true e ih =
          let o : T (open_at p (open_level p)) = open_level_lem p (ltb→lt (open_level p) level_count (subst T (sym e) tt)) in
          let l = step_rules p z (open_level p) o L (omega (arith, open_last p z (open_level p) o)) in
          ap (one_more (made_by p.agreement (open_level p) (rule_at p (open_level p)).effect)) (ih (sized_step p z (open_level p) o) (omega arith) (omega arith))
      go false e ih = refl

-- ---- bytes, where a message of the table has at most b

module _ (b : ℕ) (short : (m : Message) → T (in_table m) → length (message_bytes m) ≤ b) where
  -- bytes made, and those of k messages still to come, where both together are at most n messages
  room : (ms : List Message) (k n : ℕ) → ((m : Message) → Memᴰ m ms → T (in_table m)) → length ms + k ≤ n → length (bytes_of ms) + b * k ≤ b * n
  room ms k n t h =
      omega (arith, bytes_most b ms (λ m x. short m (t m x)), mul-le-mul_left b h, mul-add b (length ms) k)

  -- the messages of a run, and all that may come after it
  pub within_bytes : (L : ℕ) (p : Party) (r : Ran) → Within L p r
      → length (bytes_of r.made) + b * messages_left L r.party ≤ b * messages_left L p
  within_bytes L p r w = room r.made (messages_left L r.party) (messages_left L p) (λ m h. (w.proper m h).0) w.messages
