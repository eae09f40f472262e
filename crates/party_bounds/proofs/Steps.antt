-- What one rule takes from the measures, and the message that it makes.
use mathlib.Core.Path.{◌≡◌, refl, sym, ap, subst}
use mathlib.Core.Logic.{inl, inr}
use mathlib.Core.List.Memᴰ
use mathlib.Core.List.{Memᴰ}
use Prim.Native.Nat.{ℕ, ◌+◌, ◌*◌, ◌≤◌, ◌<◌}
use native.Mathlib.Omega.{arith}
use lib.Dec.{T, leb, le→leb}
use lib.ListN.{length}
use Rattle.base.specs.Sets.{bit}
use Rattle.base.specs.Limits.{last_level, level_rules, level_messages_worst}
use Rattle.base.proofs.Bools.{T_and, T→true}
use Rattle.message.specs.declared.Body.TheVariants.{Side}
use Rattle.message.specs.declared.Message.{Message}
use Rattle.message.specs.Message.{body_in_table, in_table, none_value, max_value}
use Rattle.level.specs.declared.Context.{Context}
use Rattle.level.specs.Rules.{Effect}
use Rattle.level.specs.Rules.{Nothing, Quiet, Send, Enter, SendEnter}
use Rattle.level.specs.Level.{Level, not_yet}
use Rattle.level.specs.Rules.{applies}
use Rattle.level_laws.proofs.Bounds as Bounds
use Rattle.level_laws.proofs.Moves.{Move}
use Rattle.level_laws.specs.Inner.{Candidate}
use Rattle.level_laws.proofs.Moves.{port_echo, none_echo, first_proposal_lem, first_value, first_none, own_echo, relay, second_proposal_lem, sure_result, none_result, unsure_result, centre_output, sure_entry, unsure_entry, centre_message, sided_entry, told_output, next_output_lem}
use Rattle.party.specs.Party.{Party, level_at, context_of}
use Rattle.party.specs.Run.{rule_at, open_at, made_by, step_at}
use Rattle.party_laws.proofs.Laws.{sending_level, context_centre, open_sending, open_move}
use Rattle.party_bounds.proofs.Measures.{total, total_most, Aged, total_aged, total_ruled, rules_fair, messages_fair}
use Rattle.party_bounds.proofs.Sized.{Sized, position_low, open_applies, open_ruled}

-- the rules that can still be applied at the first L levels, and the messages that can still be made there
abbrev pub rules_left : ℕ → Party → ℕ
rules_left L p = total Bounds.rules_left L p

abbrev pub messages_left : ℕ → Party → ℕ
messages_left L p = total Bounds.messages_left L p

-- "26 rules", "22 worst" for each level
pub rules_most : (L : ℕ) (p : Party) → rules_left L p ≤ level_rules * L
rules_most L p = total_most Bounds.rules_left level_rules Bounds.rules_most L p

pub messages_most : (L : ℕ) (p : Party) → messages_left L p ≤ level_messages_worst * L
messages_most L p = total_most Bounds.messages_left level_messages_worst Bounds.messages_most L p

-- ---- a message taken, and a start

-- neither raises them (Sized.antt's aged_hearing, aged_entered)
pub aged_rules : (L : ℕ) (p q : Party) → Aged p q → rules_left L q ≤ rules_left L p
aged_rules L p q a = total_aged Bounds.rules_left rules_fair L p q a

pub aged_messages : (L : ℕ) (p q : Party) → Aged p q → messages_left L q ≤ messages_left L p
aged_messages L p q a = total_aged Bounds.messages_left messages_fair L p q a

-- ---- the message that a rule makes

-- a message of the table, and of p's vote
abbrev pub Proper : Party → Message → Type 0
Proper p m = T (in_table m) × (m.number ≡ p.agreement)

-- the effect makes a message only of the table
abbrev Tabled : Effect → Type 0
Tabled Nothing = Unit {0}
Tabled Quiet = Unit {0}
Tabled (Send b) = T (body_in_table b)
Tabled (Enter k keep) = Unit {0}
Tabled (SendEnter k) = T (body_in_table (Side k))

candidate_high : (c : Context) (w : ℕ) → c.degree ≤ max_value → Candidate c w → T (leb w none_value)
candidate_high c w d (inl h) = le→leb w none_value (omega arith)
candidate_high c w d (inr e) = le→leb w none_value (omega arith)

move_table : (c : Context) (l m : Level) (e : Effect) → c.degree ≤ max_value → c.port ≤ c.degree → l.first ≤ not_yet → Move c l m e → Tabled e
move_table c l m e d o f (port_echo a) = le→leb c.port none_value (omega arith)
move_table c l m e d o f (none_echo a b) = tt
move_table c l m e d o f (first_proposal_lem v a b q) = le→leb v max_value (omega arith)
move_table c l m e d o f (first_value v a b q) = tt
move_table c l m e d o f (first_none a b) = tt
move_table c l m e d o f (own_echo a b) = le→leb l.first none_value (omega (arith, a))
move_table c l m e d o f (relay w a b q r) = candidate_high c w d b
move_table c l m e d o f (second_proposal_lem w a b q r) = candidate_high c w d q
move_table c l m e d o f (sure_result v a b q r) = tt
move_table c l m e d o f (none_result a b q) = tt
move_table c l m e d o f (unsure_result v a b q r s) = tt
move_table c l m e d o f (centre_output a b) = tt
move_table c l m e d o f (sure_entry a b q) = tt
move_table c l m e d o f (unsure_entry a b q) =
    T_and (leb 1 l.result) (leb l.result max_value) (le→leb 1 l.result a.0) (le→leb l.result max_value (omega (arith, a.1)))
move_table c l m e d o f (centre_message a b) = tt
move_table c l m e d o f (sided_entry k a b q r s) = tt
move_table c l m e d o f (told_output a b) = tt
move_table c l m e d o f (next_output_lem a b q) = tt

-- at most one message, if the effect says so
made_count : (p : Party) (i : ℕ) (e : Effect) → length (made_by p.agreement i e) ≡ bit (Bounds.sends e)
made_count p i Nothing = refl
made_count p i Quiet = refl
made_count p i (Send b) = refl
made_count p i (Enter k keep) = refl
made_count p i (SendEnter k) = refl

made_proper : (p : Party) (i : ℕ) (e : Effect) → i ≤ last_level → Tabled e → (m : Message) → Memᴰ m (made_by p.agreement i e) → Proper p m
made_proper p i Nothing l t m h = absurd (Memᴰ.not-nil h)
made_proper p i Quiet l t m h = absurd (Memᴰ.not-nil h)
made_proper p i (Send b) l t m h =
    let e = Memᴰ.eq_of_singleton h in
    subst (Proper p) (sym e) (T_and (leb i last_level) (body_in_table b) (le→leb i last_level l) t, refl)
made_proper p i (Enter k keep) l t m h = absurd (Memᴰ.not-nil h)
made_proper p i (SendEnter k) l t m h =
    let e = Memᴰ.eq_of_singleton h in
    subst (Proper p) (sym e) (T_and (leb i last_level) (body_in_table (Side k)) (le→leb i last_level l) t, refl)

-- ---- a rule is paid for

module _ (p : Party) (z : Sized p) (i : ℕ) (h : T (open_at p i)) where
  -- a level where a rule applies is one of those that send
  pub open_last : i ≤ last_level
  open_last = (sending_level p z.formed i (open_sending p i h)).last

  bounded : Bounds.Bounded (context_of p i) (level_at p i)
  bounded = record {
    limits = (sending_level p z.formed i (open_sending p i h)).limits;
    centre = position_low p z.formed (context_of p i).centre (context_centre p z.formed i (open_sending p i h));
    echoes = z.echoes i (omega (arith, open_last));
  }

  paid : Bounds.Paid (context_of p i) (level_at p i) (rule_at p i)
  unfolding rule_at
  paid = Bounds.paid (context_of p i) (level_at p i) bounded

  -- one rule less
  pub step_rules : (L : ℕ) → i < L → rules_left L (step_at p i) < rules_left L p
  unfolding context_of
  step_rules L l =
      let a : bit (applies (rule_at p i).effect) ≡ 1 = ap bit (T→true (applies (rule_at p i).effect) (open_applies p i h)) in
      let t = total_ruled Bounds.rules_left rules_fair L p i (rule_at p i).level (Bounds.enters (rule_at p i).effect) (step_at p i) (open_ruled p z.formed i h) l
      (bit (applies (rule_at p i).effect)) paid.rules in
      omega arith

  -- and one message less, if it makes one
  pub step_messages : (L : ℕ) → i < L → length (made_by p.agreement i (rule_at p i).effect) + messages_left L (step_at p i) ≤ messages_left L p
  unfolding context_of
  step_messages L l =
      let t = total_ruled Bounds.messages_left messages_fair L p i (rule_at p i).level (Bounds.enters (rule_at p i).effect) (step_at p i) (open_ruled p z.formed i h) l
      (bit (Bounds.sends (rule_at p i).effect)) paid.messages in
      omega (arith, made_count p i (rule_at p i).effect)

  -- which is of the table and of the vote
  pub step_proper : (m : Message) → Memᴰ m (made_by p.agreement i (rule_at p i).effect) → Proper p m
  unfolding context_of
  step_proper =
      let s = sending_level p z.formed i (open_sending p i h) in
      made_proper p i (rule_at p i).effect open_last
      (move_table (context_of p i) (level_at p i) (rule_at p i).level (rule_at p i).effect s.level.degree s.level.port s.limits.first (open_move p i h))
