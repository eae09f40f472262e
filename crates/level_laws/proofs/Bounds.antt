-- Document 01's bounds for a level: at most 26 rules are applied there and at most 22 messages made, whatever record the level starts with.
-- Every applied rule sets something that no rule clears: rules 1 to 4, 7 and 8 one field each; rules 5 and 6 one second echo of 17;
-- rules 9, 13 and 14 the output; rule 11 that the centre was told; rules 10 and 12 the entry of the next level.
use mathlib.Core.Path.{◌≡◌, refl, sym, subst}
use mathlib.Core.List.{List}
use mathlib.Core.Bool.{Bool, true, false, not, ◌||◌}
use Prim.Native.Nat.{ℕ, ◌+◌, ◌≤◌, ◌<◌}
use native.Mathlib.Nat.{le_refl}
use native.Mathlib.Decide.{ℕ_discrete}
use native.Mathlib.Omega.{arith}
use borrow.Author.Tests.{ne_eqb}
use lib.Dec.{T, eqb, eqb→eq}
use lib.ListN.{length, get_or, set}
use lib.Seq.{get_or-set_same, get_or-set_other}
use Rattle.base.specs.Pick.{pick}
use Rattle.base.specs.Sets.{bit, count}
use Rattle.base.specs.Limits.{level_rules, level_messages_worst}
use Rattle.base.proofs.Bools.{T→true}
use Rattle.base.proofs.Counts.{count_lt, count_le}
use Rattle.message.specs.Message.{none_value}
use Rattle.message.specs.declared.Body.{Body}
use Rattle.message.specs.declared.Body.TheVariants.{SecondEcho}
use Rattle.level.specs.declared.Context.{Context}
use Rattle.level.specs.Rules.{Effect}
use Rattle.level.specs.Rules.{Nothing, Quiet, Send, Enter, SendEnter}
use Rattle.level.specs.Level.{Level, not_yet, no_output, value_count, with_heard, with_entry, with_second_echo, with_result, with_output, with_centre_told}
use Rattle.level.specs.Inner.{InLimits}
use Rattle.level.specs.Rules.{Applied, applies, does, missing, unanswered, aside, result_none, lowest_rule}
use Rattle.level_laws.proofs.Searches.{eq→eqb, candidate_small}
use Rattle.level_laws.proofs.Moves.{Aside, Move, →aside, told_cases, lowest_all}
use Rattle.level_laws.proofs.Moves.{port_echo, none_echo, first_proposal_lem, first_value, first_none, own_echo, relay, second_proposal_lem, sure_result, none_result, unsure_result, centre_output, sure_entry, unsure_entry, centre_message, sided_entry, told_output, next_output_lem}
pub use Rattle.level_laws.proofs.Moves.{enters}

-- the second echoes not made yet
unfoldable pub unechoed : List Bool → ℕ
unechoed l = count value_count (λ w. not (get_or l w false))

-- the rules that can still be applied at a level; next says whether the next level is entered
unfoldable pub rules_left : Bool → Level → ℕ
rules_left next l =
    bit (not l.echoed_port) + bit (not l.echoed_none) + bit (missing l.proposal) + bit (missing l.first) + unechoed l.echoed
    + bit (missing l.second_proposal) + bit (missing l.result) + bit (not l.told_centre) + bit (unanswered l) + bit (not next)

-- the one message of rules 10 and 11, as the result calls for it
unfoldable pub last_message : Bool → Level → ℕ
last_message next l = pick (missing l.result) 1 (pick (aside l) (bit (not next)) (pick (result_none l) (bit (not l.told_centre)) 0))

-- the messages that can still be made at a level
unfoldable pub messages_left : Bool → Level → ℕ
messages_left next l =
    bit (not l.echoed_port) + bit (not l.echoed_none) + bit (missing l.proposal) + unechoed l.echoed
    + bit (missing l.second_proposal) + last_message next l

-- a rule with this effect makes a message
abbrev pub sends : Effect → Bool
sends Nothing = false
sends Quiet = false
sends (Send b) = true
sends (Enter k keep) = false
sends (SendEnter k) = true

-- what the bounds ask of a level and its context besides the limits: the centre is a position, and there are as many second echoes as values
pub record Bounded (c : Context) (l : Level) : Type 0 where
  pub limits : InLimits c l
  pub centre : c.centre < no_output
  pub echoes : length l.echoed ≡ value_count

-- what a rule does is paid for
pub record Paid (c : Context) (l : Level) (a : Applied) : Type 0 where
  pub rules : rules_left (enters a.effect || c.next_entered) a.level + bit (applies a.effect) ≤ rules_left c.next_entered l
  pub messages : messages_left (enters a.effect || c.next_entered) a.level + bit (sends a.effect) ≤ messages_left c.next_entered l

-- ---- bits

bit_on : (b : Bool) → T b → bit b ≡ 1
bit_on true p = refl
bit_on false p = absurd p

bit_off : (b : Bool) → (T b → ⊥) → bit b ≡ 0
bit_off true p = absurd (p tt)
bit_off false p = refl

bit_le : (b : Bool) → bit b ≤ 1
bit_le true = omega arith
bit_le false = omega arith

-- a number that is not set counts 1
bit_equal : (a b : ℕ) → a ≡ b → bit (eqb a b) ≡ 1
bit_equal a b e = bit_on (eqb a b) (eq→eqb a b e)

-- one that is set counts 0
bit_differ : (a b : ℕ) → (a ≡ b → ⊥) → bit (eqb a b) ≡ 0
bit_differ a b d = bit_off (eqb a b) (λ p. d (eqb→eq a b p))

-- a value or none is set
there : (v : ℕ) → v ≤ none_value → bit (missing v) ≡ 0
there v h = bit_differ v not_yet (λ e. omega arith)

-- ---- the measures of any level

pub rules_most : (next : Bool) (l : Level) → rules_left next l ≤ level_rules
unfolding rules_left unechoed
rules_most next l =
    omega (
      arith,
      bit_le (not l.echoed_port),
      bit_le (not l.echoed_none),
      bit_le (missing l.proposal),
      bit_le (missing l.first),
      count_le value_count (λ w. not (get_or l.echoed w false)),
      bit_le (missing l.second_proposal),
      bit_le (missing l.result),
      bit_le (not l.told_centre),
      bit_le (unanswered l),
      bit_le (not next),
    )

last_most : (next : Bool) (l : Level) → last_message next l ≤ 1
unfolding last_message
last_most next l = go (missing l.result) (aside l) (result_none l)
  where
    go : (x y z : Bool) → pick x 1 (pick y (bit (not next)) (pick z (bit (not l.told_centre)) 0)) ≤ 1
    go true y z = omega arith
    go false true z = bit_le (not next)
    go false false true = bit_le (not l.told_centre)
    go false false false = omega arith

pub messages_most : (next : Bool) (l : Level) → messages_left next l ≤ level_messages_worst
unfolding messages_left unechoed
messages_most next l =
    omega (
      arith,
      bit_le (not l.echoed_port),
      bit_le (not l.echoed_none),
      bit_le (missing l.proposal),
      count_le value_count (λ w. not (get_or l.echoed w false)),
      bit_le (missing l.second_proposal),
      last_most next l,
    )

-- a message heard changes neither
pub rules_heard : (next : Bool) (l : Level) (b : Body) (s : ℕ) → rules_left next (with_heard l b s) ≡ rules_left next l
unfolding rules_left with_heard
rules_heard next l b s = refl

pub messages_heard : (next : Bool) (l : Level) (b : Body) (s : ℕ) → messages_left next (with_heard l b s) ≡ messages_left next l
unfolding messages_left last_message with_heard
messages_heard next l b s = refl

-- nor does the entry raise them, where no output was there before
pub rules_entry : (next : Bool) (l : Level) (k x out : ℕ) → T (unanswered l) → rules_left next (with_entry l k x out) ≤ rules_left next l
unfolding rules_left
rules_entry next l k x out p = omega (arith, bit_on (unanswered l) p, bit_le (eqb out no_output))

pub messages_entry : (next : Bool) (l : Level) (k x out : ℕ) → messages_left next (with_entry l k x out) ≡ messages_left next l
unfolding messages_left last_message
messages_entry next l k x out = refl

-- ---- second echoes

-- one more second echo
fewer : (l : List Bool) (w : ℕ) → w < value_count → length l ≡ value_count → T (not (get_or l w false)) → unechoed (set l w true) < unechoed l
unfolding unechoed
fewer l w k n p =
    count_lt value_count (λ i. not (get_or (set l w true) i false)) (λ i. not (get_or l i false)) (λ i _. keep i (ℕ_discrete i w)) w k p (rw same tt)
  where
    same : get_or (set l w true) w false ≡ true
    same = get_or-set_same l w true false (omega arith)

    keep : (i : ℕ) → Dec (i ≡ w) → T (not (get_or (set l w true) i false)) → T (not (get_or l i false))
    keep i (yes e) q = subst (λ (j : ℕ). T (not (get_or l j false))) (sym e) p
    keep i (no d) q = subst (λ (b : Bool). T (not b)) (get_or-set_other l w i true false d) q

-- ---- the last message, by the result

last_missing : (next : Bool) (l : Level) → l.result ≡ not_yet → last_message next l ≡ 1
unfolding last_message
last_missing next l e = rw e

last_aside : (next : Bool) (l : Level) → Aside l → last_message next l ≡ bit (not next)
unfolding last_message
last_aside next l p = rw (ne_eqb l.result not_yet (λ e. omega (arith, p.1)), T→true (aside l) (→aside l p))

last_none : (next : Bool) (l : Level) → l.result ≡ none_value → last_message next l ≡ bit (not l.told_centre)
unfolding last_message
last_none next l e = rw e

-- ---- every rule is paid for

module _ (c : Context) (l : Level) (h : Bounded c l) where
  -- a value 0 to d is there
  value_there : (v : ℕ) → v ≤ c.degree → bit (missing v) ≡ 0
  value_there v k = there v (omega (arith, h.limits.degree))

  centre_there : bit (eqb c.centre no_output) ≡ 0
  centre_there = bit_differ c.centre no_output (λ e. omega (arith, h.centre))

  -- a second echo
  echo_paid : (w : ℕ) → w ≤ none_value → T (not (get_or l.echoed w false)) → Paid c l (does (with_second_echo l w) (Send (SecondEcho w)))
  unfolding rules_left messages_left last_message
  echo_paid w k p = let f = fewer l.echoed w (omega arith) h.echoes p in record { rules = omega arith; messages = omega arith }

  -- the result
  result_paid : (w : ℕ) (two : Bool) → l.result ≡ not_yet → w ≤ none_value → Paid c l (does (with_result l w two) Quiet)
  unfolding rules_left messages_left
  result_paid w two e k =
      let u = bit_equal l.result not_yet e in
      let v = there w k in
      record {
        rules = omega arith;
        messages = omega (arith, last_missing c.next_entered l e, last_most c.next_entered (with_result l w two));
      }

  -- the output
  output_paid : (x : ℕ) → l.output ≡ no_output → bit (eqb x no_output) ≡ 0 → Paid c l (does (with_output l x) Quiet)
  unfolding rules_left messages_left last_message
  output_paid x o e = record { rules = omega (arith, bit_equal l.output no_output o); messages = omega arith }

  -- every move
  pub paid_move : (m : Level) (e : Effect) → Move c l m e → Paid c l (does m e)
  unfolding rules_left messages_left last_message
  paid_move m e (port_echo p) = let u = bit_on (not l.echoed_port) p in record { rules = omega arith; messages = omega arith }
  paid_move m e (none_echo p _) = let u = bit_on (not l.echoed_none) p in record { rules = omega arith; messages = omega arith }
  paid_move m e (first_proposal_lem v p k _) =
      let u = bit_equal l.proposal not_yet p in
      let w = value_there v k in
      record { rules = omega arith; messages = omega arith }
  paid_move m e (first_value v p k _) =
      let u = bit_equal l.first not_yet p in
      let w = value_there v k in
      record { rules = omega arith; messages = omega arith }
  paid_move m e (first_none p _) = let u = bit_equal l.first not_yet p in record { rules = omega arith; messages = omega arith }
  paid_move m e (own_echo p q) =
      let k : l.first ≤ none_value = omega (arith, h.limits.first, p) in
      echo_paid l.first k q
  paid_move m e (relay w _ k _ q) = echo_paid w (candidate_small c w (omega (arith, h.limits.degree)) k) q
  paid_move m e (second_proposal_lem w _ p k _) =
      let u = bit_equal l.second_proposal not_yet p in
      let v = there w (candidate_small c w (omega (arith, h.limits.degree)) k) in
      record { rules = omega arith; messages = omega arith }
  paid_move m e (sure_result v _ r k _) = result_paid v true r (omega (arith, h.limits.degree))
  paid_move m e (none_result _ r _) = result_paid none_value false r (omega arith)
  paid_move m e (unsure_result v _ r k _ _) = result_paid v false r (omega (arith, h.limits.degree))
  paid_move m e (centre_output _ o) = output_paid c.centre o centre_there
  paid_move m e (sure_entry r t _) =
      let n = bit_on (not c.next_entered) t in
      record { rules = omega arith; messages = omega (arith, last_aside true l r, last_aside c.next_entered l r) }
  paid_move m e (unsure_entry r t _) =
      let n = bit_on (not c.next_entered) t in
      record { rules = omega arith; messages = omega (arith, last_aside true l r, last_aside c.next_entered l r) }
  paid_move m e (centre_message r t) =
      let n = bit_on (not l.told_centre) t in
      let o = told_cases l c.centre (λ x. bit (eqb x no_output) ≤ bit (unanswered l)) (λ _. omega (arith, centre_there)) (λ _. le_refl (bit (unanswered l))) in
      record {
        rules = omega arith;
        messages = omega (arith, last_none c.next_entered l r, last_none c.next_entered (with_centre_told l (pick (unanswered l) c.centre l.output)) r);
      }
  paid_move m e (sided_entry k r t _ _ _) =
      let n = bit_on (not c.next_entered) t in
      record { rules = omega arith; messages = omega (arith, last_none true l r, last_none c.next_entered l r) }
  paid_move m e (told_output _ o) = output_paid c.centre o centre_there
  paid_move m e (next_output_lem _ o x) = output_paid c.next_output o (bit_differ c.next_output no_output x)

  -- the lowest rule is paid for
  pub paid : Paid c l (lowest_rule c l)
  unfolding rules_left messages_left last_message
  paid = lowest_all c l (λ m e. Paid c l (does m e)) (λ _. record { rules = omega arith; messages = omega arith }) paid_move

-- an applied rule lowers the first measure, a message made the second
pub rules_fall : (c : Context) (l : Level) → Bounded c l → T (applies (lowest_rule c l).effect)
    → rules_left (enters (lowest_rule c l).effect || c.next_entered) (lowest_rule c l).level < rules_left c.next_entered l
rules_fall c l h t = omega (arith, (paid c l h).rules, bit_on (applies (lowest_rule c l).effect) t)

pub messages_fall : (c : Context) (l : Level) → Bounded c l → T (sends (lowest_rule c l).effect)
    → messages_left (enters (lowest_rule c l).effect || c.next_entered) (lowest_rule c l).level < messages_left c.next_entered l
messages_fall c l h t = omega (arith, (paid c l h).messages, bit_on (sends (lowest_rule c l).effect) t)
