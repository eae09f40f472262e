-- The rules of a level as a relation: a case for each way a rule applies, with what it asked; and what is so where none applies.
use mathlib.Core.Path.{◌≡◌, refl, sym, subst}
use mathlib.Core.Bool.{Bool, true, false, not, ◌&&◌}
use Prim.Native.Nat.{ℕ, ◌+◌, ◌-◌, ◌≤◌, ◌<◌}
use native.Mathlib.Omega.{arith}
use lib.Dec.{T, leb, ltb, eqb, leb→le, le→leb, ltb→lt, lt→ltb, eqb→eq}
use lib.ListN.{get_or}
use Rattle.base.specs.Pick.{pick, smallest}
use Rattle.base.specs.Sets.{count}
use Rattle.base.proofs.Bools.{T_and, T-left, T-right, not_not, true→T, false→not-T}
use Rattle.base.proofs.Counts.{member}
use Rattle.base.proofs.Smallest.{sought, found}
use Rattle.message.specs.Message.{none_value}
use Rattle.message.specs.declared.Body.TheVariants.{FirstEcho, FirstProposal, SecondEcho, SecondProposal, Centre}
use Rattle.level.specs.declared.Context.{Context}
use Rattle.level.specs.Rules.{Effect}
use Rattle.level.specs.Rules.{Nothing, Quiet, Send, Enter, SendEnter}
use Rattle.level.specs.Level.{Level, senders, not_yet, no_output, with_port_echo, with_none_echo, with_proposal, with_first, with_second_echo, with_second_proposal, with_result, with_output, with_centre_told}
use Rattle.level.specs.Counts.{weak, strong, candidate, other_echoes, at_least, may_propose, proposed, split, echoed_by, second_proposed, echoed_values, sided}
use Rattle.level.specs.Rules.{Applied, idle, does, when, missing, present, unanswered, aside, result_none, smallest_value, is_value, first_candidate, is_candidate, applies, or_else, rule1, rule2, rule3, rule4, rule5, rule6, rule7, rule8, rule9, rule10, rule11, rule12, rule13, rule14, lowest_rule}
use Rattle.level_laws.proofs.Searches.{eq→eqb, ne→neqb, neqb→ne, candidate_is, candidate_hit, candidate_found, value_hit, value_found, count_alone}
pub use Rattle.level_laws.specs.Inner.{Present, Answered, Aside, Echoed, Candidate}

-- ---- words

-- the effect enters the next level
abbrev pub enters : Effect → Bool
enters Nothing = false
enters Quiet = false
enters (Send b) = false
enters (Enter k keep) = true
enters (SendEnter k) = true

-- ---- the cases

-- a rule applied to the record l in context c: the record and the effect that it comes to, and what it asked
pub data Move (c : Context) (l : Level) : Level → Effect → Type 0 where
  -- rule 1
  port_echo : T (not l.echoed_port) → Move c l (with_port_echo l) (Send (FirstEcho c.port))
  -- rule 2
  none_echo : T (not l.echoed_none) → T (at_least (weak c) (other_echoes c l)) → Move c l (with_none_echo l) (Send (FirstEcho none_value))
  -- rule 3
  first_proposal_lem : (v : ℕ) → l.proposal ≡ not_yet → v ≤ c.degree → T (may_propose c l v) → Move c l (with_proposal l v) (Send (FirstProposal v))
  -- rule 4, by first proposals
  first_value : (v : ℕ) → l.first ≡ not_yet → v ≤ c.degree → T (proposed c l v) → Move c l (with_first l v) Quiet
  -- rule 4, else
  first_none : l.first ≡ not_yet → T (split c l) → Move c l (with_first l none_value) Quiet
  -- rule 5
  own_echo : Present l.first → T (not (get_or l.echoed l.first false)) → Move c l (with_second_echo l l.first) (Send (SecondEcho l.first))
  -- rule 6
  relay : (w : ℕ) → Present l.first → Candidate c w → T (echoed_by (weak c) l w) → T (not (get_or l.echoed w false))
      → Move c l (with_second_echo l w) (Send (SecondEcho w))
  -- rule 7
  second_proposal_lem : (w : ℕ) → Present l.first → l.second_proposal ≡ not_yet → Candidate c w → T (echoed_by (strong c) l w)
      → Move c l (with_second_proposal l w) (Send (SecondProposal w))
  -- rule 8, by second proposals of a value
  sure_result : (v : ℕ) → Present l.first → l.result ≡ not_yet → v ≤ c.degree → T (second_proposed c l v) → Move c l (with_result l v true) Quiet
  -- rule 8, by second proposals of none
  none_result : Present l.first → l.result ≡ not_yet → T (second_proposed c l none_value) → Move c l (with_result l none_value false) Quiet
  -- rule 8, by second echoes
  unsure_result : (v : ℕ) → Present l.first → l.result ≡ not_yet → v ≤ c.degree → T (echoed_by (weak c) l none_value) → T (echoed_by (weak c) l v)
      → Move c l (with_result l v false) Quiet
  -- rule 9
  centre_output : l.result ≡ 0 → l.output ≡ no_output → Move c l (with_output l c.centre) Quiet
  -- rule 10 at grade 2
  sure_entry : Aside l → T (not c.next_entered) → T l.sure → Move c l l (Enter l.result (eqb c.port l.result))
  -- rule 10 at grade 1
  unsure_entry : Aside l → T (not c.next_entered) → T (not l.sure) → Move c l l (SendEnter l.result)
  -- rule 11
  centre_message : l.result ≡ none_value → T (not l.told_centre)
      → Move c l (with_centre_told l (pick (unanswered l) c.centre l.output)) (Send Centre)
  -- rule 12
  sided_entry : (k : ℕ) → l.result ≡ none_value → T (not c.next_entered) → 1 ≤ k → k ≤ c.degree → T (sided c l k) → Move c l l (Enter k false)
  -- rule 13
  told_output : T (at_least (weak c) (senders l Centre)) → l.output ≡ no_output → Move c l (with_output l c.centre) Quiet
  -- rule 14
  next_output_lem : Aside l → l.output ≡ no_output → (c.next_output ≡ no_output → ⊥) → Move c l (with_output l c.next_output) Quiet

-- no rule applies to the record l in context c: a clause for each case, result_proposals and result_echoes for rule 8 and entry for rule 10
pub record AtRest (c : Context) (l : Level) : Type 0 where
  pub port_echo : T l.echoed_port
  pub none_echo : T (at_least (weak c) (other_echoes c l)) → T l.echoed_none
  pub first_proposal_lem : (v : ℕ) → v ≤ c.degree → T (may_propose c l v) → Present l.proposal
  pub first_value : (v : ℕ) → v ≤ c.degree → T (proposed c l v) → Present l.first
  pub first_none : T (split c l) → Present l.first
  pub own_echo : Present l.first → Echoed l l.first
  pub relay : (w : ℕ) → Present l.first → Candidate c w → T (echoed_by (weak c) l w) → Echoed l w
  pub second_proposal_lem : (w : ℕ) → Present l.first → Candidate c w → T (echoed_by (strong c) l w) → Present l.second_proposal
  pub result_proposals : (w : ℕ) → Present l.first → Candidate c w → T (second_proposed c l w) → Present l.result
  pub result_echoes : (v : ℕ) → Present l.first → v ≤ c.degree → T (echoed_by (weak c) l none_value) → T (echoed_by (weak c) l v)
      → ((w : ℕ) → w ≤ c.degree → T (echoed_by (weak c) l w) → w ≡ v) → Present l.result
  pub centre_output : l.result ≡ 0 → Answered l
  pub entry : Aside l → T c.next_entered
  pub centre_message : l.result ≡ none_value → T l.told_centre
  pub sided_entry : (k : ℕ) → l.result ≡ none_value → 1 ≤ k → k ≤ c.degree → T (sided c l k) → T c.next_entered
  pub told_output : T (at_least (weak c) (senders l Centre)) → Answered l
  pub next_output_lem : Aside l → (c.next_output ≡ no_output → ⊥) → Answered l

-- ---- words as the rules test them

-- the rules' test of a result of value 1 or more tells it
pub aside→ : (l : Level) → T (aside l) → Aside l
aside→ l h =
    let a : Bool = leb 1 l.result in
    let b : Bool = ltb l.result none_value in
    (leb→le 1 l.result (T-left a b h), ltb→lt l.result none_value (T-right a b h))

-- and such a result passes it
pub →aside : (l : Level) → Aside l → T (aside l)
→aside l h = T_and (leb 1 l.result) (ltb l.result none_value) (le→leb 1 l.result h.0) (lt→ltb l.result none_value h.1)

-- the output that rule 11 leaves: the new one x where there was none
pub told_cases : (l : Level) (x : ℕ) (P : ℕ → Type 0) → (l.output ≡ no_output → P x) → (Answered l → P l.output) → P (pick (unanswered l) x l.output)
told_cases l x P f g = go (unanswered l) refl
  where
    go : (b : Bool) → unanswered l ≡ b → P (pick b x l.output)
    go true e = f (eqb→eq l.output no_output (true→T e))
    go false e = g (λ o. false→not-T e (eq→eqb l.output no_output o))

-- ---- a rule tried: it does not apply and Q is so, or it moves

data Tried (c : Context) (l : Level) (Q : Type 0) : Applied → Type 0 where
  rests : Q → Tried c l Q (idle l)
  moves : {m : Level} {e : Effect} → T (applies e) → Move c l m e → Tried c l Q (does m e)

module _ {c : Context} {l : Level} where
  -- by a test
  tried_when : {Q : Type 0} (b : Bool) (a : Applied) → (T b → Tried c l Q a) → ((T b → ⊥) → Q) → Tried c l Q (when b l a)
  tried_when true a f g = f tt
  tried_when false a f g = rests (g (λ x. x))

  -- by two tests
  tried_and : {Q : Type 0} (b d : Bool) (a : Applied) → (T b → T d → Tried c l Q a) → ((T b → T d → ⊥) → Q) → Tried c l Q (when (b && d) l a)
  tried_and b d a f g = tried_when (b && d) a (λ h. f (T-left b d h) (T-right b d h)) (λ h. g (λ p q. h (T_and b d p q)))

  -- by three
  tried_three : {Q : Type 0} (b d e : Bool) (a : Applied) → (T b → T d → T e → Tried c l Q a) → ((T b → T d → T e → ⊥) → Q)
      → Tried c l Q (when (b && (d && e)) l a)
  tried_three b d e a f g = tried_and b (d && e) a (λ p q. f p (T-left d e q) (T-right d e q)) (λ h. g (λ p q r. h p (T_and d e q r)))

  -- by a test that picks between two
  tried_pick : {Q : Type 0} (b : Bool) (a a' : Applied) → (T b → Tried c l Q a) → ((T b → ⊥) → Tried c l Q a') → Tried c l Q (pick b a a')
  tried_pick true a a' f g = f tt
  tried_pick false a a' f g = g (λ x. x)

  -- one rule, then the others
  tried_else : {P Q : Type 0} (a b : Applied) → Tried c l P a → Tried c l Q b → Tried c l (P × Q) (or_else a b)
  tried_else a b (rests p) (rests q) = rests (p, q)
  tried_else a b (rests p) (moves h m) = moves h m
  tried_else a b (moves {e = Nothing} h m) t = absurd h
  tried_else a b (moves {e = Quiet} h m) t = moves h m
  tried_else a b (moves {e = Send x} h m) t = moves h m
  tried_else a b (moves {e = Enter x y} h m) t = moves h m
  tried_else a b (moves {e = SendEnter x} h m) t = moves h m

  -- a weaker claim
  tried_map : {P Q : Type 0} {a : Applied} → Tried c l P a → (P → Q) → Tried c l Q a
  tried_map (rests p) f = rests (f p)
  tried_map (moves h m) f = moves h m

-- ---- each rule: what is so where it does not apply

module _ (c : Context) (l : Level) where
  tried1 : Tried c l (T l.echoed_port) (rule1 c l)
  unfolding rule1
  tried1 = tried_when (not l.echoed_port) _ (λ p. moves tt (port_echo p)) (not_not l.echoed_port)

  tried2 : Tried c l (T (at_least (weak c) (other_echoes c l)) → T l.echoed_none) (rule2 c l)
  unfolding rule2
  tried2 =
      tried_and (not l.echoed_none) (at_least (weak c) (other_echoes c l)) _
      (λ p q. moves tt (none_echo p q))
      (λ d q. not_not l.echoed_none (λ p. d p q))

  tried3 : Tried c l ((v : ℕ) → v ≤ c.degree → T (may_propose c l v) → Present l.proposal) (rule3 c l)
  unfolding rule3
  tried3 =
      tried_and (missing l.proposal) (is_value c (smallest_value c (may_propose c l))) _
      (λ p q. let w = value_hit c (may_propose c l) q in moves tt (first_proposal_lem _ (eqb→eq l.proposal not_yet p) w.0 w.1))
      (λ d v k q e. d (eq→eqb l.proposal not_yet e) (value_found c (may_propose c l) v k q))

  tried4 : Tried c l (((v : ℕ) → v ≤ c.degree → T (proposed c l v) → Present l.first) × (T (split c l) → Present l.first)) (rule4 c l)
  unfolding rule4
  tried4 =
      tried_when (missing l.first) _
      (λ p. let m : l.first ≡ not_yet = eqb→eq l.first not_yet p in
      tried_pick (is_value c (smallest_value c (proposed c l))) _ _
      (λ q. let w = value_hit c (proposed c l) q in moves tt (first_value _ m w.0 w.1))
      (λ d. tried_when (split c l) _ (λ q. moves tt (first_none m q)) (λ d'. ((λ v k q e. d (value_found c (proposed c l) v k q)), (λ q e. d' q)))))
      (λ d. ((λ v k q e. d (eq→eqb l.first not_yet e)), (λ q e. d (eq→eqb l.first not_yet e))))

  tried5 : Tried c l (Present l.first → Echoed l l.first) (rule5 c l)
  unfolding rule5
  tried5 =
      tried_and (present l.first) (not (get_or l.echoed l.first false)) _
      (λ p q. moves tt (own_echo (neqb→ne l.first not_yet p) q))
      (λ d f. not_not (get_or l.echoed l.first false) (d (ne→neqb l.first not_yet f)))

  tried6 : Tried c l ((w : ℕ) → Present l.first → Candidate c w → T (echoed_by (weak c) l w) → Echoed l w) (rule6 c l)
  unfolding rule6
  tried6 =
      tried_and (present l.first) (is_candidate c (first_candidate c due)) _
      (λ f q. let w : ℕ = candidate c (first_candidate c due) in
      let p : T (due w) = candidate_hit c due q in
      moves tt (relay w (neqb→ne l.first not_yet f) (candidate_is c (first_candidate c due))
      (T-left (echoed_by (weak c) l w) (not (get_or l.echoed w false)) p) (T-right (echoed_by (weak c) l w) (not (get_or l.echoed w false)) p)))
      (λ d w f k p. not_not (get_or l.echoed w false) (λ q.
      d (ne→neqb l.first not_yet f) (candidate_found c due w k (T_and (echoed_by (weak c) l w) (not (get_or l.echoed w false)) p q))))
    where
      due : ℕ → Bool
      due w = echoed_by (weak c) l w && not (get_or l.echoed w false)

  tried7 : Tried c l ((w : ℕ) → Present l.first → Candidate c w → T (echoed_by (strong c) l w) → Present l.second_proposal) (rule7 c l)
  unfolding rule7
  tried7 =
      let p : ℕ → Bool = echoed_by (strong c) l in
      tried_three (present l.first) (missing l.second_proposal) (is_candidate c (first_candidate c p)) _
      (λ f m q. moves tt (second_proposal_lem _ (neqb→ne l.first not_yet f) (eqb→eq l.second_proposal not_yet m) (candidate_is c (first_candidate c p)) (candidate_hit c p q)))
      (λ d w f k q e. d (ne→neqb l.first not_yet f) (eq→eqb l.second_proposal not_yet e) (candidate_found c p w k q))

  tried8 : Tried c l
      (((w : ℕ) → Present l.first → Candidate c w → T (second_proposed c l w) → Present l.result)
      × ((v : ℕ) → Present l.first → v ≤ c.degree → T (echoed_by (weak c) l none_value) → T (echoed_by (weak c) l v)
      → ((w : ℕ) → w ≤ c.degree → T (echoed_by (weak c) l w) → w ≡ v) → Present l.result))
      (rule8 c l)
  unfolding rule8 echoed_values
  tried8 =
      tried_and (present l.first) (missing l.result) _
      (λ p m. let f : Present l.first = neqb→ne l.first not_yet p in
      let r : l.result ≡ not_yet = eqb→eq l.result not_yet m in
      tried_pick (is_candidate c i) _ _
      (λ q. by (is_value c i) refl f r (candidate_hit c (second_proposed c l) q))
      (λ d. tried_and (e none_value) (eqb (count (c.degree + 1) e) 1) _
      (λ n q. let w = value_hit c e (some (eqb→eq (count (c.degree + 1) e) 1 q)) in moves tt (unsure_result _ f r w.0 n w.1))
      (λ d'. (
        (λ w f' k q x. d (candidate_found c (second_proposed c l) w k q)),
        (λ v f' k n q u x. d' n (eq→eqb (count (c.degree + 1) e) 1 (count_alone (c.degree + 1) e v (omega arith) q (λ w z. u w (omega arith))))),
      ))))
      (λ d. (
        (λ w f k q x. d (ne→neqb l.first not_yet f) (eq→eqb l.result not_yet x)),
        (λ v f k n q u x. d (ne→neqb l.first not_yet f) (eq→eqb l.result not_yet x)),
      ))
    where
      i : ℕ
      i = first_candidate c (second_proposed c l)

      e : ℕ → Bool
      e = echoed_by (weak c) l

      some : count (c.degree + 1) e ≡ 1 → T (is_value c (smallest_value c e))
      some h = let w = member (c.degree + 1) e (omega arith) in value_found c e w.0 (omega (arith, w.1)) w.2

      by : {Q : Type 0} (b : Bool) → is_value c i ≡ b → Present l.first → l.result ≡ not_yet → T (second_proposed c l (pick b i none_value))
          → Tried c l Q (does (with_result l (pick b i none_value) b) Quiet)
      by true h f r q = moves tt (sure_result i f r (leb→le i c.degree (true→T h)) q)
      by false h f r q = moves tt (none_result f r q)

  tried9 : Tried c l (l.result ≡ 0 → Answered l) (rule9 c l)
  unfolding rule9
  tried9 =
      tried_and (eqb l.result 0) (unanswered l) _
      (λ p q. moves tt (centre_output (eqb→eq l.result 0 p) (eqb→eq l.output no_output q)))
      (λ d r o. d (eq→eqb l.result 0 r) (eq→eqb l.output no_output o))

  tried10 : Tried c l (Aside l → T c.next_entered) (rule10 c l)
  unfolding rule10
  tried10 =
      tried_and (aside l) (not c.next_entered) _
      (λ p n. by l.sure refl (aside→ l p) n)
      (λ d r. not_not c.next_entered (d (→aside l r)))
    where
      by : {Q : Type 0} (b : Bool) → l.sure ≡ b → Aside l → T (not c.next_entered)
          → Tried c l Q (does l (pick b (Enter l.result (eqb c.port l.result)) (SendEnter l.result)))
      by true h r n = moves tt (sure_entry r n (true→T h))
      by false h r n = moves tt (unsure_entry r n (subst (λ (b : Bool). T (not b)) (sym h) tt))

  tried11 : Tried c l (l.result ≡ none_value → T l.told_centre) (rule11 c l)
  unfolding rule11
  tried11 =
      tried_and (result_none l) (not l.told_centre) _
      (λ p q. moves tt (centre_message (eqb→eq l.result none_value p) q))
      (λ d r. not_not l.told_centre (d (eq→eqb l.result none_value r)))

  tried12 : Tried c l ((k : ℕ) → l.result ≡ none_value → 1 ≤ k → k ≤ c.degree → T (sided c l k) → T c.next_entered) (rule12 c l)
  unfolding rule12
  tried12 =
      let p : ℕ → Bool = λ i. sided c l (i + 1) in
      let s : ℕ = smallest c.degree p in
      tried_three (result_none l) (not c.next_entered) (ltb s c.degree) _
      (λ r n q. let i : s < c.degree = ltb→lt s c.degree q in
      moves tt (sided_entry (s + 1) (eqb→eq l.result none_value r) n (omega arith) (omega arith) ((sought c.degree p).hit i)))
      (λ d k r low high q. not_not c.next_entered (λ n.
      let e : k ≡ k - 1 + 1 = omega arith in
      let f = found c.degree p (k - 1) (omega arith) (subst (λ (z : ℕ). T (sided c l z)) e q) in
      d (eq→eqb l.result none_value r) n (lt→ltb s c.degree f.1)))

  tried13 : Tried c l (T (at_least (weak c) (senders l Centre)) → Answered l) (rule13 c l)
  unfolding rule13
  tried13 =
      tried_and (at_least (weak c) (senders l Centre)) (unanswered l) _
      (λ p q. moves tt (told_output p (eqb→eq l.output no_output q)))
      (λ d p o. d p (eq→eqb l.output no_output o))

  tried14 : Tried c l (Aside l → (c.next_output ≡ no_output → ⊥) → Answered l) (rule14 c l)
  unfolding rule14
  tried14 =
      tried_three (aside l) (unanswered l) (not (eqb c.next_output no_output)) _
      (λ p q x. moves tt (next_output_lem (aside→ l p) (eqb→eq l.output no_output q) (neqb→ne c.next_output no_output x)))
      (λ d r x o. d (→aside l r) (eq→eqb l.output no_output o) (ne→neqb c.next_output no_output x))

  -- ---- the lowest rule

  -- where no rule applies the level is at rest, else the lowest rule made one of the moves
  lowest_cases : Tried c l (AtRest c l) (lowest_rule c l)
  unfolding lowest_rule
  lowest_cases =
      tried_map
      (tried_else (rule1 c l) _ tried1 (tried_else (rule2 c l) _ tried2 (tried_else (rule3 c l) _ tried3 (tried_else (rule4 c l) _ tried4
      (tried_else (rule5 c l) _ tried5 (tried_else (rule6 c l) _ tried6 (tried_else (rule7 c l) _ tried7 (tried_else (rule8 c l) _ tried8
      (tried_else (rule9 c l) _ tried9 (tried_else (rule10 c l) _ tried10 (tried_else (rule11 c l) _ tried11 (tried_else (rule12 c l) _ tried12
      (tried_else (rule13 c l) _ tried13 tried14)))))))))))))
      (λ q. record {
        port_echo = q.0;
        none_echo = q.1.0;
        first_proposal_lem = q.1.1.0;
        first_value = q.1.1.1.0.0;
        first_none = q.1.1.1.0.1;
        own_echo = q.1.1.1.1.0;
        relay = q.1.1.1.1.1.0;
        second_proposal_lem = q.1.1.1.1.1.1.0;
        result_proposals = q.1.1.1.1.1.1.1.0.0;
        result_echoes = q.1.1.1.1.1.1.1.0.1;
        centre_output = q.1.1.1.1.1.1.1.1.0;
        entry = q.1.1.1.1.1.1.1.1.1.0;
        centre_message = q.1.1.1.1.1.1.1.1.1.1.0;
        sided_entry = q.1.1.1.1.1.1.1.1.1.1.1.0;
        told_output = q.1.1.1.1.1.1.1.1.1.1.1.1.0;
        next_output_lem = q.1.1.1.1.1.1.1.1.1.1.1.1.1;
      })

  -- what every move has, and a level at rest, the lowest rule has
  pub lowest_all : (P : Level → Effect → Type 0) → (AtRest c l → P l Nothing) → ((m : Level) (e : Effect) → Move c l m e → P m e)
      → P (lowest_rule c l).level (lowest_rule c l).effect
  lowest_all P f g = go lowest_cases
    where
      go : {a : Applied} → Tried c l (AtRest c l) a → P a.level a.effect
      go (rests q) = f q
      go (moves {m} {e} h x) = g m e x

  -- the lowest rule has the effect Nothing only where no rule applies
  pub lowest_rest : (lowest_rule c l).effect ≡ Nothing → AtRest c l
  lowest_rest = go lowest_cases
    where
      go : {a : Applied} → Tried c l (AtRest c l) a → a.effect ≡ Nothing → AtRest c l
      go (rests q) e = q
      go (moves h x) e = absurd (subst (λ (z : Effect). T (applies z)) e h)

  -- and else makes a move
  pub lowest_moves : T (applies (lowest_rule c l).effect) → Move c l (lowest_rule c l).level (lowest_rule c l).effect
  lowest_moves = lowest_all (λ m e. T (applies e) → Move c l m e) (λ _ h. absurd h) (λ m e x _. x)
