-- A level's record with the law is a board of graded consensus, and one at rest has done what its rules ask.
use mathlib.Core.Path.{◌≡◌, refl, sym, ◌∙◌, subst}
use mathlib.Core.Logic.{◌⊎◌, inl, inr}
use mathlib.Core.Bool.{true, false, not}
use Prim.Native.Nat.{ℕ, ◌-◌, ◌*◌, ◌≤◌, ◌<◌}
use native.Mathlib.Nat.{le_refl}
use native.Mathlib.Decide.{ℕ_discrete}
use native.Mathlib.Omega.{arith}
use lib.Dec.{T, eqb, T_not}
use Rattle.base.specs.Sets.{count}
use Rattle.base.proofs.Bools.{true→T}
use Rattle.message.specs.Message.{none_value}
use Rattle.message.specs.declared.Body.{Body}
use Rattle.message.specs.declared.Body.TheVariants.{FirstEcho, FirstProposal, SecondEcho, SecondProposal}
use Rattle.level.specs.declared.Context.{Context}
use Rattle.level.specs.Level.{Level, not_yet}
use Rattle.level.specs.Counts.{weak, strong, may_propose, echoed_by}
use Rattle.graded_consensus.specs.Inner.{Setting, Sound, View, Justified, Settled, Origin}
use Rattle.level_laws.specs.Inner.{Present, Candidate, Law, FirstBy, ResultBy, SentIn, heard_from}
use Rattle.level_laws.proofs.Moves.{AtRest}
use Rattle.level_laws.proofs.Law.{law_first_value}
use Rattle.level_laws.proofs.Messages.{Valued, candidate_low}
use Rattle.level_laws.proofs.Counted.{others_reached, propose_reached, proposed_reached, split_reached, weak_reached, strong_reached, second_reached}
use Rattle.graded_levels.specs.Inner.{Board, board_at, board_of, Heard-any, Digit, Or-none, Own, Done, Shows}

-- ---- from a level's record

module _ (c : Context) (l : Level) (d : Valued c) (h : Law c l) where
  -- a value is none of the two that are no value
  value_there : (v : ℕ) → v ≤ c.degree → Present v
  value_there v k e = omega (arith, d.degree)

  value_low : (v : ℕ) → v ≤ c.degree → v ≤ none_value
  value_low v k = omega (arith, d.degree)

  value_not_none : (v : ℕ) → v ≤ c.degree → v ≡ none_value → ⊥
  value_not_none v k e = omega (arith, d.degree)

  none_there : (v : ℕ) → v ≡ none_value → Present v
  none_there v e i = omega arith

  own_first_echo : (v : ℕ) → SentIn c l (FirstEcho v)
      → (v ≡ c.port) ⊎ ((v ≡ none_value) × (c.t < count c.n (Heard-any (board_of c l) (λ w. not (eqb w c.port)))))
  own_first_echo v (inl x) = inl x.0
  own_first_echo v (inr x) = inr (x.0, (others_reached c l d h.heard).0 (h.echoed_none_lem x.1))

  own_proposal : (v : ℕ) → SentIn c l (FirstProposal v)
      → (v ≤ c.degree) × (c.t < count c.n (heard_from l (FirstEcho v))) × (2 * c.t < count c.n (Or-none (board_of c l) v))
  own_proposal v x =
      let p = h.proposal (λ e. x.0 (sym x.1 ∙ e)) in
      let k : v ≤ c.degree = subst (λ (z : ℕ). z ≤ c.degree) x.1 p.0 in
      let r = (propose_reached c l d h.heard v k).0 (subst (λ (z : ℕ). T (may_propose c l z)) x.1 p.1) in
      (k, r.0, r.1)

  own_first_proposals : l.first ≤ c.degree → c.n - c.t ≤ count c.n (heard_from l (FirstProposal l.first))
  own_first_proposals k = go (h.first (value_there l.first k))
    where
      go : FirstBy c l l.first → c.n - c.t ≤ count c.n (heard_from l (FirstProposal l.first))
      go (inl x) = (proposed_reached c l d h.heard l.first k).0 x.1
      go (inr x) = absurd (value_not_none l.first k x.0)

  own_first_split : l.first ≡ none_value
      → (k : ℕ) × (k < 4) × (c.t < count c.n (Digit (board_of c l) k 0)) × (c.t < count c.n (Digit (board_of c l) k 1))
  own_first_split e = go (h.first (none_there l.first e))
    where
      go : FirstBy c l l.first → (k : ℕ) × (k < 4) × (c.t < count c.n (Digit (board_of c l) k 0)) × (c.t < count c.n (Digit (board_of c l) k 1))
      go (inl x) = absurd (value_not_none l.first x.0 e)
      go (inr x) = (split_reached c l d h.heard).0 x.1

  own_second_echo : (w : ℕ) → SentIn c l (SecondEcho w) → (Present l.first × (l.first ≡ w)) ⊎ (c.t < count c.n (heard_from l (SecondEcho w)))
  own_second_echo w x = go (h.echoed w x)
    where
      go : Present l.first × Candidate c w × ((w ≡ l.first) ⊎ T (echoed_by (weak c) l w))
          → (Present l.first × (l.first ≡ w)) ⊎ (c.t < count c.n (heard_from l (SecondEcho w)))
      go p = by p.2
        where
          by : (w ≡ l.first) ⊎ T (echoed_by (weak c) l w) → (Present l.first × (l.first ≡ w)) ⊎ (c.t < count c.n (heard_from l (SecondEcho w)))
          by (inl e) = inl (p.0, sym e)
          by (inr e) = inr ((weak_reached c l d h.heard w (candidate_low c w d p.1)).0 e)

  own_second_proposal : (w : ℕ) → SentIn c l (SecondProposal w) → Candidate c w × (2 * c.t < count c.n (heard_from l (SecondEcho w)))
  own_second_proposal w x =
      let p = h.second_proposal_lem (λ e. x.0 (sym x.1 ∙ e)) in
      let k : Candidate c w = subst (Candidate c) x.1 p.1 in
      (k, (strong_reached c l d h.heard w (candidate_low c w d k)).0 (subst (λ (z : ℕ). T (echoed_by (strong c) l z)) x.1 p.2))

  own_result_value : ResultBy c l l.result l.sure → Candidate c l.result
  own_result_value (inl x) = inl x.0
  own_result_value (inr (inl x)) = inl x.0
  own_result_value (inr (inr x)) = inr x.0

  own_sure : l.result ≤ c.degree → l.sure ≡ true → ResultBy c l l.result l.sure → c.n - c.t ≤ count c.n (heard_from l (SecondProposal l.result))
  own_sure k s (inl x) = (second_reached c l d h.heard l.result (value_low l.result k)).0 x.2
  own_sure k s (inr (inl x)) = absurd (T_not l.sure x.1 (true→T s))
  own_sure k s (inr (inr x)) = absurd (value_not_none l.result k x.0)

  own_unsure : l.result ≤ c.degree → l.sure ≡ false → ResultBy c l l.result l.sure
      → (c.t < count c.n (heard_from l (SecondEcho none_value))) × (c.t < count c.n (heard_from l (SecondEcho l.result)))
  own_unsure k s (inl x) = absurd (subst T s x.1)
  own_unsure k s (inr (inl x)) =
      ((weak_reached c l d h.heard none_value (le_refl none_value)).0 x.2, (weak_reached c l d h.heard l.result (value_low l.result k)).0 x.3)
  own_unsure k s (inr (inr x)) = absurd (value_not_none l.result k x.0)

  own_none : l.result ≡ none_value → ResultBy c l l.result l.sure → c.n - c.t ≤ count c.n (heard_from l (SecondProposal l.result))
  own_none e (inl x) = absurd (value_not_none l.result x.0 e)
  own_none e (inr (inl x)) = absurd (value_not_none l.result x.0 e)
  own_none e (inr (inr x)) =
      subst (λ (z : ℕ). c.n - c.t ≤ count c.n (heard_from l (SecondProposal z))) (sym e) ((second_reached c l d h.heard none_value (le_refl none_value)).0 x.2)

  -- a record with the law
  pub law_own : Own (board_of c l)
  law_own = record {
    first_echo_lem = own_first_echo;
    proposal = own_proposal;
    proposal_once = λ v w x y. sym x.1 ∙ y.1;
    first_value = law_first_value c l h;
    first_by_proposals = own_first_proposals;
    first_by_split = own_first_split;
    second_echo_lem = own_second_echo;
    second_proposal_lem = own_second_proposal;
    second_proposal_once = λ v w x y. sym x.1 ∙ y.1;
    result_value = λ p. own_result_value (h.result p).1;
    result_sure = λ k s. own_sure k s (h.result (value_there l.result k)).1;
    result_unsure = λ k s. own_unsure k s (h.result (value_there l.result k)).1;
    result_none_lem = λ e. own_none e (h.result (none_there l.result e)).1;
  }

  -- a record to which no rule applies
  pub rest_done : AtRest c l → Done (board_of c l)
  rest_done r = record {
    rule1 = inl (refl, r.port_echo);
    rule2 = λ p. inr (refl, r.none_echo ((others_reached c l d h.heard).1 p));
    rule3 = λ v k p q. (l.proposal, (r.first_proposal_lem v k ((propose_reached c l d h.heard v k).1 (p, q)), refl));
    rule4 = λ v k p. r.first_value v k ((proposed_reached c l d h.heard v k).1 p);
    rule4' = λ k i p q. r.first_none ((split_reached c l d h.heard).1 (k, i, p, q));
    rule5 = r.own_echo;
    rule6 = λ w f k p. r.relay w f k ((weak_reached c l d h.heard w (candidate_low c w d k)).1 p);
    rule7 = λ w f k p. (l.second_proposal, (r.second_proposal_lem w f k ((strong_reached c l d h.heard w (candidate_low c w d k)).1 p), refl));
    rule8 = λ w f k p. r.result_proposals w f k ((second_reached c l d h.heard w (candidate_low c w d k)).1 p);
    rule8' = λ v f k p q u. r.result_echoes v f k
        ((weak_reached c l d h.heard none_value (le_refl none_value)).1 p) ((weak_reached c l d h.heard v (value_low v k)).1 q)
        (λ w i e. u w i ((weak_reached c l d h.heard w (value_low w i)).0 e));
  }

-- ---- boards of a view

shown : (G : Setting) (B : View) (i : ℕ) (c : Context) (l : Level) → Shows G B i c l → board_at G B i ≡ board_of c l
shown G B i c l e j = record {
  n = e.n j;
  t = e.t j;
  d = e.d j;
  K = e.K j;
  port = e.port j;
  heard = e.heard j;
  Sent = e.sent j;
  first = e.first j;
  result = e.result j;
  sure = e.sure j;
}

pub shown_own : (G : Setting) (B : View) (i : ℕ) (c : Context) (l : Level) → Shows G B i c l → Valued c → Law c l → Own (board_at G B i)
shown_own G B i c l e d h = subst Own (sym (shown G B i c l e)) (law_own c l d h)

pub shown_done : (G : Setting) (B : View) (i : ℕ) (c : Context) (l : Level) → Shows G B i c l → Valued c → Law c l → AtRest c l → Done (board_at G B i)
shown_done G B i c l e d h r = subst Done (sym (shown G B i c l e)) (rest_done c l d h r)

-- a board that has made nothing and has no results, as before it enters
pub silent_own : (X : Board) → X.d < none_value → ((b : Body) → X.Sent b → ⊥) → X.first ≡ not_yet → X.result ≡ not_yet → Own X
silent_own X k s f r = record {
  first_echo_lem = λ v m. absurd (s (FirstEcho v) m);
  proposal = λ v m. absurd (s (FirstProposal v) m);
  proposal_once = λ v w m. absurd (s (FirstProposal v) m);
  first_value = λ p. absurd (p f);
  first_by_proposals = λ i. absurd (omega arith);
  first_by_split = λ i. absurd (omega arith);
  second_echo_lem = λ w m. absurd (s (SecondEcho w) m);
  second_proposal_lem = λ w m. absurd (s (SecondProposal w) m);
  second_proposal_once = λ v w m. absurd (s (SecondProposal v) m);
  result_value = λ p. absurd (p r);
  result_sure = λ i. absurd (omega arith);
  result_unsure = λ i. absurd (omega arith);
  result_none_lem = λ i. absurd (omega arith);
}

-- ---- whether a message was made can be told

present_dec : (v : ℕ) → Dec (Present v)
present_dec v = go (ℕ_discrete v not_yet)
  where
    go : Dec (v ≡ not_yet) → Dec (Present v)
    go (yes e) = no (λ p. p e)
    go (no e) = yes e

and_dec : (A B : Type 0) → Dec A → Dec B → Dec (A × B)
and_dec A B (yes a) (yes b) = yes (a, b)
and_dec A B (yes a) (no b) = no (λ x. b x.1)
and_dec A B (no a) y = no (λ x. a x.0)

pub proposes_dec : (c : Context) (l : Level) (v : ℕ) → Dec (SentIn c l (FirstProposal v))
proposes_dec c l v = and_dec (Present v) (l.proposal ≡ v) (present_dec v) (ℕ_discrete l.proposal v)

pub second_proposes_dec : (c : Context) (l : Level) (w : ℕ) → Dec (SentIn c l (SecondProposal w))
second_proposes_dec c l w = and_dec (Present w) (l.second_proposal ≡ w) (present_dec w) (ℕ_discrete l.second_proposal w)

-- ---- all boards of a view

-- what is about one board, and what ties boards together, is all of Justified
pub justified : (G : Setting) (B : View)
    → ((i j : ℕ) (b : Body) → Sound G i → Sound G j → T (B.heard i b j) → B.Sent j b)
    → ((i : ℕ) → Sound G i → B.Entered i → B.port i ≤ G.d)
    → ((i : ℕ) (b : Body) → Sound G i → B.Sent i b → B.Entered i)
    → ((i w : ℕ) → Sound G i → B.Sent i (SecondEcho w) → Origin G B w)
    → ((i : ℕ) → Sound G i → Own (board_at G B i))
    → Justified G B
justified G B wire port_low sender_in second_echo_lem own = record {
  wire = wire;
  port_low = port_low;
  sender_in = sender_in;
  first_echo_lem = λ i v s. (own i s).first_echo_lem v;
  proposal = λ i v s. (own i s).proposal v;
  proposal_once = λ i v w s. (own i s).proposal_once v w;
  first_value = λ i s. (own i s).first_value;
  first_by_proposals = λ i s. (own i s).first_by_proposals;
  first_by_split = λ i s. (own i s).first_by_split;
  second_echo_lem = second_echo_lem;
  second_proposal_lem = λ i w s. (own i s).second_proposal_lem w;
  second_proposal_once = λ i v w s. (own i s).second_proposal_once v w;
  result_value = λ i s. (own i s).result_value;
  result_sure = λ i s. (own i s).result_sure;
  result_unsure = λ i s. (own i s).result_unsure;
  result_none_lem = λ i s. (own i s).result_none_lem;
}

-- and so of Settled
pub settled : (G : Setting) (B : View)
    → ((i j : ℕ) (b : Body) → Sound G i → Sound G j → B.Sent j b → T (B.heard i b j))
    → ((i : ℕ) → Sound G i → B.Entered i → Done (board_at G B i))
    → Settled G B
settled G B taken done = record {
  taken = taken;
  rule1 = λ i s e. (done i s e).rule1;
  rule2 = λ i s e. (done i s e).rule2;
  rule3 = λ i v s e. (done i s e).rule3 v;
  rule4 = λ i v s e. (done i s e).rule4 v;
  rule4' = λ i k s e. (done i s e).rule4' k;
  rule5 = λ i s e. (done i s e).rule5;
  rule6 = λ i w s e. (done i s e).rule6 w;
  rule7 = λ i w s e. (done i s e).rule7 w;
  rule8 = λ i w s e. (done i s e).rule8 w;
  rule8' = λ i v s e. (done i s e).rule8' v;
}
