-- Which messages a level has made, read off its record, and that a rule adds just the message of its effect.
use mathlib.Core.Path.{◌≡◌, refl, sym, ap, ◌∙◌, subst}
use mathlib.Core.Logic.{◌⊎◌, inl, inr, ◌↔◌}
use mathlib.Core.Bool.{Bool, true, false, not, ◌||◌}
use Prim.Native.Nat.{ℕ, ◌≤◌, ◌<◌}
use native.Mathlib.Omega.{arith}
use lib.Dec.{T, leb, eqb, T_not, le→leb}
use lib.ListN.{length, get_or, set}
use lib.Seq.{get_or-set_same}
use Rattle.base.proofs.Bools.{T_and, or_split, or_left, or_right}
use Rattle.message.specs.Message.{none_value, max_value, body_in_table}
use Rattle.message.specs.declared.Body.{Body}
use Rattle.message.specs.declared.Body.TheVariants.{FirstEcho, FirstProposal, SecondEcho, SecondProposal, Side, Centre}
use Rattle.level.specs.declared.Context.{Context}
use Rattle.level.specs.Rules.{Effect}
use Rattle.level.specs.Rules.{Nothing, Quiet, Send, Enter, SendEnter}
use Rattle.level.specs.Level.{Level, value_count, with_heard}
use Rattle.level.specs.Counts.{sided}
use Rattle.level.specs.Rules.{lowest_rule}
use Rattle.level_laws.proofs.Searches.{candidate_small}
use Rattle.level_laws.specs.Inner.{Present, Candidate, Echoed, Law, Untouched, ResultBy, Grows, SentIn, Descends}
use Rattle.level_laws.proofs.Moves.{Move, lowest_all}
pub use Rattle.level_laws.proofs.Moves.{enters}
use Rattle.level_laws.proofs.Moves.{port_echo, none_echo, first_proposal_lem, first_value, first_none, own_echo, relay, second_proposal_lem, sure_result, none_result, unsure_result, centre_output, sure_entry, unsure_entry, centre_message, sided_entry, told_output, next_output_lem}
use Rattle.level_laws.proofs.Law.{Same, law_first_value}
use Rattle.level_laws.proofs.Grows.{grows_refl, flag_set, move_grows, lowest_grows}

-- ---- words

-- the effect makes message b
abbrev pub Makes : Effect → Body → Type 0
Makes Nothing b = ⊥
Makes Quiet b = ⊥
Makes (Send x) b = x ≡ b
Makes (Enter k keep) b = ⊥
Makes (SendEnter k) b = Side k ≡ b

-- the context of the level after the effect
pub record After (c : Context) (e : Effect) (c' : Context) : Type 0 where
  pub same : Same c c'
  pub entered : c'.next_entered ≡ c.next_entered || enters e

-- a level of three positions or more: values are below none, and the port is one
pub record Valued (c : Context) : Type 0 where
  pub port : c.port ≤ c.degree
  pub degree : c.degree < none_value

-- ---- every message that the new record tells of was told of by the old one, or is made by the effect

record Traced (c : Context) (l m : Level) (e : Effect) : Type 0 where
  port_echoed : T m.echoed_port → T l.echoed_port ⊎ (e ≡ Send (FirstEcho c.port))
  none_echoed : T m.echoed_none → T l.echoed_none ⊎ (e ≡ Send (FirstEcho none_value))
  proposed : (m.proposal ≡ l.proposal) ⊎ (e ≡ Send (FirstProposal m.proposal))
  echoed : (w : ℕ) → Echoed m w → Echoed l w ⊎ (e ≡ Send (SecondEcho w))
  second_proposed_lem : (m.second_proposal ≡ l.second_proposal) ⊎ (e ≡ Send (SecondProposal m.second_proposal))
  side : T (c.next_entered || enters e) → m.result < none_value → T (not m.sure)
      → (T c.next_entered × (m.result ≡ l.result) × (m.sure ≡ l.sure)) ⊎ (e ≡ SendEnter m.result)
  told : T m.told_centre → T l.told_centre ⊎ (e ≡ Send Centre)

or_false : (a : Bool) → T (a || false) → T a
or_false true h = tt
or_false false h = h

-- an effect that enters nothing, and a record that tells of the same messages
traced_same : (c : Context) (l : Level) (e : Effect) → enters e ≡ false → Traced c l l e
traced_same c l e i = record {
  port_echoed = inl;
  none_echoed = inl;
  proposed = inl refl;
  echoed = λ w. inl;
  second_proposed_lem = inl refl;
  side = λ h r s. inl (or_false c.next_entered (subst (λ (x : Bool). T (c.next_entered || x)) i h), refl, refl);
  told = inl;
}

-- one more second echo
echo_traced : (l : Level) (w x : ℕ) → T (get_or (set l.echoed w true) x false) → Echoed l x ⊎ (Send (SecondEcho w) ≡ Send (SecondEcho x))
echo_traced l w x h = go (flag_set l.echoed w x h)
  where
    go : (x ≡ w) ⊎ Echoed l x → Echoed l x ⊎ (Send (SecondEcho w) ≡ Send (SecondEcho x))
    go (inl e) = inr (ap (λ (z : ℕ). Send (SecondEcho z)) (sym e))
    go (inr e) = inl e

move_traced : (c : Context) (l : Level) → Descends c l → (m : Level) (e : Effect) → Move c l m e → Traced c l m e
move_traced c l d m e (port_echo p) = let k = traced_same c l (Send (FirstEcho c.port)) refl in record { port_echoed = λ _. inr refl; none_echoed = k.none_echoed; proposed = k.proposed; echoed = k.echoed; second_proposed_lem = k.second_proposed_lem; side = k.side; told = k.told }
move_traced c l d m e (none_echo p q) = let k = traced_same c l (Send (FirstEcho none_value)) refl in record { port_echoed = k.port_echoed; none_echoed = λ _. inr refl; proposed = k.proposed; echoed = k.echoed; second_proposed_lem = k.second_proposed_lem; side = k.side; told = k.told }
move_traced c l d m e (first_proposal_lem v p i q) = let k = traced_same c l (Send (FirstProposal v)) refl in record { port_echoed = k.port_echoed; none_echoed = k.none_echoed; proposed = inr refl; echoed = k.echoed; second_proposed_lem = k.second_proposed_lem; side = k.side; told = k.told }
move_traced c l d m e (first_value v p i q) = let k = traced_same c l Quiet refl in record { port_echoed = k.port_echoed; none_echoed = k.none_echoed; proposed = k.proposed; echoed = k.echoed; second_proposed_lem = k.second_proposed_lem; side = k.side; told = k.told }
move_traced c l d m e (first_none p q) = let k = traced_same c l Quiet refl in record { port_echoed = k.port_echoed; none_echoed = k.none_echoed; proposed = k.proposed; echoed = k.echoed; second_proposed_lem = k.second_proposed_lem; side = k.side; told = k.told }
move_traced c l d m e (own_echo p q) = let k = traced_same c l (Send (SecondEcho l.first)) refl in record { port_echoed = k.port_echoed; none_echoed = k.none_echoed; proposed = k.proposed; echoed = echo_traced l l.first; second_proposed_lem = k.second_proposed_lem; side = k.side; told = k.told }
move_traced c l d m e (relay w p i q r) = let k = traced_same c l (Send (SecondEcho w)) refl in record { port_echoed = k.port_echoed; none_echoed = k.none_echoed; proposed = k.proposed; echoed = echo_traced l w; second_proposed_lem = k.second_proposed_lem; side = k.side; told = k.told }
move_traced c l d m e (second_proposal_lem w p r i q) = let k = traced_same c l (Send (SecondProposal w)) refl in record { port_echoed = k.port_echoed; none_echoed = k.none_echoed; proposed = k.proposed; echoed = k.echoed; second_proposed_lem = inr refl; side = k.side; told = k.told }
move_traced c l d m e (sure_result v p r i q) = let k = traced_same c l Quiet refl in record { port_echoed = k.port_echoed; none_echoed = k.none_echoed; proposed = k.proposed; echoed = k.echoed; second_proposed_lem = k.second_proposed_lem; side = λ h x s. absurd s; told = k.told }
move_traced c l d m e (none_result p r q) = let k = traced_same c l Quiet refl in record { port_echoed = k.port_echoed; none_echoed = k.none_echoed; proposed = k.proposed; echoed = k.echoed; second_proposed_lem = k.second_proposed_lem; side = λ h x s. absurd (d (or_false c.next_entered h) r); told = k.told }
move_traced c l d m e (unsure_result v p r i q q') = let k = traced_same c l Quiet refl in record { port_echoed = k.port_echoed; none_echoed = k.none_echoed; proposed = k.proposed; echoed = k.echoed; second_proposed_lem = k.second_proposed_lem; side = λ h x s. absurd (d (or_false c.next_entered h) r); told = k.told }
move_traced c l d m e (centre_output r o) = let k = traced_same c l Quiet refl in record { port_echoed = k.port_echoed; none_echoed = k.none_echoed; proposed = k.proposed; echoed = k.echoed; second_proposed_lem = k.second_proposed_lem; side = k.side; told = k.told }
move_traced c l d m e (sure_entry r n s) = record { port_echoed = inl; none_echoed = inl; proposed = inl refl; echoed = λ w. inl; second_proposed_lem = inl refl; side = λ h x t. absurd (T_not l.sure t s); told = inl }
move_traced c l d m e (unsure_entry r n s) = record { port_echoed = inl; none_echoed = inl; proposed = inl refl; echoed = λ w. inl; second_proposed_lem = inl refl; side = λ h x t. inr refl; told = inl }
move_traced c l d m e (centre_message r t) = let k = traced_same c l (Send Centre) refl in record { port_echoed = k.port_echoed; none_echoed = k.none_echoed; proposed = k.proposed; echoed = k.echoed; second_proposed_lem = k.second_proposed_lem; side = k.side; told = λ _. inr refl }
move_traced c l d m e (sided_entry k r n a b q) = record { port_echoed = inl; none_echoed = inl; proposed = inl refl; echoed = λ w. inl; second_proposed_lem = inl refl; side = λ h x t. absurd (omega arith); told = inl }
move_traced c l d m e (told_output q o) = let k = traced_same c l Quiet refl in record { port_echoed = k.port_echoed; none_echoed = k.none_echoed; proposed = k.proposed; echoed = k.echoed; second_proposed_lem = k.second_proposed_lem; side = k.side; told = k.told }
move_traced c l d m e (next_output_lem r o x) = let k = traced_same c l Quiet refl in record { port_echoed = k.port_echoed; none_echoed = k.none_echoed; proposed = k.proposed; echoed = k.echoed; second_proposed_lem = k.second_proposed_lem; side = k.side; told = k.told }

-- ---- a message that the new record tells of

-- it was told of by the old record, or is made by the effect
sent_traced : (c c' : Context) (l m : Level) (e : Effect) → After c e c' → Traced c l m e → (b : Body) → SentIn c' m b → SentIn c l b ⊎ Makes e b
sent_traced c c' l m e a t (FirstEcho v) (inl h) = go (t.port_echoed h.1)
  where
    i : v ≡ c.port
    i = h.0 ∙ sym a.same.port

    go : T l.echoed_port ⊎ (e ≡ Send (FirstEcho c.port)) → SentIn c l (FirstEcho v) ⊎ Makes e (FirstEcho v)
    go (inl x) = inl (inl (i, x))
    go (inr x) = inr (subst (λ (z : Effect). Makes z (FirstEcho v)) (sym x) (ap FirstEcho (sym i)))
sent_traced c c' l m e a t (FirstEcho v) (inr h) = go (t.none_echoed h.1)
  where
    go : T l.echoed_none ⊎ (e ≡ Send (FirstEcho none_value)) → SentIn c l (FirstEcho v) ⊎ Makes e (FirstEcho v)
    go (inl x) = inl (inr (h.0, x))
    go (inr x) = inr (subst (λ (z : Effect). Makes z (FirstEcho v)) (sym x) (ap FirstEcho (sym h.0)))
sent_traced c c' l m e a t (FirstProposal v) h = go t.proposed
  where
    go : (m.proposal ≡ l.proposal) ⊎ (e ≡ Send (FirstProposal m.proposal)) → SentIn c l (FirstProposal v) ⊎ Makes e (FirstProposal v)
    go (inl x) = inl (h.0, sym x ∙ h.1)
    go (inr x) = inr (subst (λ (z : Effect). Makes z (FirstProposal v)) (sym x) (ap FirstProposal h.1))
sent_traced c c' l m e a t (SecondEcho w) h = go (t.echoed w h)
  where
    go : Echoed l w ⊎ (e ≡ Send (SecondEcho w)) → Echoed l w ⊎ Makes e (SecondEcho w)
    go (inl x) = inl x
    go (inr x) = inr (subst (λ (z : Effect). Makes z (SecondEcho w)) (sym x) refl)
sent_traced c c' l m e a t (SecondProposal w) h = go t.second_proposed_lem
  where
    go : (m.second_proposal ≡ l.second_proposal) ⊎ (e ≡ Send (SecondProposal m.second_proposal)) → SentIn c l (SecondProposal w) ⊎ Makes e (SecondProposal w)
    go (inl x) = inl (h.0, sym x ∙ h.1)
    go (inr x) = inr (subst (λ (z : Effect). Makes z (SecondProposal w)) (sym x) (ap SecondProposal h.1))
sent_traced c c' l m e a t (Side k) h = go (t.side (subst T a.entered h.2) (subst (λ (x : ℕ). x < none_value) (sym h.0) h.4) h.1)
  where
    go : (T c.next_entered × (m.result ≡ l.result) × (m.sure ≡ l.sure)) ⊎ (e ≡ SendEnter m.result) → SentIn c l (Side k) ⊎ Makes e (Side k)
    go (inl x) = inl (sym x.1 ∙ h.0, subst (λ (z : Bool). T (not z)) x.2 h.1, x.0, h.3, h.4)
    go (inr x) = inr (subst (λ (z : Effect). Makes z (Side k)) (sym x) (ap Side h.0))
sent_traced c c' l m e a t Centre h = go (t.told h)
  where
    go : T l.told_centre ⊎ (e ≡ Send Centre) → T l.told_centre ⊎ Makes e Centre
    go (inl x) = inl x
    go (inr x) = inr (subst (λ (z : Effect). Makes z Centre) (sym x) refl)

-- what the record tells of stays
pub sent_grows : (c c' : Context) (l m : Level) → Same c c' → (T c.next_entered → T c'.next_entered) → Grows l m → (b : Body) → SentIn c l b → SentIn c' m b
sent_grows c c' l m a n g (FirstEcho v) (inl h) = inl (h.0 ∙ a.port, g.echoed_port_lem h.1)
sent_grows c c' l m a n g (FirstEcho v) (inr h) = inr (h.0, g.echoed_none_lem h.1)
sent_grows c c' l m a n g (FirstProposal v) h = (h.0, g.proposal (λ e. h.0 (sym h.1 ∙ e)) ∙ h.1)
sent_grows c c' l m a n g (SecondEcho w) h = g.echoed w h
sent_grows c c' l m a n g (SecondProposal w) h = (h.0, g.second_proposal_lem (λ e. h.0 (sym h.1 ∙ e)) ∙ h.1)
sent_grows c c' l m a n g (Side k) h =
    let p : Present l.result = λ e. let i = h.0 in let j = h.4 in omega arith in
    ((g.result p).0 ∙ h.0, subst (λ (z : Bool). T (not z)) (sym (g.result p).1) h.1, n h.2, h.3, h.4)
sent_grows c c' l m a n g Centre h = g.told h

-- ---- a message that the effect makes

pub candidate_low : (c : Context) (w : ℕ) → Valued c → Candidate c w → w ≤ none_value
candidate_low c w d = candidate_small c w (omega (arith, d.degree))

-- a second echo just made is told of
flag_new : (l : Level) (w : ℕ) → length l.echoed ≡ value_count → w ≤ none_value → T (get_or (set l.echoed w true) w false)
flag_new l w e k = subst T (sym (get_or-set_same l.echoed w true false (omega arith))) tt

-- the new record tells of it
makes_sent : (c c' : Context) (l m : Level) (e : Effect) → Valued c → Law c l → After c e c' → Move c l m e → (b : Body) → Makes e b → SentIn c' m b
makes_sent c c' l m e d h a (port_echo p) b i = subst (SentIn c' m) i (inl (a.same.port, tt))
makes_sent c c' l m e d h a (none_echo p q) b i = subst (SentIn c' m) i (inr (refl, tt))
makes_sent c c' l m e d h a (first_proposal_lem v p k q) b i = subst (SentIn c' m) i ((λ j. let x = d.degree in omega arith), refl)
makes_sent c c' l m e d h a (first_value v p k q) b i = absurd i
makes_sent c c' l m e d h a (first_none p q) b i = absurd i
makes_sent c c' l m e d h a (own_echo p q) b i = subst (SentIn c' m) i (flag_new l l.first h.heard.values (candidate_low c l.first d (law_first_value c l h p)))
makes_sent c c' l m e d h a (relay w p k q r) b i = subst (SentIn c' m) i (flag_new l w h.heard.values (candidate_low c w d k))
makes_sent c c' l m e d h a (second_proposal_lem w p r k q) b i = subst (SentIn c' m) i ((λ j. let x = candidate_low c w d k in omega arith), refl)
makes_sent c c' l m e d h a (sure_result v p r k q) b i = absurd i
makes_sent c c' l m e d h a (none_result p r q) b i = absurd i
makes_sent c c' l m e d h a (unsure_result v p r k q q') b i = absurd i
makes_sent c c' l m e d h a (centre_output r o) b i = absurd i
makes_sent c c' l m e d h a (sure_entry r n s) b i = absurd i
makes_sent c c' l m e d h a (unsure_entry r n s) b i =
    subst (SentIn c' l) i (refl, s, subst T (sym a.entered) (or_right c.next_entered true tt), r.0, r.1)
makes_sent c c' l m e d h a (centre_message r t) b i = subst (SentIn c' m) i tt
makes_sent c c' l m e d h a (sided_entry k r n x y q) b i = absurd i
makes_sent c c' l m e d h a (told_output q o) b i = absurd i
makes_sent c c' l m e d h a (next_output_lem r o x) b i = absurd i

-- the old record did not
makes_new : (c : Context) (l m : Level) (e : Effect) → Valued c → Move c l m e → (b : Body) → Makes e b → SentIn c l b → ⊥
makes_new c l m e d (port_echo p) b i = subst (λ (x : Body). SentIn c l x → ⊥) i go
  where
    go : SentIn c l (FirstEcho c.port) → ⊥
    go (inl s) = T_not l.echoed_port p s.1
    go (inr s) = let x = s.0 in let y = d.port in let z = d.degree in omega arith
makes_new c l m e d (none_echo p q) b i = subst (λ (x : Body). SentIn c l x → ⊥) i go
  where
    go : SentIn c l (FirstEcho none_value) → ⊥
    go (inl s) = let x = s.0 in let y = d.port in let z = d.degree in omega arith
    go (inr s) = T_not l.echoed_none p s.1
makes_new c l m e d (first_proposal_lem v p k q) b i = subst (λ (x : Body). SentIn c l x → ⊥) i (λ s. s.0 (sym s.1 ∙ p))
makes_new c l m e d (first_value v p k q) b i = absurd i
makes_new c l m e d (first_none p q) b i = absurd i
makes_new c l m e d (own_echo p q) b i = subst (λ (x : Body). SentIn c l x → ⊥) i (T_not (get_or l.echoed l.first false) q)
makes_new c l m e d (relay w p k q r) b i = subst (λ (x : Body). SentIn c l x → ⊥) i (T_not (get_or l.echoed w false) r)
makes_new c l m e d (second_proposal_lem w p r k q) b i = subst (λ (x : Body). SentIn c l x → ⊥) i (λ s. s.0 (sym s.1 ∙ r))
makes_new c l m e d (sure_result v p r k q) b i = absurd i
makes_new c l m e d (none_result p r q) b i = absurd i
makes_new c l m e d (unsure_result v p r k q q') b i = absurd i
makes_new c l m e d (centre_output r o) b i = absurd i
makes_new c l m e d (sure_entry r n s) b i = absurd i
makes_new c l m e d (unsure_entry r n s) b i = subst (λ (x : Body). SentIn c l x → ⊥) i (λ t. T_not c.next_entered n t.2)
makes_new c l m e d (centre_message r t) b i = subst (λ (x : Body). SentIn c l x → ⊥) i (T_not l.told_centre t)
makes_new c l m e d (sided_entry k r n x y q) b i = absurd i
makes_new c l m e d (told_output q o) b i = absurd i
makes_new c l m e d (next_output_lem r o x) b i = absurd i

-- ---- one application of the lowest rule

after_nothing : (c c' : Context) → After c Nothing c' → T c.next_entered → T c'.next_entered
after_nothing c c' a h = subst T (sym a.entered) (or_left c.next_entered false h)

-- what one rule, or none, does to the messages that a level's record tells of
pub record Step (c c' : Context) (l m : Level) (e : Effect) : Type 0 where
  pub back : (b : Body) → SentIn c' m b → SentIn c l b ⊎ Makes e b
  pub stays : (b : Body) → SentIn c l b → SentIn c' m b
  pub made : (b : Body) → Makes e b → SentIn c' m b
  pub new : (b : Body) → Makes e b → SentIn c l b → ⊥

move_step : (c c' : Context) (l m : Level) (e : Effect) → Valued c → Law c l → Descends c l → After c e c' → Move c l m e → Step c c' l m e
move_step c c' l m e d h n a x = record {
  back = sent_traced c c' l m e a (move_traced c l n m e x);
  stays = sent_grows c c' l m a.same (λ t. subst T (sym a.entered) (or_left c.next_entered (enters e) t)) (move_grows c l m e x);
  made = makes_sent c c' l m e d h a x;
  new = makes_new c l m e d x;
}

-- the messages after the lowest rule are those before it and the one of its effect, which is new
pub sent_step : (c c' : Context) (l : Level) → Valued c → Law c l → Descends c l → After c (lowest_rule c l).effect c'
    → Step c c' l (lowest_rule c l).level (lowest_rule c l).effect
sent_step c c' l d h n =
    lowest_all c l (λ m e. After c e c' → Step c c' l m e)
    (λ _ a. record {
      back = sent_traced c c' l l Nothing a (traced_same c l Nothing refl);
      stays = sent_grows c c' l l a.same (after_nothing c c' a) (grows_refl l);
      made = λ b i. absurd i;
      new = λ b i. absurd i;
    })
    (λ m e x a. move_step c c' l m e d h n a x)

-- ---- the next level

-- a result that is a value is one of 0 to d
pub result_low : (c : Context) (l : Level) → Law c l → l.result < none_value → l.result ≤ c.degree
result_low c l h k = go (h.result (λ e. omega arith)).1
  where
    go : ResultBy c l l.result l.sure → l.result ≤ c.degree
    go (inl x) = x.0
    go (inr (inl x)) = x.0
    go (inr (inr x)) = let e = x.0 in absurd (omega arith)

-- why the next level is entered, not entered before: a result of value k, sure or not; or none and t+1 side k
pub data Enters (c : Context) (l : Level) : Effect → Type 0 where
  by_sure : (k : ℕ) → l.result ≡ k → 1 ≤ k → k ≤ c.degree → T l.sure → T (not c.next_entered) → Enters c l (Enter k (eqb c.port k))
  by_unsure : (k : ℕ) → l.result ≡ k → 1 ≤ k → k ≤ c.degree → T (not l.sure) → T (not c.next_entered) → Enters c l (SendEnter k)
  by_sides : (k : ℕ) → l.result ≡ none_value → 1 ≤ k → k ≤ c.degree → T (sided c l k) → T (not c.next_entered) → Enters c l (Enter k false)

-- an effect that enters the next level: the record stays as it is and has a result
pub record Entry (c : Context) (l m : Level) (e : Effect) : Type 0 where
  pub same : m ≡ l
  pub result : Present l.result
  pub reason : Enters c l e

move_enters : (c : Context) (l : Level) → Law c l → (m : Level) (e : Effect) → Move c l m e → T (enters e) → Entry c l m e
move_enters c l h m e (port_echo p) i = absurd i
move_enters c l h m e (none_echo p q) i = absurd i
move_enters c l h m e (first_proposal_lem v p k q) i = absurd i
move_enters c l h m e (first_value v p k q) i = absurd i
move_enters c l h m e (first_none p q) i = absurd i
move_enters c l h m e (own_echo p q) i = absurd i
move_enters c l h m e (relay w p k q r) i = absurd i
move_enters c l h m e (second_proposal_lem w p r k q) i = absurd i
move_enters c l h m e (sure_result v p r k q) i = absurd i
move_enters c l h m e (none_result p r q) i = absurd i
move_enters c l h m e (unsure_result v p r k q q') i = absurd i
move_enters c l h m e (centre_output r o) i = absurd i
move_enters c l h m e (sure_entry r n s) i = record { same = refl; result = λ x. omega arith; reason = by_sure l.result refl r.0 (result_low c l h r.1) s n }
move_enters c l h m e (unsure_entry r n s) i = record { same = refl; result = λ x. omega arith; reason = by_unsure l.result refl r.0 (result_low c l h r.1) s n }
move_enters c l h m e (centre_message r t) i = absurd i
move_enters c l h m e (sided_entry k r n x y q) i = record { same = refl; result = λ z. omega arith; reason = by_sides k r x y q n }
move_enters c l h m e (told_output q o) i = absurd i
move_enters c l h m e (next_output_lem r o x) i = absurd i

pub lowest_enters : (c : Context) (l : Level) → Law c l → T (enters (lowest_rule c l).effect) → Entry c l (lowest_rule c l).level (lowest_rule c l).effect
lowest_enters c l h = lowest_all c l (λ m e. T (enters e) → Entry c l m e) (λ _ i. absurd i) (move_enters c l h)

-- the next level is entered only with a result: kept as the record grows
pub descends_grows : (c c' : Context) (l m : Level) → (T c'.next_entered → T c.next_entered) → Grows l m → Descends c l → Descends c' m
descends_grows c c' l m f g d n = let p = d (f n) in λ e. p (sym (g.result p).0 ∙ e)

-- and kept by the rule that enters it
pub descends_lowest : (c c' : Context) (l : Level) → Law c l → After c (lowest_rule c l).effect c' → Descends c l → Descends c' (lowest_rule c l).level
descends_lowest c c' l h a d n = go (or_split c.next_entered (enters (lowest_rule c l).effect) (subst T a.entered n))
  where
    go : T c.next_entered ⊎ T (enters (lowest_rule c l).effect) → Present (lowest_rule c l).level.result
    go (inl x) = descends_grows c c l (lowest_rule c l).level (λ t. t) (lowest_grows c l) d x
    go (inr x) = let y = lowest_enters c l h x in subst (λ (z : Level). Present z.result) (sym y.same) y.result

-- ---- other steps

-- a message taken makes none
pub sent_heard : (c : Context) (l : Level) (b : Body) (s : ℕ) (x : Body) → SentIn c (with_heard l b s) x ↔ SentIn c l x
unfolding with_heard
sent_heard c l b s (FirstEcho v) = ((λ h. h), (λ h. h))
sent_heard c l b s (FirstProposal v) = ((λ h. h), (λ h. h))
sent_heard c l b s (SecondEcho v) = ((λ h. h), (λ h. h))
sent_heard c l b s (SecondProposal v) = ((λ h. h), (λ h. h))
sent_heard c l b s (Side v) = ((λ h. h), (λ h. h))
sent_heard c l b s Centre = ((λ h. h), (λ h. h))

-- nothing is told of where nothing was made
pub untouched_sent : (c : Context) (l : Level) → Untouched l → (b : Body) → SentIn c l b → ⊥
untouched_sent c l u (FirstEcho v) (inl h) = T_not l.echoed_port u.echoed_port_lem h.1
untouched_sent c l u (FirstEcho v) (inr h) = T_not l.echoed_none u.echoed_none_lem h.1
untouched_sent c l u (FirstProposal v) h = h.0 (sym h.1 ∙ u.proposal)
untouched_sent c l u (SecondEcho w) h = u.echoed w h
untouched_sent c l u (SecondProposal w) h = h.0 (sym h.1 ∙ u.second_proposal_lem)
untouched_sent c l u (Side k) h = let i = h.0 in let j = h.4 in let r = u.result in omega arith
untouched_sent c l u Centre h = T_not l.told_centre u.told h

-- a context that says the same of this level and of the next one's entry
pub sent_context : (c c' : Context) (l : Level) → Same c c' → c.next_entered ≡ c'.next_entered → (b : Body) → SentIn c l b → SentIn c' l b
sent_context c c' l a n = sent_grows c c' l l a (subst T n) (grows_refl l)

-- the messages that a record tells of are in the table
pub sent_table : (c : Context) (l : Level) → Valued c → Law c l → (b : Body) → SentIn c l b → T (body_in_table b)
sent_table c l d h (FirstEcho v) (inl x) = le→leb v none_value (let i = x.0 in omega (arith, d.port, d.degree))
sent_table c l d h (FirstEcho v) (inr x) = le→leb v none_value (let i = x.0 in omega arith)
sent_table c l d h (FirstProposal v) x =
    le→leb v max_value (let i = x.1 in omega (arith, d.degree, (h.proposal (λ e. x.0 (sym x.1 ∙ e))).0))
sent_table c l d h (SecondEcho w) x = le→leb w none_value (candidate_low c w d (h.echoed w x).1)
sent_table c l d h (SecondProposal w) x =
    le→leb w none_value (candidate_low c w d (subst (Candidate c) x.1 (h.second_proposal_lem (λ e. x.0 (sym x.1 ∙ e))).1))
sent_table c l d h (Side k) x = T_and (leb 1 k) (leb k max_value) (le→leb 1 k x.3) (le→leb k max_value (let j = x.4 in omega arith))
sent_table c l d h Centre x = tt
