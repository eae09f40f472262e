-- What every level record rests on that came about by the rules, whatever was heard.
use mathlib.Core.Path.{◌≡◌, refl, sym, ap, ◌∙◌, subst}
use mathlib.Core.Logic.{◌⊎◌, inl, inr}
use mathlib.Core.Bool.{Bool, true, false}
use mathlib.Core.List.{List}
use Prim.Native.Nat.{ℕ, zero, suc, ◌^◌, ◌≤◌, ◌<◌}
use native.Mathlib.Omega.{arith}
use lib.Dec.{T, T_not}
use lib.Pow.{pow_pos}
use lib.ListN.{length, get_or, replicate, length-set}
use Rattle.base.specs.Pick.{pick}
use Rattle.message.specs.Message.{none_value}
use Rattle.level.specs.declared.Context.{Context}
use Rattle.level.specs.Rules.{Effect}
use Rattle.level.specs.Level.{Level, senders, not_yet, no_output, value_count, slot_count, blank_level, with_entry, with_port_echo, with_none_echo, with_proposal, with_first, with_second_echo, with_second_proposal, with_result, with_output, with_centre_told}
use Rattle.level.specs.Counts.{weak, strong, other_echoes, at_least, may_propose, proposed, split, split_at, digit_echoes, echoed_by, second_proposed}
use Rattle.level.specs.Rules.{unanswered, lowest_rule}
use Rattle.level_laws.specs.Inner.{Present, Candidate, Echoed, Heard, FirstBy, ResultBy, Law, Untouched}
use Rattle.level_laws.proofs.Moves.{Move, told_cases, lowest_all}
use Rattle.level_laws.proofs.Moves.{port_echo, none_echo, first_proposal_lem, first_value, first_none, own_echo, relay, second_proposal_lem, sure_result, none_result, unsure_result, centre_output, sure_entry, unsure_entry, centre_message, sided_entry, told_output, next_output_lem}
use Rattle.level_laws.proofs.Grows.{flag_set}

-- ---- a level at which nothing was made

replicate_get {ℓ} : {A : Type ℓ} (n i : ℕ) (a : A) → get_or (replicate n a) i a ≡ a
replicate_get zero i a = refl
replicate_get (suc n) zero a = refl
replicate_get (suc n) (suc i) a = replicate_get n i a

pub blank_heard : (n : ℕ) → Heard n blank_level
blank_heard n = record { slots = refl; values = refl; below = λ i. subst (λ (x : ℕ). x < 2 ^ n) (sym (replicate_get slot_count i 0)) (pow_pos n) }

pub blank_untouched : Untouched blank_level
blank_untouched = record {
  echoed_port_lem = tt;
  echoed_none_lem = tt;
  proposal = refl;
  first = refl;
  echoed = λ w h. subst T (replicate_get value_count w false) h;
  second_proposal_lem = refl;
  result = refl;
  told = tt;
}

-- where nothing was made the law holds in every context
pub untouched_law : (c : Context) (l : Level) → Heard c.n l → Untouched l → Law c l
untouched_law c l h u = record {
  heard = h;
  echoed_none_lem = λ e. absurd (T_not l.echoed_none u.echoed_none_lem e);
  proposal = λ p. absurd (p u.proposal);
  first = λ p. absurd (p u.first);
  echoed = λ w e. absurd (u.echoed w e);
  second_proposal_lem = λ p. absurd (p u.second_proposal_lem);
  result = λ p. absurd (p u.result);
  told = λ e. absurd (T_not l.told_centre u.told e);
}

-- it is so at entry
pub untouched_entry : (l : Level) (k x out : ℕ) → Untouched l → Untouched (with_entry l k x out)
untouched_entry l k x out u = record {
  echoed_port_lem = u.echoed_port_lem;
  echoed_none_lem = u.echoed_none_lem;
  proposal = u.proposal;
  first = u.first;
  echoed = u.echoed;
  second_proposal_lem = u.second_proposal_lem;
  result = u.result;
  told = u.told;
}

pub heard_entry : (n : ℕ) (l : Level) (k x out : ℕ) → Heard n l → Heard n (with_entry l k x out)
heard_entry n l k x out h = record { slots = h.slots; values = h.values; below = h.below }

pub blank_law : (c : Context) → Law c blank_level
blank_law c = untouched_law c blank_level (blank_heard c.n) blank_untouched

-- ---- the same settings and component

-- two contexts of one level at different times: only what they say of the next level may differ
pub record Same (c c' : Context) : Type 0 where
  pub n : c.n ≡ c'.n
  pub t : c.t ≡ c'.t
  pub degree : c.degree ≡ c'.degree
  pub port : c.port ≡ c'.port
  pub centre : c.centre ≡ c'.centre

pub same_refl : (c : Context) → Same c c
same_refl c = record { n = refl; t = refl; degree = refl; port = refl; centre = refl }

-- a context with another state of the next level
next : Context → Bool → ℕ → Context
next c entered out = record { n = c.n; t = c.t; degree = c.degree; port = c.port; centre = c.centre; next_entered = entered; next_output = out }

next_same : (c c' : Context) → Same c c' → next c c'.next_entered c'.next_output ≡ c'
unfolding next
next_same c c' e i = record {
  n = e.n i;
  t = e.t i;
  degree = e.degree i;
  port = e.port i;
  centre = e.centre i;
  next_entered = c'.next_entered;
  next_output = c'.next_output;
}

law_next : (c : Context) (l : Level) (entered : Bool) (out : ℕ) → Law c l → Law (next c entered out) l
unfolding next other_echoes may_propose proposed split split_at digit_echoes echoed_by second_proposed
law_next c l entered out h = record {
  heard = h.heard;
  echoed_none_lem = h.echoed_none_lem;
  proposal = h.proposal;
  first = h.first;
  echoed = h.echoed;
  second_proposal_lem = h.second_proposal_lem;
  result = h.result;
  told = h.told;
}

-- the law asks nothing of the next level
pub law_same : (c c' : Context) (l : Level) → Same c c' → Law c l → Law c' l
law_same c c' l e h = subst (λ (x : Context). Law x l) (next_same c c' e) (law_next c l c'.next_entered c'.next_output h)

-- ---- each change keeps the law

heard_as : (n : ℕ) (l m : Level) → m.sets ≡ l.sets → length m.echoed ≡ value_count → Heard n l → Heard n m
heard_as n l m e k h = record {
  slots = ap length e ∙ h.slots;
  values = k;
  below = λ i. subst (λ (s : List ℕ). get_or s i 0 < 2 ^ n) (sym e) (h.below i);
}

module _ (c : Context) (l : Level) (h : Law c l) where
  law_port_echo : Law c (with_port_echo l)
  unfolding senders other_echoes may_propose proposed split split_at digit_echoes echoed_by second_proposed
  law_port_echo = record {
    heard = heard_as c.n l (with_port_echo l) refl h.heard.values h.heard;
    echoed_none_lem = h.echoed_none_lem;
    proposal = h.proposal;
    first = h.first;
    echoed = h.echoed;
    second_proposal_lem = h.second_proposal_lem;
    result = h.result;
    told = h.told;
  }

  law_none_echo : T (at_least (weak c) (other_echoes c l)) → Law c (with_none_echo l)
  unfolding senders other_echoes may_propose proposed split split_at digit_echoes echoed_by second_proposed
  law_none_echo p = record {
    heard = heard_as c.n l (with_none_echo l) refl h.heard.values h.heard;
    echoed_none_lem = λ _. p;
    proposal = h.proposal;
    first = h.first;
    echoed = h.echoed;
    second_proposal_lem = h.second_proposal_lem;
    result = h.result;
    told = h.told;
  }

  law_proposal : (v : ℕ) → v ≤ c.degree → T (may_propose c l v) → Law c (with_proposal l v)
  unfolding senders other_echoes may_propose proposed split split_at digit_echoes echoed_by second_proposed
  law_proposal v k p = record {
    heard = heard_as c.n l (with_proposal l v) refl h.heard.values h.heard;
    echoed_none_lem = h.echoed_none_lem;
    proposal = λ _. (k, p);
    first = h.first;
    echoed = h.echoed;
    second_proposal_lem = h.second_proposal_lem;
    result = h.result;
    told = h.told;
  }

  law_first : (v : ℕ) → l.first ≡ not_yet → FirstBy c l v → Law c (with_first l v)
  unfolding senders other_echoes may_propose proposed split split_at digit_echoes echoed_by second_proposed
  law_first v m p = record {
    heard = heard_as c.n l (with_first l v) refl h.heard.values h.heard;
    echoed_none_lem = h.echoed_none_lem;
    proposal = h.proposal;
    first = λ _. p;
    echoed = λ w e. absurd ((h.echoed w e).0 m);
    second_proposal_lem = λ e. absurd ((h.second_proposal_lem e).0 m);
    result = λ e. absurd ((h.result e).0 m);
    told = h.told;
  }

  law_second_echo : (w : ℕ) → Present l.first → Candidate c w → (w ≡ l.first) ⊎ T (echoed_by (weak c) l w) → Law c (with_second_echo l w)
  unfolding senders other_echoes may_propose proposed split split_at digit_echoes echoed_by second_proposed
  law_second_echo w f k p = record {
    heard = heard_as c.n l (with_second_echo l w) refl (length-set l.echoed w true ∙ h.heard.values) h.heard;
    echoed_none_lem = h.echoed_none_lem;
    proposal = h.proposal;
    first = h.first;
    echoed = λ x e. at x (flag_set l.echoed w x e);
    second_proposal_lem = h.second_proposal_lem;
    result = h.result;
    told = h.told;
  }
    where
      at : (x : ℕ) → (x ≡ w) ⊎ Echoed l x → Present l.first × Candidate c x × ((x ≡ l.first) ⊎ T (echoed_by (weak c) l x))
      at x (inl e) = subst (λ (z : ℕ). Present l.first × Candidate c z × ((z ≡ l.first) ⊎ T (echoed_by (weak c) l z))) (sym e) (f, k, p)
      at x (inr e) = h.echoed x e

  law_second_proposal : (w : ℕ) → Present l.first → Candidate c w → T (echoed_by (strong c) l w) → Law c (with_second_proposal l w)
  unfolding senders other_echoes may_propose proposed split split_at digit_echoes echoed_by second_proposed
  law_second_proposal w f k p = record {
    heard = heard_as c.n l (with_second_proposal l w) refl h.heard.values h.heard;
    echoed_none_lem = h.echoed_none_lem;
    proposal = h.proposal;
    first = h.first;
    echoed = h.echoed;
    second_proposal_lem = λ _. (f, k, p);
    result = h.result;
    told = h.told;
  }

  law_result : (w : ℕ) (sure : Bool) → Present l.first → l.result ≡ not_yet → ResultBy c l w sure → Law c (with_result l w sure)
  unfolding senders other_echoes may_propose proposed split split_at digit_echoes echoed_by second_proposed
  law_result w sure f m p = record {
    heard = heard_as c.n l (with_result l w sure) refl h.heard.values h.heard;
    echoed_none_lem = h.echoed_none_lem;
    proposal = h.proposal;
    first = h.first;
    echoed = h.echoed;
    second_proposal_lem = h.second_proposal_lem;
    result = λ _. (f, p);
    told = λ e. let q = (h.told e).0 in absurd (omega arith);
  }

  law_output : (x : ℕ) → (T l.told_centre → x ≡ no_output → ⊥) → Law c (with_output l x)
  unfolding senders other_echoes may_propose proposed split split_at digit_echoes echoed_by second_proposed
  law_output x p = record {
    heard = heard_as c.n l (with_output l x) refl h.heard.values h.heard;
    echoed_none_lem = h.echoed_none_lem;
    proposal = h.proposal;
    first = h.first;
    echoed = h.echoed;
    second_proposal_lem = h.second_proposal_lem;
    result = h.result;
    told = λ e. ((h.told e).0, p e);
  }

  law_centre_told : (x : ℕ) → l.result ≡ none_value → (x ≡ no_output → ⊥) → Law c (with_centre_told l x)
  unfolding senders other_echoes may_propose proposed split split_at digit_echoes echoed_by second_proposed
  law_centre_told x r p = record {
    heard = heard_as c.n l (with_centre_told l x) refl h.heard.values h.heard;
    echoed_none_lem = h.echoed_none_lem;
    proposal = h.proposal;
    first = h.first;
    echoed = h.echoed;
    second_proposal_lem = h.second_proposal_lem;
    result = h.result;
    told = λ _. (r, p);
  }

  -- a level is entered
  pub law_entry : (k x out : ℕ) → (T l.told_centre → out ≡ no_output → ⊥) → Law c (with_entry l k x out)
  unfolding senders other_echoes may_propose proposed split split_at digit_echoes echoed_by second_proposed
  law_entry k x out p = record {
    heard = heard_as c.n l (with_entry l k x out) refl h.heard.values h.heard;
    echoed_none_lem = h.echoed_none_lem;
    proposal = h.proposal;
    first = h.first;
    echoed = h.echoed;
    second_proposal_lem = h.second_proposal_lem;
    result = h.result;
    told = λ e. ((h.told e).0, p e);
  }

-- ---- every rule keeps the law

-- the first result is a value or none
pub law_first_value : (c : Context) (l : Level) → Law c l → Present l.first → Candidate c l.first
law_first_value c l h p = go (h.first p)
  where
    go : FirstBy c l l.first → Candidate c l.first
    go (inl x) = inl x.0
    go (inr x) = inr x.0

-- one move keeps the law, where the centre is a position
pub move_law : (c : Context) (l : Level) → Law c l → (c.centre ≡ no_output → ⊥) → (m : Level) (e : Effect) → Move c l m e → Law c m
move_law c l h d m e (port_echo p) = law_port_echo c l h
move_law c l h d m e (none_echo p q) = law_none_echo c l h q
move_law c l h d m e (first_proposal_lem v p k q) = law_proposal c l h v k q
move_law c l h d m e (first_value v p k q) = law_first c l h v p (inl (k, q))
move_law c l h d m e (first_none p q) = law_first c l h none_value p (inr (refl, q))
move_law c l h d m e (own_echo p q) = law_second_echo c l h l.first p (law_first_value c l h p) (inl refl)
move_law c l h d m e (relay w p k q r) = law_second_echo c l h w p k (inr q)
move_law c l h d m e (second_proposal_lem w p r k q) = law_second_proposal c l h w p k q
move_law c l h d m e (sure_result v p r k q) = law_result c l h v true p r (inl (k, tt, q))
move_law c l h d m e (none_result p r q) = law_result c l h none_value false p r (inr (inr (refl, tt, q)))
move_law c l h d m e (unsure_result v p r k q q') = law_result c l h v false p r (inr (inl (k, tt, q, q')))
move_law c l h d m e (centre_output r o) = law_output c l h c.centre (λ _. d)
move_law c l h d m e (sure_entry r n s) = h
move_law c l h d m e (unsure_entry r n s) = h
move_law c l h d m e (centre_message r t) = law_centre_told c l h (pick (unanswered l) c.centre l.output) r (told_cases l c.centre (λ x. x ≡ no_output → ⊥) (λ _. d) (λ a. a))
move_law c l h d m e (sided_entry k r n a b q) = h
move_law c l h d m e (told_output q o) = law_output c l h c.centre (λ _. d)
move_law c l h d m e (next_output_lem r o x) = law_output c l h c.next_output (λ _. x)

-- the lowest rule keeps the law, whatever becomes of the next level
pub lowest_law : (c c' : Context) (l : Level) → Same c c' → (c.centre ≡ no_output → ⊥) → Law c l → Law c' (lowest_rule c l).level
lowest_law c c' l e d h = law_same c c' (lowest_rule c l).level e (lowest_all c l (λ m x. Law c m) (λ _. h) (move_law c l h d))
