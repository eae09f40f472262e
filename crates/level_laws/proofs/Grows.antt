-- A level's record only grows: what is there stays as it is.
use mathlib.Core.Path.{◌≡◌, refl, sym, ap, ◌∙◌, subst}
use mathlib.Core.Logic.{◌⊎◌, inl, inr}
use mathlib.Core.Bool.{Bool, true, false}
use mathlib.Core.List.{List}
use Prim.Native.Nat.{ℕ, ◌<◌}
use native.Mathlib.Decide.{ℕ_discrete, dec_lt}
use native.Mathlib.Omega.{arith}
use lib.Dec.{T}
use lib.ListN.{length, get_or, set}
use lib.Seq.{get_or-set_same, get_or-set_other, set_out}
use Rattle.message.specs.declared.Body.{Body}
use Rattle.senders.specs.Senders.{is_in, with_sender}
use Rattle.senders.proofs.Laws.{with_keeps}
use Rattle.level.specs.declared.Context.{Context}
use Rattle.level.specs.Rules.{Effect}
use Rattle.level.specs.Level.{Level, senders, slot, not_yet, no_output, with_heard, with_entry}
use Rattle.level.specs.Rules.{lowest_rule}
use Rattle.level_laws.specs.Inner.{Present, Answered, Echoed, Grows}
use Rattle.level_laws.proofs.Moves.{Move, told_cases, lowest_all}
use Rattle.level_laws.proofs.Moves.{port_echo, none_echo, first_proposal_lem, first_value, first_none, own_echo, relay, second_proposal_lem, sure_result, none_result, unsure_result, centre_output, sure_entry, unsure_entry, centre_message, sided_entry, told_output, next_output_lem}

pub grows_refl : (l : Level) → Grows l l
grows_refl l = record {
  entered = λ h. (h, refl, refl);
  echoed_port_lem = λ h. h;
  echoed_none_lem = λ h. h;
  proposal = λ _. refl;
  first = λ _. refl;
  echoed = λ w h. h;
  second_proposal_lem = λ _. refl;
  result = λ _. (refl, refl);
  told = λ h. h;
  output = λ _. refl;
  heard = λ b s h. h;
}

-- what is there stays there
kept : (a b x : ℕ) → (a ≡ x → ⊥) → b ≡ a → b ≡ x → ⊥
kept a b x d e i = d (sym e ∙ i)

pub grows_trans : (l m k : Level) → Grows l m → Grows m k → Grows l k
grows_trans l m k f g = record {
  entered = λ h. ((g.entered (f.entered h).0).0, (g.entered (f.entered h).0).1 ∙ (f.entered h).1, (g.entered (f.entered h).0).2 ∙ (f.entered h).2);
  echoed_port_lem = λ h. g.echoed_port_lem (f.echoed_port_lem h);
  echoed_none_lem = λ h. g.echoed_none_lem (f.echoed_none_lem h);
  proposal = λ p. g.proposal (kept l.proposal m.proposal not_yet p (f.proposal p)) ∙ f.proposal p;
  first = λ p. g.first (kept l.first m.first not_yet p (f.first p)) ∙ f.first p;
  echoed = λ w h. g.echoed w (f.echoed w h);
  second_proposal_lem = λ p. g.second_proposal_lem (kept l.second_proposal m.second_proposal not_yet p (f.second_proposal_lem p)) ∙ f.second_proposal_lem p;
  result = λ p. let q : Present m.result = kept l.result m.result not_yet p (f.result p).0 in ((g.result q).0 ∙ (f.result p).0, (g.result q).1 ∙ (f.result p).1);
  told = λ h. g.told (f.told h);
  output = λ p. g.output (kept l.output m.output no_output p (f.output p)) ∙ f.output p;
  heard = λ b s h. g.heard b s (f.heard b s h);
}

-- ---- what a message taken changes

-- a place of a list after a store: the stored value, or what was there
set_cases : {A : Type 0} (s : List A) (i j : ℕ) (a z : A) (P : A → Type 0) → P (get_or s j z) → (i ≡ j → P a) → P (get_or (set s i a) j z)
set_cases {A} s i j a z P p q = go (ℕ_discrete j i) (dec_lt i (length s))
  where
    go : Dec (j ≡ i) → Dec (i < length s) → P (get_or (set s i a) j z)
    go (no d) x = subst P (sym (get_or-set_other s i j a z d)) p
    go (yes e) (yes k) = subst P (sym (ap (λ (n : ℕ). get_or (set s i a) n z) e ∙ get_or-set_same s i a z k)) (q (sym e))
    go (yes e) (no k) = subst P (sym (ap (λ (x : List A). get_or x j z) (set_out s i a (omega arith)))) p

pub store_cases : (s : List ℕ) (i j a : ℕ) (P : ℕ → Type 0) → P (get_or s j 0) → (i ≡ j → P a) → P (get_or (set s i a) j 0)
store_cases s i j a = set_cases s i j a 0

pub grows_heard : (l : Level) (b : Body) (s : ℕ) → Grows l (with_heard l b s)
unfolding senders with_heard
grows_heard l b s =
    let k = grows_refl l in
    record {
      entered = k.entered;
      echoed_port_lem = k.echoed_port_lem;
      echoed_none_lem = k.echoed_none_lem;
      proposal = k.proposal;
      first = k.first;
      echoed = k.echoed;
      second_proposal_lem = k.second_proposal_lem;
      result = k.result;
      told = k.told;
      output = k.output;
      heard = λ x j h. store_cases l.sets (slot b) (slot x) (with_sender (get_or l.sets (slot b) 0) s) (λ m. T (is_in m j)) h
          (λ e. with_keeps (get_or l.sets (slot b) 0) s j (subst (λ (i : ℕ). T (is_in (get_or l.sets i 0) j)) (sym e) h));
    }

-- a level that was not entered is entered
pub grows_entry : (l : Level) (k x out : ℕ) → (T l.entered → ⊥) → (Answered l → out ≡ l.output) → Grows l (with_entry l k x out)
unfolding senders
grows_entry l a x out d e =
    let k = grows_refl l in
    record {
      entered = λ h. absurd (d h);
      echoed_port_lem = k.echoed_port_lem;
      echoed_none_lem = k.echoed_none_lem;
      proposal = k.proposal;
      first = k.first;
      echoed = k.echoed;
      second_proposal_lem = k.second_proposal_lem;
      result = k.result;
      told = k.told;
      output = e;
      heard = k.heard;
    }

-- ---- what a rule changes

-- a flag that is set stays so
flag_keeps : (f : List Bool) (w x : ℕ) → T (get_or f x false) → T (get_or (set f w true) x false)
flag_keeps f w x h = set_cases f w x true false T h (λ _. tt)

-- a flag that is set after one more was set is that one, or was set before
pub flag_set : (f : List Bool) (w x : ℕ) → T (get_or (set f w true) x false) → (x ≡ w) ⊎ T (get_or f x false)
flag_set f w x = set_cases f w x true false (λ b. T b → (x ≡ w) ⊎ T (get_or f x false)) inr (λ e _. inl (sym e))

-- what no rule changes: what was heard, and where the level was entered
pub record Unmoved (l m : Level) : Type 0 where
  pub sets : m.sets ≡ l.sets
  pub entered : m.entered ≡ l.entered
  pub side : m.side ≡ l.side
  pub position : m.position ≡ l.position

pub move_unmoved : (c : Context) (l m : Level) (e : Effect) → Move c l m e → Unmoved l m
move_unmoved c l m e (port_echo p) = record { sets = refl; entered = refl; side = refl; position = refl }
move_unmoved c l m e (none_echo p q) = record { sets = refl; entered = refl; side = refl; position = refl }
move_unmoved c l m e (first_proposal_lem v p k q) = record { sets = refl; entered = refl; side = refl; position = refl }
move_unmoved c l m e (first_value v p k q) = record { sets = refl; entered = refl; side = refl; position = refl }
move_unmoved c l m e (first_none p q) = record { sets = refl; entered = refl; side = refl; position = refl }
move_unmoved c l m e (own_echo p q) = record { sets = refl; entered = refl; side = refl; position = refl }
move_unmoved c l m e (relay w p k q r) = record { sets = refl; entered = refl; side = refl; position = refl }
move_unmoved c l m e (second_proposal_lem w p r k q) = record { sets = refl; entered = refl; side = refl; position = refl }
move_unmoved c l m e (sure_result v p r k q) = record { sets = refl; entered = refl; side = refl; position = refl }
move_unmoved c l m e (none_result p r q) = record { sets = refl; entered = refl; side = refl; position = refl }
move_unmoved c l m e (unsure_result v p r k q q') = record { sets = refl; entered = refl; side = refl; position = refl }
move_unmoved c l m e (centre_output r o) = record { sets = refl; entered = refl; side = refl; position = refl }
move_unmoved c l m e (sure_entry r n s) = record { sets = refl; entered = refl; side = refl; position = refl }
move_unmoved c l m e (unsure_entry r n s) = record { sets = refl; entered = refl; side = refl; position = refl }
move_unmoved c l m e (centre_message r t) = record { sets = refl; entered = refl; side = refl; position = refl }
move_unmoved c l m e (sided_entry k r n a b q) = record { sets = refl; entered = refl; side = refl; position = refl }
move_unmoved c l m e (told_output q o) = record { sets = refl; entered = refl; side = refl; position = refl }
move_unmoved c l m e (next_output_lem r o x) = record { sets = refl; entered = refl; side = refl; position = refl }

-- what a rule can change, clause by clause
grows_by : (l m : Level)
    → (T l.echoed_port → T m.echoed_port)
    → (T l.echoed_none → T m.echoed_none)
    → (Present l.proposal → m.proposal ≡ l.proposal)
    → (Present l.first → m.first ≡ l.first)
    → ((w : ℕ) → Echoed l w → Echoed m w)
    → (Present l.second_proposal → m.second_proposal ≡ l.second_proposal)
    → (Present l.result → (m.result ≡ l.result) × (m.sure ≡ l.sure))
    → (T l.told_centre → T m.told_centre)
    → (Answered l → m.output ≡ l.output)
    → Unmoved l m → Grows l m
unfolding senders
grows_by l m port none proposal first echoed second result told output u = record {
  entered = λ h. (subst T (sym u.entered) h, u.side, u.position);
  echoed_port_lem = port;
  echoed_none_lem = none;
  proposal = proposal;
  first = first;
  echoed = echoed;
  second_proposal_lem = second;
  result = result;
  told = told;
  output = output;
  heard = λ b s h. subst (λ (z : List ℕ). T (is_in (get_or z (slot b) 0) s)) (sym u.sets) h;
}

-- each rule sets what was not set before
move_sets : (c : Context) (l m : Level) (e : Effect) → Move c l m e → Unmoved l m → Grows l m
move_sets c l m e (port_echo p) = let k = grows_refl l in grows_by l m (λ _. tt) k.echoed_none_lem k.proposal k.first k.echoed k.second_proposal_lem k.result k.told k.output
move_sets c l m e (none_echo p q) = let k = grows_refl l in grows_by l m k.echoed_port_lem (λ _. tt) k.proposal k.first k.echoed k.second_proposal_lem k.result k.told k.output
move_sets c l m e (first_proposal_lem v p x q) = let k = grows_refl l in grows_by l m k.echoed_port_lem k.echoed_none_lem (λ i. absurd (i p)) k.first k.echoed k.second_proposal_lem k.result k.told k.output
move_sets c l m e (first_value v p x q) = let k = grows_refl l in grows_by l m k.echoed_port_lem k.echoed_none_lem k.proposal (λ i. absurd (i p)) k.echoed k.second_proposal_lem k.result k.told k.output
move_sets c l m e (first_none p q) = let k = grows_refl l in grows_by l m k.echoed_port_lem k.echoed_none_lem k.proposal (λ i. absurd (i p)) k.echoed k.second_proposal_lem k.result k.told k.output
move_sets c l m e (own_echo p q) = let k = grows_refl l in grows_by l m k.echoed_port_lem k.echoed_none_lem k.proposal k.first (flag_keeps l.echoed l.first) k.second_proposal_lem k.result k.told k.output
move_sets c l m e (relay w p x q r) = let k = grows_refl l in grows_by l m k.echoed_port_lem k.echoed_none_lem k.proposal k.first (flag_keeps l.echoed w) k.second_proposal_lem k.result k.told k.output
move_sets c l m e (second_proposal_lem w p r x q) = let k = grows_refl l in grows_by l m k.echoed_port_lem k.echoed_none_lem k.proposal k.first k.echoed (λ i. absurd (i r)) k.result k.told k.output
move_sets c l m e (sure_result v p r x q) = let k = grows_refl l in grows_by l m k.echoed_port_lem k.echoed_none_lem k.proposal k.first k.echoed k.second_proposal_lem (λ i. absurd (i r)) k.told k.output
move_sets c l m e (none_result p r q) = let k = grows_refl l in grows_by l m k.echoed_port_lem k.echoed_none_lem k.proposal k.first k.echoed k.second_proposal_lem (λ i. absurd (i r)) k.told k.output
move_sets c l m e (unsure_result v p r x q q') = let k = grows_refl l in grows_by l m k.echoed_port_lem k.echoed_none_lem k.proposal k.first k.echoed k.second_proposal_lem (λ i. absurd (i r)) k.told k.output
move_sets c l m e (centre_output r o) = let k = grows_refl l in grows_by l m k.echoed_port_lem k.echoed_none_lem k.proposal k.first k.echoed k.second_proposal_lem k.result k.told (λ i. absurd (i o))
move_sets c l m e (sure_entry r n s) = λ _. grows_refl l
move_sets c l m e (unsure_entry r n s) = λ _. grows_refl l
move_sets c l m e (centre_message r t) = let k = grows_refl l in grows_by l m k.echoed_port_lem k.echoed_none_lem k.proposal k.first k.echoed k.second_proposal_lem k.result (λ _. tt) (λ d. told_cases l c.centre (λ x. x ≡ l.output) (λ o. absurd (d o)) (λ _. refl))
move_sets c l m e (sided_entry x r n a b q) = λ _. grows_refl l
move_sets c l m e (told_output q o) = let k = grows_refl l in grows_by l m k.echoed_port_lem k.echoed_none_lem k.proposal k.first k.echoed k.second_proposal_lem k.result k.told (λ i. absurd (i o))
move_sets c l m e (next_output_lem r o x) = let k = grows_refl l in grows_by l m k.echoed_port_lem k.echoed_none_lem k.proposal k.first k.echoed k.second_proposal_lem k.result k.told (λ i. absurd (i o))

pub move_grows : (c : Context) (l m : Level) (e : Effect) → Move c l m e → Grows l m
move_grows c l m e x = move_sets c l m e x (move_unmoved c l m e x)

-- the lowest rule's record has grown
pub lowest_grows : (c : Context) (l : Level) → Grows l (lowest_rule c l).level
lowest_grows c l = lowest_all c l (λ m e. Grows l m) (λ _. grows_refl l) (move_grows c l)

pub lowest_unmoved : (c : Context) (l : Level) → Unmoved l (lowest_rule c l).level
lowest_unmoved c l = lowest_all c l (λ m e. Unmoved l m) (λ _. record { sets = refl; entered = refl; side = refl; position = refl }) (move_unmoved c l)
