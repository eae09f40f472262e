-- What the bounds ask of a party, and that everything a board does keeps it.
use mathlib.Core.Path.{◌≡◌, refl, sym, ap, ◌∙◌, subst}
use mathlib.Core.Logic.{inl, inr}
use mathlib.Core.Bool.{Bool, true, false}
use Prim.Native.Nat.{ℕ, ◌+◌, ◌<◌}
use native.Mathlib.Decide.{ℕ_discrete, dec_lt}
use native.Mathlib.Omega.{arith}
use lib.Dec.{T, leb}
use Rattle.base.proofs.Bools.{T-right}
use lib.ListN.{length, length-set, length-replicate}
use Rattle.base.specs.Pick.{pick}
use Rattle.base.specs.Sets.{Set}
use Rattle.base.specs.Limits.{level_count}
use Rattle.plan.specs.Plan.{Plan}
use Rattle.plan.specs.Valid.{plan_valid}
use Rattle.component.specs.Component.{whole_of, size_of, side_of}
use Rattle.message.specs.declared.Message.{Message}
use Rattle.message.specs.Message.{in_table}
use Rattle.level.specs.declared.Context.{Context}
use Rattle.level.specs.Rules.{Effect}
use Rattle.level.specs.Rules.{Nothing, Quiet, Send, Enter, SendEnter}
use Rattle.level.specs.Level.{Level, no_output, with_heard, with_entry, value_count}
use Rattle.level.specs.Rules.{applies}
use Rattle.level_laws.proofs.Bounds as Bounds
use Rattle.level_laws.proofs.Moves.{Move}
use Rattle.level_laws.proofs.Moves.{port_echo, none_echo, first_proposal_lem, first_value, first_none, own_echo, relay, second_proposal_lem, sure_result, none_result, unsure_result, centre_output, sure_entry, unsure_entry, centre_message, sided_entry, told_output, next_output_lem}
use Rattle.level_laws.proofs.Grows.{move_unmoved}
use Rattle.party.specs.Party.{Party, new_party, level_at, with_level, component_of, context_of, sending, entering, entered, started, hearing}
use Rattle.party.specs.Run.{rule_at, open_at, descend, gate, after_rule, step_at}
use Rattle.party.specs.Typed.{Typed}
use Rattle.party.specs.Valid.{settings_pass, party_valid}
use Rattle.party_laws.proofs.Laws.{Formed, valid→, shape, entered_level, sending_level, level_same, level_other, level_field, level_past, board_with, entry_level, entry_other, open_sending, open_move, formed_new, formed_hearing, formed_entered, formed_step}
use Rattle.party_laws.proofs.Calls.{new_level}
use Rattle.party_bounds.proofs.Measures.{Later, same, heard, entry, Aged, Ruled}

-- a party that passes question 19 and has all its levels, each with a place for every second echo
pub record Sized (p : Party) : Type 0 where
  pub formed : Formed p
  pub echoes : (i : ℕ) → i < level_count → length (level_at p i).echoed ≡ value_count

-- what the types give, and question 19
pub typed_sized : (p : Party) → Typed p → T (party_valid p) → Sized p
typed_sized p t v = record { formed = record { valid = v; full = t.levels }; echoes = t.echoes }

-- ---- positions

-- a position is below the number that stands for no output
pub position_low : (p : Party) → Formed p → (x : ℕ) → x < p.plan.count → x < no_output
position_low p w x h = omega (arith, (shape p.plan (valid→ p w.valid).plan).most)

entered_low : (p : Party) → Formed p → (i : ℕ) → T (level_at p i).entered → (level_at p i).position < no_output
entered_low p w i h =
    let e = entered_level p w i h in
    position_low p w (level_at p i).position (e.plan.below (level_at p i).position e.place)

-- ---- a level entered

entering_later : (p : Party) (i : ℕ) (S : Set) (k x : ℕ) → i < length p.levels → Formed (entering p i S k x) → Later (level_at p i) (level_at (entering p i S k x) i)
entering_later p i S k x h w =
    let e = entry_level p i S k x h in
    let low = entered_low (entering p i S k x) w i (subst (λ (l : Level). T l.entered) (sym e) tt) in
    subst (Later (level_at p i)) (sym e) (go (leb 3 (size_of p.plan S)) (subst (λ (l : Level). l.position < no_output) e low))
  where
    go : (b : Bool) → x < no_output → Later (level_at p i) (with_entry (level_at p i) k x (pick b (level_at p i).output x))
    go true l = entry k x (level_at p i).output (inl refl)
    go false l = entry k x x (inr l)

-- ---- a rule applied

module _ (p : Party) (i : ℕ) (m : Level) (here : i < length p.levels) (unmoved : m.entered ≡ (level_at p i).entered) where
  -- its own level's record is replaced
  replaced : Ruled p i m false (with_level p i m)
  replaced = record {
    here = level_same p i m here;
    next = ap (λ (l : Level). l.entered) (level_other p i m (i + 1) (λ e. omega arith));
    entered = λ j _. level_field p i m (λ l. l.entered) unmoved j;
    others = λ j d. subst (Later (level_at p j)) (sym (level_other p i m j d)) same;
  }

  -- the next level is entered besides
  descended : (k x : ℕ) → i + 1 < length p.levels → Formed (descend (with_level p i m) i k x) → Ruled p i m true (descend (with_level p i m) i k x)
  descended k x last w = record {
    here = entry_other r (i + 1) S k x i (λ e. omega arith) ∙ level_same p i m here;
    next = ap (λ (l : Level). l.entered) (entry_level r (i + 1) S k x last');
    entered = λ j d. ap (λ (l : Level). l.entered) (entry_other r (i + 1) S k x j d) ∙ level_field p i m (λ l. l.entered) unmoved j;
    others = λ j d. subst (λ (l : Level). Later l (level_at q j)) (level_other p i m j d) (at j (ℕ_discrete j (i + 1)));
  }
    where
      r : Party
      r = with_level p i m

      S : Set
      S = side_of r.plan (component_of r i) k

      q : Party
      q = entering r (i + 1) S k x

      last' : i + 1 < length r.levels
      last' = omega (arith, (board_with p i m).levels)

      at : (j : ℕ) → Dec (j ≡ i + 1) → Later (level_at r j) (level_at q j)
      at j (yes e) = subst (λ (z : ℕ). Later (level_at r z) (level_at q z)) (sym e) (entering_later r (i + 1) S k x last' w)
      at j (no d) = subst (Later (level_at r j)) (sym (entry_other r (i + 1) S k x j d)) same

  after_ruled : i + 1 < length p.levels → (e : Effect) → T (applies e) → Formed (after_rule p i m e) → Ruled p i m (Bounds.enters e) (after_rule p i m e)
  unfolding after_rule
  after_ruled last Nothing h w = absurd h
  after_ruled last Quiet h w = replaced
  after_ruled last (Send b) h w = replaced
  after_ruled last (Enter k keep) h w = descended k (pick keep (level_at p i).position (gate p i k)) last w
  after_ruled last (SendEnter k) h w = descended k (gate p i k) last w

-- the lowest rule at a level where one applies
pub open_applies : (p : Party) (i : ℕ) → T (open_at p i) → T (applies (rule_at p i).effect)
unfolding open_at
open_applies p i h = T-right (sending p i) (applies (rule_at p i).effect) h

pub open_ruled : (p : Party) → Formed p → (i : ℕ) → T (open_at p i) → Ruled p i (rule_at p i).level (Bounds.enters (rule_at p i).effect) (step_at p i)
open_ruled p w i h =
    let s = sending_level p w i (open_sending p i h) in
    let u = move_unmoved (context_of p i) (level_at p i) (rule_at p i).level (rule_at p i).effect (open_move p i h) in
    after_ruled p i (rule_at p i).level (omega (arith, s.next, w.full)) u.entered (omega (arith, s.next, w.full)) (rule_at p i).effect (open_applies p i h)
    (formed_step p w i h)

-- ---- a message taken, and a start

replaced_later : (p : Party) (i : ℕ) (m : Level) → Later (level_at p i) m → (j : ℕ) → Later (level_at p j) (level_at (with_level p i m) j)
replaced_later p i m h j = go (ℕ_discrete j i) (dec_lt i (length p.levels))
  where
    go : Dec (j ≡ i) → Dec (i < length p.levels) → Later (level_at p j) (level_at (with_level p i m) j)
    go (yes e) (yes l) =
        subst (λ (z : ℕ). Later (level_at p z) (level_at (with_level p i m) z)) (sym e) (subst (Later (level_at p i)) (sym (level_same p i m l)) h)
    go (yes e) (no l) = subst (Later (level_at p j)) (sym (level_past p i m (omega arith) j)) same
    go (no d) l = subst (Later (level_at p j)) (sym (level_other p i m j d)) same

pub aged_hearing : (p : Party) (s : ℕ) (m : Message) → Aged p (hearing p s m)
unfolding hearing with_heard
aged_hearing p s m = record {
  entered = λ i. level_field p m.level (with_heard (level_at p m.level) m.body s) (λ l. l.entered) refl (i + 1);
  levels = replaced_later p m.level (with_heard (level_at p m.level) m.body s) (heard m.body s);
}

pub aged_entered : (p : Party) → Formed p → (x : ℕ) → Formed (entered p x) → Aged p (entered p x)
unfolding entered
aged_entered p w x v = record {
  entered = λ i. ap (λ (l : Level). l.entered) (entry_other p 0 (whole_of p.plan) 0 x (i + 1) (λ e. omega arith));
  levels = λ i. at i (ℕ_discrete i 0);
}
  where
    q : Party
    q = entering p 0 (whole_of p.plan) 0 x

    at : (i : ℕ) → Dec (i ≡ 0) → Later (level_at p i) (level_at q i)
    at i (yes e) =
        subst (λ (z : ℕ). Later (level_at p z) (level_at q z)) (sym e) (entering_later p 0 (whole_of p.plan) 0 x (omega (arith, w.full)) v)
    at i (no d) = subst (Later (level_at p i)) (sym (entry_other p 0 (whole_of p.plan) 0 x i d)) same

-- ---- places for second echoes

later_echoes : (l m : Level) → Later l m → length m.echoed ≡ length l.echoed
unfolding with_heard
later_echoes l m same = refl
later_echoes l m (heard b s) = refl
later_echoes l m (entry k x out h) = refl

move_echoes : (c : Context) (l m : Level) (e : Effect) → Move c l m e → length m.echoed ≡ length l.echoed
move_echoes c l m e (port_echo a) = refl
move_echoes c l m e (none_echo a b) = refl
move_echoes c l m e (first_proposal_lem w a b d) = refl
move_echoes c l m e (first_value w a b d) = refl
move_echoes c l m e (first_none a b) = refl
move_echoes c l m e (own_echo a b) = length-set l.echoed l.first true
move_echoes c l m e (relay w a b d f) = length-set l.echoed w true
move_echoes c l m e (second_proposal_lem w a b d f) = refl
move_echoes c l m e (sure_result w a b d f) = refl
move_echoes c l m e (none_result a b d) = refl
move_echoes c l m e (unsure_result w a b d f g) = refl
move_echoes c l m e (centre_output a b) = refl
move_echoes c l m e (sure_entry a b d) = refl
move_echoes c l m e (unsure_entry a b d) = refl
move_echoes c l m e (centre_message a b) = refl
move_echoes c l m e (sided_entry k a b d f g) = refl
move_echoes c l m e (told_output a b) = refl
move_echoes c l m e (next_output_lem a b d) = refl

-- ---- what is kept

aged_sized : (p q : Party) → Sized p → Formed q → Aged p q → Sized q
aged_sized p q z w a = record { formed = w; echoes = λ i l. later_echoes (level_at p i) (level_at q i) (a.levels i) ∙ z.echoes i l }

pub sized_new : (n t own a : ℕ) (plan : Plan) → T (settings_pass (new_party n t own a plan)) → T (plan_valid plan) → Sized (new_party n t own a plan)
sized_new n t own a plan s h = record {
  formed = formed_new n t own a plan s h;
  echoes = λ i l. ap (λ (m : Level). length m.echoed) (new_level n t own a plan i l) ∙ length-replicate value_count false;
}

-- a message of the table taken from a board
pub sized_hearing : (p : Party) → Sized p → (s : ℕ) (m : Message) → s < p.n → T (in_table m) → Sized (hearing p s m)
sized_hearing p z s m h k = aged_sized p (hearing p s m) z (formed_hearing p z.formed s m h k) (aged_hearing p s m)

-- a start at a position
pub sized_entered : (p : Party) → Sized p → (x : ℕ) → (T (started p) → ⊥) → x < p.plan.count → Sized (entered p x)
sized_entered p z x new h =
    let w = formed_entered p z.formed x new h in
    aged_sized p (entered p x) z w (aged_entered p z.formed x w)

-- a rule at a level where one applies
pub sized_step : (p : Party) → Sized p → (i : ℕ) → T (open_at p i) → Sized (step_at p i)
sized_step p z i h = record { formed = formed_step p z.formed i h; echoes = λ j l. at j l (ℕ_discrete j i) }
  where
    r : Ruled p i (rule_at p i).level (Bounds.enters (rule_at p i).effect) (step_at p i)
    r = open_ruled p z.formed i h

    at : (j : ℕ) → j < level_count → Dec (j ≡ i) → length (level_at (step_at p i) j).echoed ≡ value_count
    at j l (yes e) =
        ap (λ (k : ℕ). length (level_at (step_at p i) k).echoed) e ∙ ap (λ (m : Level). length m.echoed) r.here
        ∙ move_echoes (context_of p i) (level_at p i) (rule_at p i).level (rule_at p i).effect (open_move p i h)
        ∙ z.echoes i (subst (λ (k : ℕ). k < level_count) e l)
    at j l (no d) = later_echoes (level_at p j) (level_at (step_at p i) j) (r.others j d) ∙ z.echoes j l
