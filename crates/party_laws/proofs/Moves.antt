-- One rule keeps question 19.
use mathlib.Core.Path.{◌≡◌, refl, sym, ap, subst, transport⁻¹}
use mathlib.Core.Logic.{inl, inr}
use mathlib.Core.Bool.{Bool, true, false, not}
use Prim.Native.Nat.{ℕ, suc, ◌+◌, ◌≤◌, ◌<◌}
use native.Mathlib.Numerals.{add-one}
use native.Mathlib.Omega.{arith}
use lib.Dec.{T, eqb, eqb→eq, T_not}
use lib.ListN.{length}
use Rattle.base.specs.Pick.{pick}
use Rattle.base.specs.Sets.{Set}
use Rattle.base.specs.Limits.{level_count}
use Rattle.base.proofs.Bools.{T-left, T-right}
use Rattle.component.specs.Component.{degree_of, side_of}
use Rattle.component.specs.Inner.{OfPlan}
use Rattle.component_laws.proofs.Laws.{centre_in, neighbour_in, side_in, port_in}
use Rattle.message.specs.Message.{none_value}
use Rattle.level.specs.declared.Context.{Context}
use Rattle.level.specs.Rules.{Effect}
use Rattle.level.specs.Level.{Level, with_first, with_result, with_output, with_centre_told}
use Rattle.level.specs.Rules.{unanswered, applies}
use Rattle.level_laws.specs.Inner.{Aside}
use Rattle.level_laws.proofs.Moves.{Move, lowest_moves}
use Rattle.level_laws.proofs.Moves.{port_echo, none_echo, first_proposal_lem, first_value, first_none, own_echo, relay, second_proposal_lem, sure_result, none_result, unsure_result, centre_output, sure_entry, unsure_entry, centre_message, sided_entry, told_output, next_output_lem}
use Rattle.level_laws.proofs.Grows.{Unmoved, move_unmoved}
use Rattle.party.specs.Party.{Party, level_at, with_level, component_of, sending, context_of, entering}
use Rattle.party.specs.Run.{rule_at, open_at, descend, gate, after_rule, step_at}
use Rattle.party_laws.proofs.Levels.{level_back, board_entering, entry_level, entry_above, entry_component, entry_other}
use Rattle.party_laws.proofs.Valid.{Value, Output, Contents, Entry, Valid}
use Rattle.party_laws.proofs.Components.{sending_entered, entered_plan, entered_place, sending_level}
use Rattle.party_laws.proofs.Updates.{sending_same, update_valid, enter_valid}

-- ---- what a move leaves in the record

module _ (n count d : ℕ) (s : Bool) (on : T s) (l : Level) (h : Contents n count d s l) where
  contents_first : (v : ℕ) → Value d v → Contents n count d s (with_first l v)
  contents_first v x = record { sets = h.sets; output = h.output; results = λ t. (x, (h.results t).1); blank = λ f. absurd (f on) }

  contents_result : (v : ℕ) (two : Bool) → Value d v → Contents n count d s (with_result l v two)
  contents_result v two x = record { sets = h.sets; output = h.output; results = λ t. ((h.results t).0, x); blank = λ f. absurd (f on) }

  contents_output : (x : ℕ) → Output count x → Contents n count d s (with_output l x)
  contents_output x o = record { sets = h.sets; output = o; results = h.results; blank = h.blank }

  contents_told : (x : ℕ) → x < count → (b : Bool) → Contents n count d s (with_centre_told l (pick b x l.output))
  contents_told x o true = record { sets = h.sets; output = inr o; results = h.results; blank = h.blank }
  contents_told x o false = record { sets = h.sets; output = h.output; results = h.results; blank = h.blank }

-- a move at a level that sends leaves a first result and a result that are values, none or not there, and an output on the plan
move_contents : (n count : ℕ) (s : Bool) → T s → (c : Context) (l m : Level) (e : Effect) → Move c l m e → Contents n count c.degree s l → c.centre < count
    → Output count c.next_output → Contents n count c.degree s m
move_contents n count s on c l m e (port_echo p) h x o = record { sets = h.sets; output = h.output; results = h.results; blank = h.blank }
move_contents n count s on c l m e (none_echo p q) h x o = record { sets = h.sets; output = h.output; results = h.results; blank = h.blank }
move_contents n count s on c l m e (first_proposal_lem v p k q) h x o = record { sets = h.sets; output = h.output; results = h.results; blank = h.blank }
move_contents n count s on c l m e (first_value v p k q) h x o = contents_first n count c.degree s on l h v (inl k)
move_contents n count s on c l m e (first_none p q) h x o = contents_first n count c.degree s on l h none_value (inr (inl refl))
move_contents n count s on c l m e (own_echo p q) h x o = record { sets = h.sets; output = h.output; results = h.results; blank = h.blank }
move_contents n count s on c l m e (relay w p k q r) h x o = record { sets = h.sets; output = h.output; results = h.results; blank = h.blank }
move_contents n count s on c l m e (second_proposal_lem w p r k q) h x o = record { sets = h.sets; output = h.output; results = h.results; blank = h.blank }
move_contents n count s on c l m e (sure_result v p r k q) h x o = contents_result n count c.degree s on l h v true (inl k)
move_contents n count s on c l m e (none_result p r q) h x o = contents_result n count c.degree s on l h none_value false (inr (inl refl))
move_contents n count s on c l m e (unsure_result v p r k q q') h x o = contents_result n count c.degree s on l h v false (inl k)
move_contents n count s on c l m e (centre_output r y) h x o = contents_output n count c.degree s on l h c.centre (inr x)
move_contents n count s on c l m e (sure_entry r z t) h x o = h
move_contents n count s on c l m e (unsure_entry r z t) h x o = h
move_contents n count s on c l m e (centre_message r t) h x o = contents_told n count c.degree s on l h c.centre x (unanswered l)
move_contents n count s on c l m e (sided_entry k r z a b q) h x o = h
move_contents n count s on c l m e (told_output q y) h x o = contents_output n count c.degree s on l h c.centre (inr x)
move_contents n count s on c l m e (next_output_lem r y z) h x o = contents_output n count c.degree s on l h c.next_output o

-- a result of 1 or more is the number of a side
side_number : (d : ℕ) (l : Level) → Aside l → Value d l.result → l.result ≤ d
side_number d l a (inl h) = h
side_number d l a (inr (inl e)) = absurd (omega (arith, a.1))
side_number d l a (inr (inr e)) = absurd (omega (arith, a.1))

module _ (p : Party) (v : Valid p) (full : length p.levels ≡ level_count) (i : ℕ) (on : T (sending p i)) where
  abbrev S : Set
  S = component_of p i

  component : OfPlan p.plan (component_of p i)
  component = entered_plan p v full i (sending_entered p i on)

  -- ---- side k is entered at x

  pub descend_valid : (k x : ℕ) → (T (level_at p (i + 1)).entered → ⊥) → 1 ≤ k → k ≤ degree_of p.plan (component_of p i)
      → T (side_of p.plan (component_of p i) k x) → Valid (descend p i k x)
  descend_valid k x new low high t =
      subst (λ (j : ℕ). (T (level_at p j).entered → ⊥) → Valid (entering p j (side_of p.plan S k) k x)) (sym (add-one i)) go new
    where
      D : Set
      D = side_of p.plan S k

      q : Party
      q = entering p (suc i) D k x

      last : suc i < level_count
      last = sending_level p v full i on

      here : suc i < length p.levels
      here = omega (arith, last)

      same : sending q i ≡ sending p i
      same =
          sending_same p q i (board_entering p (suc i) D k x).plan (entry_above p (suc i) D k x i (omega arith))
          (ap (λ (l : Level). l.entered) (entry_other p (suc i) D k x i (λ e. omega arith)))

      entry : Entry q (suc i)
      entry =
          let l = entry_level p (suc i) D k x here in
          let e = (board_entering p (suc i) D k x).plan in
          let c = entry_above p (suc i) D k x i (omega arith) in
          (subst T (sym same) on, transport⁻¹ (λ z. 1 ≤ (l z).side) low, transport⁻¹ (λ z. (l z).side ≤ degree_of (e z) (c z)) high)

      go : (T (level_at p (suc i)).entered → ⊥) → Valid q
      go new =
          enter_valid p v full (suc i) D k x last new (entry_component p i D k x here) entry
          (component.below x (side_in p.plan S component k x t)) t

  -- neighbour k lies in side k
  gate_in : (k : ℕ) → 1 ≤ k → k ≤ (context_of p i).degree → T (side_of p.plan (component_of p i) k (gate p i k))
  unfolding context_of
  gate_in k low high = neighbour_in p.plan S component k low high

  -- and so does a position whose port is k
  place_in : (k : ℕ) → 1 ≤ k → k ≤ (context_of p i).degree → (b : Bool) → eqb (context_of p i).port k ≡ b
      → T (side_of p.plan (component_of p i) k (pick b (level_at p i).position (gate p i k)))
  unfolding context_of
  place_in k low high true e =
      port_in p.plan S component (level_at p i).position k (entered_place p v full i (sending_entered p i on)) low
      (eqb→eq (context_of p i).port k (subst T (sym e) tt))
  place_in k low high false e = gate_in k low high

  -- ---- one rule

  -- a rule that enters leaves the level's own record as it is
  enters : (k x : ℕ) → T (not (context_of p i).next_entered) → 1 ≤ k → k ≤ (context_of p i).degree → T (side_of p.plan (component_of p i) k x)
      → Valid (descend (with_level p i (level_at p i)) i k x)
  unfolding context_of
  enters k x new low high t =
      subst (λ (q : Party). Valid (descend q i k x)) (sym (level_back p i)) (descend_valid k x (T_not (level_at p (i + 1)).entered new) low high t)

  -- a rule that enters nothing changes the level's own record
  stays : (m : Level) (e : Effect) → Move (context_of p i) (level_at p i) m e → Valid (with_level p i m)
  unfolding context_of
  stays m e x =
      let u : Unmoved (level_at p i) m = move_unmoved (context_of p i) (level_at p i) m e x in
      let last : suc i < level_count = sending_level p v full i on in
      let c = component.below (context_of p i).centre (centre_in p.plan S component) in
      update_valid p v i m (omega arith) (record { entered = u.entered; side = u.side; position = u.position })
      (move_contents p.n p.plan.count (sending p i) on (context_of p i) (level_at p i) m e x (v.holds i (omega arith)) c
      (subst (λ (j : ℕ). Output p.plan.count (level_at p j).output) (sym (add-one i)) (v.holds (suc i) last).output))

  result_low : Aside (level_at p i) → (level_at p i).result ≤ (context_of p i).degree
  unfolding context_of
  result_low a = side_number (degree_of p.plan S) (level_at p i) a ((v.holds i (omega (arith, sending_level p v full i on))).results on).1

  pub move_valid : (m : Level) (e : Effect) → Move (context_of p i) (level_at p i) m e → Valid (after_rule p i m e)
  unfolding after_rule
  move_valid m e (port_echo a) = stays m e (port_echo a)
  move_valid m e (none_echo a b) = stays m e (none_echo a b)
  move_valid m e (first_proposal_lem w a b c) = stays m e (first_proposal_lem w a b c)
  move_valid m e (first_value w a b c) = stays m e (first_value w a b c)
  move_valid m e (first_none a b) = stays m e (first_none a b)
  move_valid m e (own_echo a b) = stays m e (own_echo a b)
  move_valid m e (relay w a b c d) = stays m e (relay w a b c d)
  move_valid m e (second_proposal_lem w a b c d) = stays m e (second_proposal_lem w a b c d)
  move_valid m e (sure_result w a b c d) = stays m e (sure_result w a b c d)
  move_valid m e (none_result a b c) = stays m e (none_result a b c)
  move_valid m e (unsure_result w a b c d f) = stays m e (unsure_result w a b c d f)
  move_valid m e (centre_output a b) = stays m e (centre_output a b)
  move_valid m e (sure_entry a b c) =
      let k : ℕ = (level_at p i).result in
      let h : k ≤ (context_of p i).degree = result_low a in
      enters k (pick (eqb (context_of p i).port k) (level_at p i).position (gate p i k)) b a.0 h (place_in k a.0 h (eqb (context_of p i).port k) refl)
  move_valid m e (unsure_entry a b c) =
      let k : ℕ = (level_at p i).result in
      let h : k ≤ (context_of p i).degree = result_low a in
      enters k (gate p i k) b a.0 h (gate_in k a.0 h)
  move_valid m e (centre_message a b) = stays m e (centre_message a b)
  move_valid m e (sided_entry k a b c d f) = enters k (gate p i k) b c d (gate_in k c d)
  move_valid m e (told_output a b) = stays m e (told_output a b)
  move_valid m e (next_output_lem a b c) = stays m e (next_output_lem a b c)

-- the lowest rule at a level where one applies
pub open_sending : (p : Party) (i : ℕ) → T (open_at p i) → T (sending p i)
unfolding open_at
open_sending p i h = T-left (sending p i) (applies (rule_at p i).effect) h

pub open_move : (p : Party) (i : ℕ) → T (open_at p i) → Move (context_of p i) (level_at p i) (rule_at p i).level (rule_at p i).effect
unfolding open_at rule_at
open_move p i h = lowest_moves (context_of p i) (level_at p i) (T-right (sending p i) (applies (rule_at p i).effect) h)

pub step_valid : (p : Party) → Valid p → length p.levels ≡ level_count → (i : ℕ) → T (open_at p i) → Valid (step_at p i)
step_valid p v full i h = move_valid p v full i (open_sending p i h) (rule_at p i).level (rule_at p i).effect (open_move p i h)
