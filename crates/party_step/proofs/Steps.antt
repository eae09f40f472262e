-- One rule applied: what it asks, and the party after it with its chart.
use mathlib.Core.Path.{◌≡◌, refl, sym, ap, ◌∙◌, subst}
use mathlib.Core.Bool.{Bool, true, false, not}
use mathlib.Core.List.{List}
use Prim.Native.Nat.{ℕ, suc, ◌+◌, ◌≤◌, ◌<◌}
use native.Mathlib.Numerals.{add-one}
use native.Mathlib.Omega.{arith}
use lib.Dec.{T, leb, T_not}
use lib.ListN.{length, get_or, set}
use Rattle.std.specs.Prelude.{Option, Some, None}
use Rattle.base.specs.Pick.{pick}
use Rattle.base.specs.Sets.{Set}
use Rattle.base.specs.Limits.{level_count}
use Rattle.base.proofs.Bools.{not-T→false}
use Rattle.component.specs.declared.Survey.{Survey}
use Rattle.component.specs.Component.{size_of, centre_of, degree_of, side_of}
use Rattle.component.specs.Inner.{Lent, OfPlan, members, survey_of}
use Rattle.level.specs.Level.{Level, with_entry}
use Rattle.level.specs.declared.Level as CodeLevel
use Rattle.level.specs.declared.Context.{Context}
use Rattle.level.specs.Rules.{Applied, applies}
use Rattle.level.specs.Rules.{Effect, Nothing, Quiet, Send, Enter, SendEnter}
use Rattle.level.specs.Tie.{as_level}
use Rattle.level_laws.proofs.Moves.{Move}
use Rattle.level_laws.proofs.Moves.{port_echo, none_echo, first_proposal_lem, first_value, first_none, own_echo, relay, second_proposal_lem, sure_result, none_result, unsure_result, centre_output, sure_entry, unsure_entry, centre_message, sided_entry, told_output, next_output_lem}
use Rattle.level_laws.proofs.Grows.{Unmoved, move_unmoved}
use Rattle.party.specs.declared.Chart.{Chart}
use Rattle.party.specs.Party.{Party, level_at, with_level, component_of, context_of, sending, entering}
use Rattle.party.specs.Run.{rule_at, open_at, gate, descend, after_rule, step_at}
use Rattle.party.specs.Inner.{Charts, no_survey}
use Rattle.party_laws.proofs.Laws.{Formed, Entry, SendingLevel, EnteredLevel, level_other, level_back, entry_level, entry_above, board_entering, descend_component, entered_level, sending_level, open_sending, open_move, formed_step}
use Rattle.party_step.specs.declared.Way.{Way}
use Rattle.party_step.specs.Inner.{way_of, place, Enters, Descends, Below, Stepped}
use Rattle.party_step.proofs.Charts.{charts_with, sends_charted, new_charted, entered_charts, entered_party}

-- a rule that enters leaves its level's record, and the next level was not entered
abbrev Still : Context → Level → Level → Option Way → Type 0
Still c l m o = (v : Way) → o ≡ Some v → (m ≡ l) × T (not c.next_entered)

never : {A : Type 0} (v : Way) → None ≡ Some v → A
never v e = cc

move_still : (c : Context) (l m : Level) (e : Effect) → Move c l m e → Still c l m (way_of e)
move_still c l m e (port_echo a) = never
move_still c l m e (none_echo a b) = never
move_still c l m e (first_proposal_lem w a b d) = never
move_still c l m e (first_value w a b d) = never
move_still c l m e (first_none a b) = never
move_still c l m e (own_echo a b) = never
move_still c l m e (relay w a b d f) = never
move_still c l m e (second_proposal_lem w a b d f) = never
move_still c l m e (sure_result w a b d f) = never
move_still c l m e (none_result a b d) = never
move_still c l m e (unsure_result w a b d f g) = never
move_still c l m e (centre_output a b) = never
move_still c l m e (sure_entry a b d) = λ _ _. (refl, b)
move_still c l m e (unsure_entry a b d) = λ _ _. (refl, b)
move_still c l m e (centre_message a b) = never
move_still c l m e (sided_entry k a b d f g) = λ _ _. (refl, b)
move_still c l m e (told_output a b) = never
move_still c l m e (next_output_lem a b d) = never

-- the party after a rule that applies, by what it enters
module _ (p : Party) (i : ℕ) (l : Level) where
  -- side k of level i is entered, at the old position where `keep`, else at neighbour k
  abbrev into : Way → Party
  into w = descend (with_level p i l) i w.side (pick w.keep (level_at p i).position (gate p i w.side))

  after_stays : (e : Effect) → T (applies e) → way_of e ≡ None → after_rule p i l e ≡ with_level p i l
  unfolding after_rule
  after_stays Nothing t f = absurd t
  after_stays Quiet t f = refl
  after_stays (Send b) t f = refl
  after_stays (Enter k keep) t f = never (record { side = k; keep = keep }) (sym f)
  after_stays (SendEnter k) t f = never (record { side = k; keep = false }) (sym f)

  after_enters : (e : Effect) (v : Way) → way_of e ≡ Some v → after_rule p i l e ≡ into v
  unfolding after_rule
  after_enters Nothing v f = never v f
  after_enters Quiet v f = never v f
  after_enters (Send b) v f = never v f
  after_enters (Enter k keep) v f = let q : record { side = k; keep = keep } ≡ v = cc in ap into q
  after_enters (SendEnter k) v f = let q : record { side = k; keep = false } ≡ v = cc in ap into q

module _ (p : Party) (c : Chart) (i : ℕ) (a : Applied) (w : Formed p) (h : Charts p c) (on : T (open_at p i)) (rule : a ≡ rule_at p i) where
  move : Move (context_of p i) (level_at p i) a.level a.effect
  move = subst (λ (b : Applied). Move (context_of p i) (level_at p i) b.level b.effect) (sym rule) (open_move p i on)

  by_rule : after_rule p i a.level a.effect ≡ step_at p i
  by_rule = ap (λ (b : Applied). after_rule p i b.level b.effect) rule

  at : SendingLevel p i
  at = sending_level p w i (open_sending p i on)

  pub step_next : i + 1 < level_count
  step_next = at.next

  unmoved : Unmoved (level_at p i) a.level
  unmoved = move_unmoved (context_of p i) (level_at p i) a.level a.effect move

  -- ---- no level is entered

  step_stays : T (applies a.effect) → way_of a.effect ≡ None → (with_level p i a.level ≡ step_at p i) × Charts (step_at p i) c
  step_stays t f =
      let e : with_level p i a.level ≡ step_at p i = sym (after_stays p i a.level a.effect t f) ∙ by_rule in
      (e, subst (λ (q : Party). Charts q c) e (charts_with p c i a.level unmoved.entered unmoved.side unmoved.position h))

  -- ---- the next one is

  module _ (v : Way) (on-way : way_of a.effect ≡ Some v) where
    abbrev k : ℕ
    k = v.side

    abbrev keep : Bool
    keep = v.keep

    still : (a.level ≡ level_at p i) × T (not (context_of p i).next_entered)
    still = move_still (context_of p i) (level_at p i) a.level a.effect move v on-way

    back : with_level p i a.level ≡ p
    back = ap (with_level p i) still.0 ∙ level_back p i

    new : (level_at p (i + 1)).entered ≡ false
    unfolding context_of
    new = not-T→false (level_at p (i + 1)).entered (T_not (level_at p (i + 1)).entered still.1)

    abbrev x : ℕ
    x = pick keep (level_at p i).position (gate p i k)

    abbrev side : Set
    side = side_of p.plan (component_of p i) k

    abbrev target : Party
    target = entering p (i + 1) side k x

    target_step : target ≡ step_at p i
    target_step =
        ap (λ (q : Party). descend q i k x) (sym back) ∙ sym (after_enters p i a.level a.effect v on-way) ∙ by_rule

    formed : Formed target
    formed = subst Formed (sym target_step) (formed_step p w i on)

    full : i + 1 < length p.levels
    full = omega (arith, at.next, w.full)

    made : level_at target (i + 1) ≡ with_entry (level_at p (i + 1)) k x (pick (leb 3 (size_of p.plan side)) (level_at p (i + 1)).output x)
    made = entry_level p (i + 1) side k x full

    entered : EnteredLevel target (i + 1)
    entered = entered_level target formed (i + 1) (subst (λ (m : Level). T m.entered) (sym made) tt)

    component : component_of target (i + 1) ≡ side
    component = descend_component p i k x full

    -- what the target's entry tells of the side
    entry : Entry target (suc i)
    entry = subst (Entry target) (add-one i) entered.entry

    side_k : (level_at target (suc i)).side ≡ k
    side_k = subst (λ (j : ℕ). (level_at target j).side ≡ k) (add-one i) (ap (λ (m : Level). m.side) made)

    low : 1 ≤ k
    low = subst (λ (n : ℕ). 1 ≤ n) side_k entry.1

    high : k ≤ degree_of p.plan (component_of p i)
    high =
        let d : degree_of target.plan (component_of target i) ≡ degree_of p.plan (component_of p i) =
        λ z. degree_of ((board_entering p (i + 1) side k x).plan z) (entry_above p (i + 1) side k x i (omega arith) z) in
        omega (arith, entry.2, side_k, d)

    side_plan : OfPlan p.plan side
    side_plan = subst (λ y. OfPlan y side) (board_entering p (i + 1) side k x).plan (subst (OfPlan target.plan) component entered.plan)

    side_place : T (side x)
    side_place =
        subst (λ (y : ℕ). T (side y)) (ap (λ (m : Level). m.position) made)
        (subst (λ (y : Set). T (y (level_at target (i + 1)).position)) component entered.place)

    -- what the chart and its component tell of level i
    level_next : c.sending ≡ i + 1
    level_next =
        omega (arith, at.next, sends_charted p c h i (omega (arith, at.next)) (open_sending p i on), new_charted p c h (i + 1) at.next new)

    not_yet : (level_at p (suc i)).entered ≡ false
    not_yet = subst (λ (j : ℕ). (level_at p j).entered ≡ false) (add-one i) new

    deepest : members p.plan c.deepest ≡ component_of p i
    deepest = h.deepest i (level_next ∙ add-one i) not_yet

    centre : (get_or c.surveys i no_survey).centre ≡ centre_of p.plan (component_of p i)
    unfolding survey_of
    centre = ap (λ (s : Survey). s.centre) (h.surveys i (omega (arith, level_next)))

    -- of the level's component, and so of the set that is kept
    abbrev Asked : Set → Type 0
    Asked S = OfPlan p.plan S × (3 ≤ size_of p.plan S) × ((get_or c.surveys i no_survey).centre ≡ centre_of p.plan S) × (k ≤ degree_of p.plan S)
        × OfPlan p.plan (side_of p.plan S k) × T (side_of p.plan S k (place p.plan S k keep (level_at p i).position))

    asked : Asked (members p.plan c.deepest)
    asked = subst Asked (sym deepest) (at.level.plan, at.three, centre, high, side_plan, side_place)

    pub step_descends : Lent p.plan
        → Descends p.plan c.deepest (get_or c.surveys i no_survey).centre (level_at p i).position v
    step_descends r = record {
      rows = r;
      has = record {
        surveyed = record { of = asked.0; three = asked.1; numbers = h.numbered i (level_next ∙ add-one i) not_yet };
        at = asked.2;
        low = low;
        high = asked.3;
      };
      of = asked.4;
      place = asked.5;
    }

    -- the next level as the code stores it, and the chart
    module _ (sets : List ℕ) (old : CodeLevel.Level) (is-old : level_at p (i + 1) ≡ as_level sets old) (m : CodeLevel.Level) (after : Chart)
        (g₀ : Below p.plan c (level_at p i).position old (i + 1) v m after) where
      g : Enters p.plan side old k x (i + 1) c m after
      g = subst (λ (S : Set). Enters p.plan (side_of p.plan S k) old k (place p.plan S k keep (level_at p i).position) (i + 1) c m after) deepest g₀

      step_enters : length c.surveys ≡ level_count → (with_level (with_level p i a.level) (i + 1) (as_level sets m) ≡ step_at p i) × Charts (step_at p i) after
      step_enters full_chart = (
        ap (λ (q : Party). with_level q (i + 1) (as_level sets m)) back ∙ entered_party p (i + 1) side k x sets old is-old c m after g ∙ target_step,
        subst (λ (q : Party). Charts q after) target_step
            (entered_charts p c (i + 1) side k x w h level_next new component old m after g formed full_chart),
      )

  -- ---- whichever it is

  module _ (sets : List ℕ) (old : CodeLevel.Level) (is-old : level_at p (i + 1) ≡ as_level sets old) (m : CodeLevel.Level) (after : Chart)
      (g : Stepped p.plan c (level_at p i).position old (i + 1) (way_of a.effect) m after) where
    abbrev Led : Type 0
    Led = (with_level (with_level p i a.level) (i + 1) (as_level sets m) ≡ step_at p i) × Charts (step_at p i) after

    next_stays : m ≡ old → with_level (with_level p i a.level) (i + 1) (as_level sets m) ≡ with_level p i a.level
    next_stays q =
        ap (λ (l : CodeLevel.Level). with_level (with_level p i a.level) (i + 1) (as_level sets l)) q
        ∙ ap (with_level (with_level p i a.level) (i + 1)) (sym is-old ∙ sym (level_other p i a.level (i + 1) (λ e. omega arith)))
        ∙ level_back (with_level p i a.level) (i + 1)

    pub step_led : T (applies a.effect) → length c.surveys ≡ level_count → (with_level (with_level p i a.level) (i + 1) (as_level sets m) ≡ step_at p i) × Charts (step_at p i) after
    step_led t full_chart = go (way_of a.effect) refl g
      where
        go : (o : Option Way) → way_of a.effect ≡ o → Stepped p.plan c (level_at p i).position old (i + 1) o m after → Led
        go None f s = let y = step_stays t f in (next_stays s.0 ∙ y.0, subst (Charts (step_at p i)) (sym s.1) y.1)
        go (Some v) f s = step_enters v f sets old is-old m after s full_chart
