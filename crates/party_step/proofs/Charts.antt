-- Charts of a party whose level's record changes, and of one that enters a level.
use mathlib.Core.Path.{◌≡◌, refl, sym, ap, ◌∙◌, subst}
use mathlib.Core.Bool.{Bool, true, false}
use mathlib.Core.List.{List}
use Prim.Native.Nat.{ℕ, suc, ◌+◌, ◌≤◌, ◌<◌}
use native.Mathlib.Decide.{ℕ_discrete, dec_lt}
use native.Mathlib.Omega.{arith}
use lib.Dec.{T, leb, ltb, ltb→lt, lt→ltb}
use lib.ListN.{length, get_or, set, length-set}
use lib.Seq.{get_or-set_same, get_or-set_other}
use Rattle.std.specs.Prelude.{Option, Some, None}
use Rattle.base.specs.Pick.{pick}
use Rattle.base.specs.Sets.{Set}
use Rattle.base.specs.Limits.{level_count}
use Rattle.base.proofs.Bools.{T-ext, false→not-T}
use Rattle.plan.specs.Plan.{Plan}
use Rattle.component.specs.declared.Component.{Component}
use Rattle.component.specs.declared.Survey.{Survey}
use Rattle.component.specs.Component.{size_of, side_of}
use Rattle.component.specs.Inner.{members, Numbered, Surveys, survey_of}
use Rattle.message.specs.declared.Message.{Message}
use Rattle.level.specs.Level.{Level, with_heard, with_entry}
use Rattle.level.specs.declared.Level as CodeLevel
use Rattle.level.specs.Tie.{as_level}
use Rattle.party.specs.declared.Chart.{Chart}
use Rattle.party.specs.Party.{Party, level_at, with_level, component_of, sending, entering, hearing}
use Rattle.party.specs.Inner.{Charts, no_survey}
use Rattle.party_laws.proofs.Laws.{Formed, level_field, board_with, component_side, entry_level, entry_other, entry_above, board_entering, sending_entered, sending_three, entered_sending, sending_level, entered_down}
use Rattle.party_laws.proofs.Updates.{sending_same}
use Rattle.party_step.specs.declared.Way.{Way}
use Rattle.party_step.specs.Inner.{place, Enters, Stepped}

-- ---- what a chart tells

module _ (p : Party) (c : Chart) (h : Charts p c) (i : ℕ) (l : i < level_count) where
  pub charted_sends : i < c.sending → T (sending p i)
  charted_sends k = subst T (sym (h.sends i l)) (lt→ltb i c.sending k)

  pub sends_charted : T (sending p i) → i < c.sending
  sends_charted k = ltb→lt i c.sending (subst T (h.sends i l) k)

  -- a level that is not entered does not send, nor do those after it
  pub new_charted : (level_at p i).entered ≡ false → c.sending ≤ i
  new_charted e = go (dec_lt i c.sending)
    where
      go : Dec (i < c.sending) → c.sending ≤ i
      go (yes k) = absurd (false→not-T e (sending_entered p i (charted_sends k)))
      go (no k) = omega arith

-- ---- a level's record changes

-- a level replaced by one that was entered likewise
pub charts_with : (p : Party) (c : Chart) (i : ℕ) (l : Level) → l.entered ≡ (level_at p i).entered → l.side ≡ (level_at p i).side
    → l.position ≡ (level_at p i).position → Charts p c → Charts (with_level p i l) c
charts_with p c i l e s x h = record {
  sends = λ j k. sending_same p q j plan (component j) (entered j) ∙ h.sends j k;
  last = h.last;
  surveys = λ j k. h.surveys j k ∙ (λ z. survey_of (sym plan z) (sym (component j) z) (sym (position j) z));
  deepest = λ j k f. ap (λ (y : Plan). members y c.deepest) plan ∙ h.deepest j k (sym (entered (suc j)) ∙ f) ∙ sym (component j);
  numbered = λ j k f. subst (λ (y : Plan). Numbered y c.deepest) (sym plan) (h.numbered j k (sym (entered (suc j)) ∙ f));
}
  where
    q : Party
    q = with_level p i l

    plan : (with_level p i l).plan ≡ p.plan
    plan = (board_with p i l).plan

    component : (j : ℕ) → component_of (with_level p i l) j ≡ component_of p j
    component = component_side p i l s

    entered : (j : ℕ) → (level_at (with_level p i l) j).entered ≡ (level_at p j).entered
    entered = level_field p i l (λ m. m.entered) e

    position : (j : ℕ) → (level_at (with_level p i l) j).position ≡ (level_at p j).position
    position = level_field p i l (λ m. m.position) x

pub charts_hearing : (p : Party) (c : Chart) (s : ℕ) (m : Message) → Charts p c → Charts (hearing p s m) c
unfolding hearing with_heard
charts_hearing p c s m h = charts_with p c m.level (with_heard (level_at p m.level) m.body s) refl refl refl h

-- ---- a level is entered

-- level i, the first that does not send, is entered over S
module _ (p : Party) (c : Chart) (i : ℕ) (S : Set) (k x : ℕ) (w : Formed p) (h : Charts p c) (at : c.sending ≡ i)
    (new : (level_at p i).entered ≡ false) (component : component_of (entering p i S k x) i ≡ S) where
  abbrev q : Party
  q = entering p i S k x

  plan : q.plan ≡ p.plan
  plan = (board_entering p i S k x).plan

  below : i < level_count
  below = omega (arith, h.last)

  -- the levels before it send as they did
  before : (j : ℕ) → j < i → sending q j ≡ sending p j
  before j l =
      sending_same p q j plan (entry_above p i S k x j l)
      (ap (λ (m : Level). m.entered) (entry_other p i S k x j (λ e. omega arith)))

  before_sends : (j : ℕ) → j < i → T (sending q j)
  before_sends j l = subst T (sym (before j l)) (charted_sends p c h j (omega arith) (omega arith))

  before_survey : (j : ℕ) → j < i → survey_of q.plan (component_of q j) (level_at q j).position ≡ survey_of p.plan (component_of p j) (level_at p j).position
  before_survey j l z =
      survey_of (plan z) (entry_above p i S k x j l z) (entry_other p i S k x j (λ e. omega arith) z).position

  -- those after it do not
  after_silent : (j : ℕ) → i < j → T (sending q j) → ⊥
  after_silent j l s =
      false→not-T new
      (entered_down p w i j (omega arith)
      (subst (λ (m : Level). T m.entered) (entry_other p i S k x j (λ e. omega arith)) (sending_entered q j s)))

  made : level_at q i ≡ with_entry (level_at p i) k x (pick (leb 3 (size_of p.plan S)) (level_at p i).output x)
  made = entry_level p i S k x (omega (arith, below, w.full))

  is_entered : T (level_at q i).entered
  is_entered = subst (λ (m : Level). T m.entered) (sym made) tt

  -- it sends where it has three or more positions
  here : (level_at q i).position ≡ x
  here = ap (λ (m : Level). m.position) made

  size : size_of q.plan (component_of q i) ≡ size_of p.plan S
  size z = size_of (plan z) (component z)

  here_sends : 3 ≤ size_of p.plan S → T (sending q i)
  here_sends l = entered_sending q i is_entered (subst (λ (n : ℕ). 3 ≤ n) (sym size) l)

  here_silent : size_of p.plan S < 3 → T (sending q i) → ⊥
  here_silent l s = omega (arith, sending_three q i s, size)

  -- with fewer positions the same levels send, and the component is not asked any more
  small_charts : (d : Component) → size_of p.plan S < 3 → Charts (entering p i S k x) (record { sending = c.sending; surveys = c.surveys; deepest = d })
  small_charts d l = record {
    sends = λ j m. T-ext (sending q j) (ltb j c.sending) (λ s. lt→ltb j c.sending (only j s (ℕ_discrete j i) (dec_lt j i))) (λ s. before_sends j (omega (arith, at, ltb→lt j c.sending s)));
    last = h.last;
    surveys = λ j m. h.surveys j m ∙ sym (before_survey j (omega arith));
    deepest = λ j e f. absurd (over j e f);
    numbered = λ j e f. absurd (over j e f);
  }
    where
      only : (j : ℕ) → T (sending q j) → Dec (j ≡ i) → Dec (j < i) → j < c.sending
      only j s (yes e) d = absurd (here_silent l (subst (λ (z : ℕ). T (sending q z)) e s))
      only j s (no e) (yes d) = omega arith
      only j s (no e) (no d) = absurd (after_silent j (omega arith) s)

      over : (j : ℕ) → c.sending ≡ suc j → (level_at q (suc j)).entered ≡ false → ⊥
      over j e f = false→not-T f (subst (λ (z : ℕ). T (level_at q z).entered) (sym at ∙ e) is_entered)

  -- with three or more the chart has one level more
  module _ (v : Formed (entering p i S k x)) (full : length c.surveys ≡ level_count) (l : 3 ≤ size_of p.plan S) (d : Component)
      (deepest : members p.plan d ≡ S) (numbers : Numbered p.plan d) where
    abbrev s : Survey
    s = survey_of p.plan S x

    only : (j : ℕ) → T (sending q j) → Dec (i < j) → j < i + 1
    only j t (yes e) = absurd (after_silent j e t)
    only j t (no e) = omega arith

    all : (j : ℕ) → j < i + 1 → Dec (j ≡ i) → T (sending q j)
    all j m (yes e) = subst (λ (z : ℕ). T (sending q z)) (sym e) (here_sends l)
    all j m (no e) = before_sends j (omega arith)

    mine : survey_of p.plan S x ≡ survey_of q.plan (component_of q i) (level_at q i).position
    mine z = survey_of (sym plan z) (sym component z) (sym here z)

    at_i : get_or (set c.surveys i s) i no_survey ≡ survey_of q.plan (component_of q i) (level_at q i).position
    at_i = get_or-set_same c.surveys i s no_survey (omega (arith, below, full)) ∙ mine

    survey : (j : ℕ) → j < i + 1 → Dec (j ≡ i) → get_or (set c.surveys i s) j no_survey ≡ survey_of q.plan (component_of q j) (level_at q j).position
    survey j m (yes e) = subst (λ (z : ℕ). get_or (set c.surveys i s) z no_survey ≡ survey_of q.plan (component_of q z) (level_at q z).position) (sym e) at_i
    survey j m (no e) =
        get_or-set_other c.surveys i j s no_survey e
        ∙ h.surveys j (omega arith) ∙ sym (before_survey j (omega arith))

    more_charts : Charts (entering p i S k x) (record { sending = i + 1; surveys = set c.surveys i (survey_of p.plan S x); deepest = d })
    more_charts = record {
      sends = λ j m.
          T-ext (sending q j) (ltb j (i + 1)) (λ t. lt→ltb j (i + 1) (only j t (dec_lt i j)))
          (λ t. all j (ltb→lt j (i + 1) t) (ℕ_discrete j i));
      last = (sending_level q v i (here_sends l)).next;
      surveys = λ j m. survey j m (ℕ_discrete j i);
      deepest = λ j e f.
          let y : i ≡ j = omega arith in
          ap (λ (y : Plan). members y d) plan ∙ deepest ∙ sym component ∙ ap (component_of q) y;
      numbered = λ j e f. subst (λ (y : Plan). Numbered y d) (sym plan) numbers;
    }

  -- as the code enters it
  module _ (old : CodeLevel.Level) (m : CodeLevel.Level) (after : Chart) (g : Enters p.plan S old k x i c m after) where
    pub entered_charts : Formed (entering p i S k x) → length c.surveys ≡ level_count → Charts (entering p i S k x) after
    entered_charts v full = go (dec_lt (size_of p.plan S) 3)
      where
        go : Dec (size_of p.plan S < 3) → Charts (entering p i S k x) after
        go (yes l) =
            let f = g.small l in
            let e : record { sending = c.sending; surveys = c.surveys; deepest = after.deepest } ≡ after =
            λ z. record { sending = sym f.sending z; surveys = sym f.surveys z; deepest = after.deepest } in
            subst (Charts (entering p i S k x)) e (small_charts after.deepest l)
        go (no l) =
            let f = g.large (omega arith) in
            let e : record { sending = i + 1; surveys = set c.surveys i (survey_of p.plan S x); deepest = after.deepest } ≡ after =
            λ z. record { sending = sym f.sending z; surveys = sym f.surveys z; deepest = after.deepest } in
            subst (Charts (entering p i S k x)) e (more_charts v full (omega arith) after.deepest f.deepest f.numbers)

-- the chart has a place for each level as before
enters_full : (p : Plan) (S : Set) (old : CodeLevel.Level) (k x i : ℕ) (c : Chart) (m : CodeLevel.Level) (after : Chart) → Enters p S old k x i c m after
    → length c.surveys ≡ level_count → length after.surveys ≡ level_count
enters_full p S old k x i c m after g full = go (dec_lt (size_of p S) 3)
  where
    go : Dec (size_of p S < 3) → length after.surveys ≡ level_count
    go (yes l) = ap length (g.small l).surveys ∙ full
    go (no l) = ap length (g.large (omega arith)).surveys ∙ length-set c.surveys i (survey_of p S x) ∙ full

pub stepped_full : (p : Plan) (c : Chart) (position : ℕ) (next : CodeLevel.Level) (i : ℕ) (o : Option Way) (m : CodeLevel.Level) (after : Chart)
    → Stepped p c position next i o m after → length c.surveys ≡ level_count → length after.surveys ≡ level_count
stepped_full p c position next i None m after g full = ap (λ (z : Chart). length z.surveys) g.1 ∙ full
stepped_full p c position next i (Some w) m after g full =
    enters_full p (side_of p (members p c.deepest) w.side) next w.side (place p (members p c.deepest) w.side w.keep position) i c m after g full

-- the record that the code stores is the definition's
pub entered_party : (p : Party) (i : ℕ) (S : Set) (k x : ℕ) (sets : List ℕ) (old : CodeLevel.Level) → level_at p i ≡ as_level sets old
    → (c : Chart) (m : CodeLevel.Level) (after : Chart) → Enters p.plan S old k x i c m after → with_level p i (as_level sets m) ≡ entering p i S k x
unfolding entering
entered_party p i S k x sets old q c m after g =
    ap (with_level p i)
    (g.level sets ∙ ap (λ (l : Level). with_entry l k x (pick (leb 3 (size_of p.plan S)) l.output x)) (sym q))
