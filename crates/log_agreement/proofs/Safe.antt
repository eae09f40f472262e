-- From level to level: how sound boards entered each, and how each came to its output (rules 9 to 14).
use mathlib.Core.Path.{◌≡◌, refl, sym, ap, ◌∙◌, subst₂, transport}
use mathlib.Core.Logic.{◌⊎◌, inl, inr}
use mathlib.Core.Bool.{false}
use Prim.Native.Nat.{ℕ, suc, ◌≤◌, ◌<◌}
use native.Mathlib.Decide.{dec_lt}
use native.Mathlib.Omega.{arith}
use lib.Dec.{T, T_not}
use Rattle.base.specs.Sets.{Set, count, Sound}
use Rattle.base.specs.Limits.{level_count}
use Rattle.base.proofs.Bools.{T-dec, T→true, not-T→false}
use Rattle.base.proofs.Counts.{sound_member}
use Rattle.plan.specs.Plan.{Plan}
use Rattle.component.specs.Component.{whole_of, size_of, centre_of, port_of, side_of}
use Rattle.message.specs.declared.Body.{Body}
use Rattle.message.specs.declared.Body.TheVariants.{Side, Centre}
use Rattle.message.specs.Message.{none_value}
use Rattle.level_laws.specs.Inner.{Aside, heard_from, CentreBy}
use Rattle.level_laws.proofs.Counted.{centre_reached}
use Rattle.level_laws.specs.Inner as records
use Rattle.level.specs.declared.Context.{Context}
use Rattle.level.specs.Level.{Level, no_output}
use Rattle.party.specs.Party.{Party, level_at, component_of, sending, context_of}
use Rattle.party_laws.proofs.Laws.{entered_level, sending_entered, sending_level, whole_component, next_component}
use Rattle.vote_machine.specs.Machine.{Sent}
use Rattle.vote_machine.specs.Inner.{Way, stays, moves, leads, follows}
use Rattle.vote_machine.proofs.Laws.{valued}
use Rattle.descent.specs.Inner.{Entry, Outcome, on_entry, by_zero, by_none, from_below, Shared, Graded, Facts}
use Rattle.descent.specs.Inner as levels
use Rattle.log_agreement.proofs.Joint.{Joint}
use Rattle.log_agreement.proofs.Views.{plan_shape, EnteredAt, ResultAt, NoneAt, OutputAt, levels_of, large, sends, context_n, context_t, context_centre, next_output_lem}
use Rattle.log_agreement.proofs.Shared.{level_graded}

module _ {n t agreement : ℕ} {plan : Plan} {bad : Set} {st : ℕ → Party} (J : Joint n t agreement plan bad st) where
  -- a message heard from t+1 boards was made by a sound one
  pub sound_sender : (i L : ℕ) (b : Body) → t < count n (heard_from (level_at (st i) L) b)
      → (j : ℕ) × Sound n bad j × Sent (st j) (record { number = agreement; level = L; body = b })
  sound_sender i L b h =
      let r = sound_member n t bad (heard_from (level_at (st i) L) b) J.few h in
      let g : Sound n bad r.0 = (r.1, r.3) in
      (r.0, g, J.authentic i r.0 (record { number = agreement; level = L; body = b }) g (record { number = sym (J.seated i).number; body = r.2 }))

  -- a sender of side k has the result k, of grade 1
  pub side_result : (j L k : ℕ) → Sent (st j) (record { number = agreement; level = L; body = Side k }) → ResultAt (st j) L k false
  side_result j L k s = record {
    sends = s.sends;
    result = s.body.0;
    value = s.body.4;
    grade = not-T→false (level_at (st j) L).sure (T_not (level_at (st j) L).sure s.body.1);
  }

  -- a sender of centre has the result none
  pub centre_none : (j L : ℕ) → Sent (st j) (record { number = agreement; level = L; body = Centre }) → NoneAt (st j) L
  centre_none j L s = record { sends = s.sends; result = (((J.inv j).regular.law L s.sends).told s.body).0 }

  -- ---- level 0

  -- it is over the whole plan
  at_whole : (i : ℕ) → component_of (st i) 0 ≡ whole_of plan
  at_whole i = whole_component (st i) ∙ ap (λ (q : Plan). whole_of q) (J.seated i).on

  -- an entered level has its position in its component
  pub place_in : (i L : ℕ) (S : Set) (x : ℕ) → EnteredAt (st i) L S x → T (S x)
  place_in i L S x e =
      subst₂ (λ (c : Set) (y : ℕ). T (c y)) (sym e.over) (sym e.place) (entered_level (st i) (J.inv i).regular.formed L e.entered).place

  -- ---- entering the next level

  -- board i has entered the level after L, by side k
  module _ (i L : ℕ) (g : Sound n bad i) (next : T (level_at (st i) (suc L)).entered) where
    abbrev p : Party
    p = st i

    abbrev k : ℕ
    k = (level_at (st i) (suc L)).side

    abbrev on : T (sending (st i) L)
    on = (entered_level p (J.inv i).regular.formed (suc L) next).entry.0

    -- it has entered L, which sends
    here : EnteredAt (st i) L (component_of (st i) L) (level_at (st i) L).position
    here = record { entered = sending_entered p L on; over = refl; place = refl }

    -- k is a value of 1 or more
    low : 1 ≤ (level_at (st i) (suc L)).side
    low = (entered_level p (J.inv i).regular.formed (suc L) next).entry.1

    high : (level_at (st i) (suc L)).side < none_value
    high =
        let e = (entered_level p (J.inv i).regular.formed (suc L) next).entry in
        omega (arith, e.2, (entered_level p (J.inv i).regular.formed L (sending_entered p L on)).degree)

    side_here : component_of (st i) (suc L) ≡ side_of plan (component_of (st i) L) (level_at (st i) (suc L)).side
    side_here = next_component p L ∙ (λ z. side_of ((J.seated i).on z) (component_of p L) k)

    -- rules 10 and 12
    entered_by : Way plan (component_of (st i) L) n t (level_at (st i) L) (level_at (st i) (suc L)).side (level_at (st i) (suc L)).position
        → Entry (plan_shape plan) (levels_of plan st) n bad i L (component_of (st i) (suc L)) (level_at (st i) (suc L)).position
    entered_by (stays r s c e) =
        levels.stays (component_of p L) k (record { entered = here.entered; over = refl; place = e }) (large p (J.seated i) L on)
        (record { sends = on; result = r; value = high; grade = T→true (level_at p L).sure s }) low
        (ap (port_of plan (component_of p L)) e ∙ c) side_here
    entered_by (moves r s c e) =
        levels.moves (component_of p L) (level_at p L).position k here (large p (J.seated i) L on)
        (record { sends = on; result = r; value = high; grade = T→true (level_at p L).sure s }) low c side_here e
    entered_by (leads r s e) =
        levels.follows (component_of p L) (level_at p L).position i k here (large p (J.seated i) L on) g
        (record { sends = on; result = r; value = high; grade = not-T→false (level_at p L).sure (T_not (level_at p L).sure s) }) low side_here e
    entered_by (follows r c e) =
        let j = sound_sender i L (Side k) c in
        levels.follows (component_of p L) (level_at p L).position j.0 k here (large p (J.seated i) L on) j.1 (side_result j.0 L k j.2) low side_here e

    pub entry : (S : Set) (x : ℕ) → EnteredAt (st i) (suc L) S x → Entry (plan_shape plan) (levels_of plan st) n bad i L S x
    entry S x e =
        let s = J.seated i in
        subst₂ (λ (c : Set) (y : ℕ). Entry (plan_shape plan) (levels_of plan st) n bad i L c y) (sym e.over) (sym e.place)
        (entered_by (transport (λ z. Way (s.on z) (component_of p L) (s.boards z) (s.faults z) (level_at p L) k (level_at p (suc L)).position) ((J.inv i).regular.entry L next)))

  -- ---- outputs

  -- board i has the output y at level L
  module _ (i L y : ℕ) (g : Sound n bad i) (o : OutputAt (st i) L y) where
    abbrev place : EnteredAt (st i) L (component_of (st i) L) (level_at (st i) L).position
    place = record { entered = o.entered; over = refl; place = refl }

    abbrev Came : Type 0
    Came = Outcome (plan_shape plan) (levels_of plan st) n bad i L y

    -- in a component of one or two positions
    by_entry : (T (sending (st i) L) → ⊥) → Came
    by_entry off =
        on_entry (component_of (st i) L)
        (record { entered = o.entered; over = refl; place = sym o.output ∙ (J.inv i).regular.small L o.entered off })
        (small (dec_lt 2 (size_of plan (component_of (st i) L))))
      where
        small : Dec (2 < size_of plan (component_of (st i) L)) → size_of plan (component_of (st i) L) ≤ 2
        small (yes k) = absurd (off (sends (st i) (J.seated i) L o.entered k))
        small (no k) = omega arith

    module _ (on : T (sending (st i) L)) where
      abbrev c : Context
      c = context_of (st i) L

      abbrev l : Level
      l = level_at (st i) L

      abbrev three : 3 ≤ size_of plan (component_of (st i) L)
      three = large (st i) (J.seated i) L on

      -- rules 9, 11 and 13
      by_centre : (level_at (st i) L).output ≡ (context_of (st i) L).centre → CentreBy (context_of (st i) L) (level_at (st i) L) → Came
      by_centre e b = go b
        where
          mid : y ≡ centre_of plan (component_of (st i) L)
          mid = sym o.output ∙ e ∙ context_centre (st i) (J.seated i) L

          go : CentreBy c l → Came
          go (records.by_zero r) =
              by_zero (component_of (st i) L) l.position l.sure place three (record { sends = on; result = r; value = omega arith; grade = refl }) mid
          go (records.by_none r) = by_none (component_of (st i) L) l.position i place three g (record { sends = on; result = r }) mid
          go (records.by_messages h) =
              let w = valued (st i) (J.inv i).regular.formed L o.entered in
              let r = (centre_reached c l w ((J.inv i).regular.law L on).heard).0 h in
              let j = sound_sender i L Centre (subst₂ (λ (a b : ℕ). a < count b (heard_from l Centre)) (context_t (st i) (J.seated i) L) (context_n (st i) (J.seated i) L) r) in
              by_none (component_of (st i) L) l.position j.0 place three j.1 (centre_none j.0 L j.2) mid

      -- an output of the next level: it is entered
      below_entered : ((level_at (st i) (suc L)).output ≡ no_output → ⊥) → T (level_at (st i) (suc L)).entered
      below_entered d = go (T-dec (level_at (st i) (suc L)).entered)
        where
          go : Dec (T (level_at (st i) (suc L)).entered) → T (level_at (st i) (suc L)).entered
          go (yes h) = h
          go (no h) = absurd (d ((J.inv i).regular.fresh (suc L) (omega (arith, (sending_level (st i) (J.inv i).regular.formed L on).next)) h).output)

      -- rule 14
      by_next : (level_at (st i) L).output ≡ (context_of (st i) L).next_output → Aside (level_at (st i) L) → Came
      by_next e a =
          let q : (level_at (st i) (suc L)).output ≡ y = sym (next_output_lem (st i) L) ∙ sym e ∙ o.output in
          from_below (component_of (st i) L) l.position l.result l.sure place three
          (record { sends = on; result = refl; value = a.1; grade = refl }) a.0
          (record { entered = below_entered (λ z. o.there (sym q ∙ z)); output = q; there = o.there })

      by_rule : (((level_at (st i) L).output ≡ (context_of (st i) L).centre) × CentreBy (context_of (st i) L) (level_at (st i) L))
          ⊎ (((level_at (st i) L).output ≡ (context_of (st i) L).next_output) × Aside (level_at (st i) L)) → Came
      by_rule (inl x) = by_centre x.0 x.1
      by_rule (inr x) = by_next x.0 x.1

    pub outcome : Outcome (plan_shape plan) (levels_of plan st) n bad i L y
    outcome = go (T-dec (sending (st i) L))
      where
        go : Dec (T (sending (st i) L)) → Came
        go (yes on) = by_rule on ((J.inv i).regular.output L on (λ z. o.there (sym o.output ∙ z)))
        go (no off) = by_entry off

  -- ---- all of it

  -- no board sends past the last level
  sends_low : (i L : ℕ) → T (sending (st i) L) → L < level_count
  sends_low i L on = omega (arith, (sending_level (st i) (J.inv i).regular.formed L on).next)

  -- rules 1 to 8
  graded : (L : ℕ) (S : Set) → Shared (plan_shape plan) (levels_of plan st) n bad L S
      → Graded (plan_shape plan) (levels_of plan st) n bad L S
  graded L S h = go (dec_lt L level_count)
    where
      go : Dec (L < level_count) → Graded (plan_shape plan) (levels_of plan st) n bad L S
      go (yes low) = level_graded J L low S (λ i g on. (h i (component_of (st i) L) (level_at (st i) L).position g (record { entered = sending_entered (st i) L on; over = refl; place = refl })).0)
      go (no d) = record {
        agree = λ i j v w a b si sj r q. absurd (d (sends_low i L r.sends));
        unsure = λ i j v si sj r q. absurd (d (sends_low i L r.sends));
        port = λ i v a g r. absurd (d (sends_low i L r.sends));
        mixed = λ i v g r. absurd (d (sends_low i L r.sends));
        split = λ i g r. absurd (d (sends_low i L r.sends));
      }

  pub facts : Facts (plan_shape plan) (levels_of plan st) n bad (whole_of plan)
  facts = record {
    first = λ i S x g e. (e.over ∙ at_whole i, place_in i 0 S x e);
    entry = λ i L S x g e. entry i L g e.entered S x e;
    outcome = λ i L y g o. outcome i L y g o;
    graded = λ L S C k h. graded L S h;
  }
