-- Once every sound board has taken all that sound boards made: what each has done at its levels, since no rule applies.
use mathlib.Core.Path.{◌≡◌, refl, sym, ap, ◌∙◌, subst, subst₂}
use mathlib.Core.Logic.{◌⊎◌}
use mathlib.Core.Bool.{Bool, false}
use Prim.Native.Nat.{ℕ, suc, ◌≤◌, ◌<◌}
use native.Mathlib.Omega.{arith}
use lib.Dec.{T, not_T}
use Rattle.base.specs.Sets.{Set, count, Sound}
use Rattle.base.proofs.Bools.{false→not-T}
use Rattle.base.proofs.Counts.{count_mono}
use Rattle.plan.specs.Plan.{Plan}
use Rattle.component.specs.Component.{size_of, degree_of}
use Rattle.component_laws.proofs.Laws.{of_plan, port_most}
use Rattle.message.specs.declared.Body.{Body}
use Rattle.message.specs.declared.Body.TheVariants.{Side, Centre}
use Rattle.message.specs.declared.Message.{Message}
use Rattle.level_laws.specs.Inner.{Answered, Aside, heard_from}
use Rattle.level_laws.proofs.Moves.{AtRest}
use Rattle.level_laws.proofs.Counted.{sided_reached, centre_reached}
use Rattle.level_laws.proofs.Output.{rest_none}
use Rattle.party.specs.Party.{Party, level_at, component_of, sending, context_of}
use Rattle.party_laws.proofs.Laws.{entered_level, sending_level, position_output}
use Rattle.vote_machine.specs.Machine.{Heard, Sent}
use Rattle.vote_machine.proofs.Laws.{valued, at_rest}
use Rattle.descent.specs.Inner.{OnSide, Shared, Reached, Many, Quiet}
use Rattle.log_agreement.proofs.Joint.{Joint}
use Rattle.log_agreement.proofs.Views.{plan_shape, EnteredAt, ResultAt, NoneAt, OutputAt, levels_of, large, sends, context_n, context_t, context_degree, next_entered_lem, next_output_lem}
use Rattle.log_agreement.proofs.Shared.{level_result}

module _ {n t agreement : ℕ} {plan : Plan} {bad : Set} {st : ℕ → Party} (J : Joint n t agreement plan bad st)
    (delivered : (i j : ℕ) (m : Message) → Sound n bad i → Sound n bad j → Sent (st j) m → Heard (st i) j m) where
  -- a board that entered a component of three or more positions sends
  sends_here : (i L : ℕ) (S : Set) (x : ℕ) → EnteredAt (st i) L S x → 3 ≤ size_of plan S → T (sending (st i) L)
  sends_here i L S x e k = sends (st i) (J.seated i) L e.entered (subst (λ (c : Set). 3 ≤ size_of plan c) e.over k)

  -- an output that is there
  abbrev Told : ℕ → ℕ → Type 0
  Told i L = (y : ℕ) × OutputAt (st i) L y

  told : (i L : ℕ) → T (level_at (st i) L).entered → Answered (level_at (st i) L) → Told i L
  told i L e a = ((level_at (st i) L).output, record { entered = e; output = refl; there = a })

  -- a level that sends
  module _ (i L : ℕ) (on : T (sending (st i) L)) where
    rest : AtRest (context_of (st i) L) (level_at (st i) L)
    rest = at_rest (st i) (J.inv i) L on

    -- a message made by more than t sound boards was heard from as many
    heard_many : (b : Body) (P : ℕ → Type 0) → Sound n bad i → Many (plan_shape plan) (levels_of plan st) n bad t P
        → ((j : ℕ) → Sound n bad j → P j → Sent (st j) (record { number = agreement; level = L; body = b }))
        → (context_of (st i) L).t < count (context_of (st i) L).n (heard_from (level_at (st i) L) b)
    heard_many b P g (f, k, each) made =
        subst₂ (λ (x y : ℕ). x < count y (heard_from (level_at (st i) L) b)) (sym (context_t (st i) (J.seated i) L)) (sym (context_n (st i) (J.seated i) L))
        (omega (
          arith,
          k,
          count_mono n f (heard_from (level_at (st i) L) b) (λ j l q.
              let r = each j l q in
              (delivered i j (record { number = agreement; level = L; body = b }) g r.0 (made j r.0 r.1)).body),
        ))

    -- the next level is entered
    onward : T (context_of (st i) L).next_entered → Reached (plan_shape plan) (levels_of plan st) n bad i (suc L)
    onward e =
        (component_of (st i) (suc L), (level_at (st i) (suc L)).position, record { entered = subst T (next_entered_lem (st i) L) e; over = refl; place = refl })

  -- a result of value 1 or more
  aside : (i L k : ℕ) (a : Bool) → ResultAt (st i) L k a → 1 ≤ k → Aside (level_at (st i) L)
  aside i L k a r low = (omega (arith, r.result, low), omega (arith, r.result, r.value))

  -- side k was made where the result is k at grade 1
  side_sent : (j L k : ℕ) → 1 ≤ k → ResultAt (st j) L k false → Sent (st j) (record { number = agreement; level = L; body = Side k })
  side_sent j L k low r = record {
    number = sym (J.seated j).number;
    sends = r.sends;
    body = (r.result, not_T (level_at (st j) L).sure (false→not-T r.grade), (rest j L r.sends).entry (aside j L k false r low), low, r.value);
  }

  -- centre was made where the result is none
  centre_sent : (j L : ℕ) → NoneAt (st j) L → Sent (st j) (record { number = agreement; level = L; body = Centre })
  centre_sent j L r = record { number = sym (J.seated j).number; sends = r.sends; body = (rest j L r.sends).centre_message r.result }

  -- in a component of one or two positions the output is the position
  small_told : (i L : ℕ) (S : Set) (x : ℕ) → EnteredAt (st i) L S x → size_of plan S ≤ 2 → Told i L
  small_told i L S x e k =
      let w = (J.inv i).regular.formed in
      let c = entered_level (st i) w L e.entered in
      told i L e.entered (λ z.
      position_output (st i) w (level_at (st i) L).position (c.plan.below (level_at (st i) L).position c.place)
      (sym ((J.inv i).regular.small L e.entered off) ∙ z))
    where
      off : T (sending (st i) L) → ⊥
      off on = omega (arith, subst (λ (y : Set). size_of plan y ≤ 2) e.over k, large (st i) (J.seated i) L on)

  -- rules 1 to 8
  resulted : (L : ℕ) (S : Set) → 3 ≤ size_of plan S → Shared (plan_shape plan) (levels_of plan st) n bad L S
      → ((i : ℕ) → Sound n bad i → Reached (plan_shape plan) (levels_of plan st) n bad i L)
      → (i : ℕ) → Sound n bad i → ((v : ℕ) × (a : Bool) × ResultAt (st i) L v a) ⊎ NoneAt (st i) L
  resulted L S k shared all i g =
      level_result J L (omega (arith, (sending_level (st i) (J.inv i).regular.formed L (on i g)).next)) S (λ j s _. over j s) delivered on i g
    where
      over : (j : ℕ) → Sound n bad j → component_of (st j) L ≡ S
      over j s = let r = all j s in sym r.2.over ∙ (shared j r.0 r.1 s r.2).0

      on : (j : ℕ) → Sound n bad j → T (sending (st j) L)
      on j s =
          let r = all j s in
          sends_here j L r.0 r.1 r.2 (subst (λ (c : Set). 3 ≤ size_of plan c) (sym (shared j r.0 r.1 s r.2).0) k)

  -- rule 12
  led : (i L : ℕ) (S : Set) (x y k : ℕ) → Sound n bad i → EnteredAt (st i) L S x → OnSide (plan_shape plan) S y k → NoneAt (st i) L
      → Many (plan_shape plan) (levels_of plan st) n bad t (λ j. ResultAt (st j) L k false)
      → Reached (plan_shape plan) (levels_of plan st) n bad i (suc L)
  led i L S x y k g e s r many =
      let high : k ≤ (context_of (st i) L).degree =
      omega (
        arith,
        s.port,
        port_most plan S (of_plan plan S J.passes.valid s.large.proper) y s.member,
        context_degree (st i) (J.seated i) L ∙ ap (degree_of plan) (sym e.over),
      ) in
      let w = valued (st i) (J.inv i).regular.formed L e.entered in
      onward i L r.sends ((rest i L r.sends).sided_entry k r.result s.low high
      ((sided_reached (context_of (st i) L) (level_at (st i) L) w ((J.inv i).regular.law L r.sends).heard k s.low high).1
      (heard_many i L r.sends (Side k) (λ j. ResultAt (st j) L k false) g many (λ j _. side_sent j L k s.low))))

  -- rule 13
  by_many : (i L : ℕ) (S : Set) (x : ℕ) → Sound n bad i → EnteredAt (st i) L S x → 3 ≤ size_of plan S
      → Many (plan_shape plan) (levels_of plan st) n bad t (λ j. NoneAt (st j) L) → Told i L
  by_many i L S x g e k many =
      let on = sends_here i L S x e k in
      let w = valued (st i) (J.inv i).regular.formed L e.entered in
      told i L e.entered ((rest i L on).told_output
      ((centre_reached (context_of (st i) L) (level_at (st i) L) w ((J.inv i).regular.law L on).heard).1
      (heard_many i L on Centre (λ j. NoneAt (st j) L) g many (λ j _. centre_sent j L))))

  -- rule 14
  from_below : (i L k : ℕ) (a : Bool) → T (level_at (st i) L).entered → ResultAt (st i) L k a → 1 ≤ k → Told i (suc L) → Told i L
  from_below i L k a e r low (y, o) =
      told i L e ((rest i L r.sends).next_output_lem (aside i L k a r low) (λ z. o.there (sym o.output ∙ sym (next_output_lem (st i) L) ∙ z)))

  pub quiet : Quiet (plan_shape plan) (levels_of plan st) n bad t
  quiet = record {
    on_entry = λ i L S x g e k. small_told i L S x e k;
    result = λ L S C k shared all i g. resulted L S k shared all i g;
    by_zero = λ i L S x a g e k r. told i L e.entered ((rest i L r.sends).centre_output r.result);
    onward = λ i L S x k a g e _ r low. onward i L r.sends ((rest i L r.sends).entry (aside i L k a r low));
    by_none = λ i L S x g e k r.
        told i L e.entered (rest_none (context_of (st i) L) (level_at (st i) L) ((J.inv i).regular.law L r.sends) (rest i L r.sends) r.result);
    led = led;
    by_many = by_many;
    from_below = λ i L S x k a g e _ r low o. from_below i L k a e.entered r low o;
  }
