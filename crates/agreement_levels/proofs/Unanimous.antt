-- Where all sound boards start at one position, and have taken all that they made: they go down its chain of sides together.
use mathlib.Core.Path.{◌≡◌, refl, sym, ap, ◌∙◌, subst}
use mathlib.Core.Logic.{◌⊎◌, inl, inr}
use mathlib.Core.Bool.{Bool, true}
use Prim.Native.Nat.{ℕ, zero, suc, ◌≤◌, ◌<◌}
use native.Mathlib.Omega.{arith}
use lib.Dec.{T}
use Rattle.base.specs.Sets.{Set, Sound}
use Rattle.base.specs.Limits.{level_count}
use Rattle.plan.specs.Plan.{Plan}
use Rattle.component.specs.Component.{whole_of, size_of, port_of, side_of}
use Rattle.message.specs.declared.Message.{Message}
use Rattle.party.specs.Party.{Party, level_at, component_of, sending}
use Rattle.party_laws.proofs.Laws.{sending_level}
use Rattle.vote_machine.specs.Machine.{Heard, Sent}
use Rattle.vote_machine.proofs.Laws.{at_rest}
use Rattle.descent.specs.Inner.{Entry, stays, moves, follows, Differ, Graded}
use Rattle.log_agreement.proofs.Joint.{Joint}
use Rattle.log_agreement.proofs.Views.{plan_shape, EnteredAt, ResultAt, NoneAt, levels_of, sends, context_port, next_entered_lem}
use Rattle.log_agreement.proofs.Shared.{level_graded, level_result}
use Rattle.log_agreement.proofs.Safe.{facts}
use Rattle.plan_levels.specs.Statement.{chain_at, Deep}
use Rattle.agreement_levels.specs.Statement.{echo_of}
use Rattle.plan_levels.proofs.Chains.{chain_port, deep_before}

module _ {n t agreement : ℕ} {plan : Plan} {bad : Set} {st : ℕ → Party} (J : Joint n t agreement plan bad st)
    (delivered : (i j : ℕ) (m : Message) → Sound n bad i → Sound n bad j → Sent (st j) m → Heard (st i) j m) (x : ℕ) where
  sends_at : (L : ℕ) (S : Set) → 3 ≤ size_of plan S → (i : ℕ) → EnteredAt (st i) L S x → T (sending (st i) L)
  sends_at L S three i e = sends (st i) (J.seated i) L e.entered (subst (λ (D : Set). 3 ≤ size_of plan D) e.over three)

  -- ---- one level of three or more positions, where x has a port of 1 or more

  module _ (L : ℕ) (S : Set) (three : 3 ≤ size_of plan S) (all : (i : ℕ) → Sound n bad i → EnteredAt (st i) L S x) (port : 1 ≤ port_of plan S x) where
    on : (i : ℕ) → Sound n bad i → T (sending (st i) L)
    on i g = sends_at L S three i (all i g)

    same : (i : ℕ) → Sound n bad i → T (sending (st i) L) → component_of (st i) L ≡ S
    same i g _ = sym (all i g).over

    low : (i : ℕ) → Sound n bad i → L < level_count
    low i g = omega (arith, (sending_level (st i) (J.inv i).regular.formed L (on i g)).next)

    graded : (i : ℕ) → Sound n bad i → Graded (plan_shape plan) (levels_of plan st) n bad L S
    graded i g = level_graded J L (low i g) S same

    -- whoever entered it is at x
    at_x : (i : ℕ) (D : Set) (y : ℕ) → Sound n bad i → EnteredAt (st i) L D y → y ≡ x
    at_x i D y g e = e.place ∙ sym (all i g).place

    -- so no ports differ
    one_port : Differ (plan_shape plan) (levels_of plan st) n bad L S → ⊥
    one_port d =
        d.apart (ap (port_of plan S) (at_x d.one S d.place d.sound d.entered ∙ sym (at_x d.two S d.other d.sound' d.entered')))

    -- and every result is the port of x, of grade 2
    result_is : (i v : ℕ) (b : Bool) → Sound n bad i → ResultAt (st i) L v b → v ≡ port_of plan S x
    result_is i v b g r =
        let q = (graded i g).port i v b g r in
        sym q.port ∙ ap (port_of plan S) (at_x q.board S q.place q.sound q.entered)

    -- rule 10 enters the next level
    next : (i : ℕ) → Sound n bad i → T (level_at (st i) (suc L)).entered
    next i g = go (level_result J L (low i g) S same delivered on i g)
      where
        go : ((v : ℕ) × (b : Bool) × ResultAt (st i) L v b) ⊎ NoneAt (st i) L → T (level_at (st i) (suc L)).entered
        go (inl (v, b, r)) =
            let e = result_is i v b g r in
            subst T (next_entered_lem (st i) L) ((at_rest (st i) (J.inv i) L (on i g)).entry (omega (arith, r.result, e, port), omega (arith, r.result, r.value)))
        go (inr r) = absurd (one_port ((graded i g).split i g r))

    -- over the side of x, at x
    enters : (i : ℕ) → Sound n bad i → EnteredAt (st i) (suc L) (side_of plan S (port_of plan S x)) x
    enters i g = go ((facts J).entry i L (component_of (st i) (suc L)) (level_at (st i) (suc L)).position g (record { entered = next i g; over = refl; place = refl }))
      where
        go : Entry (plan_shape plan) (levels_of plan st) n bad i L (component_of (st i) (suc L)) (level_at (st i) (suc L)).position
            → EnteredAt (st i) (suc L) (side_of plan S (port_of plan S x)) x
        go (stays D k e s r l o c) = record {
          entered = next i g;
          over = sym (c ∙ (λ z. side_of plan ((e.over ∙ sym (all i g).over) z) (result_is i k true g r z)));
          place = sym (at_x i D (level_at (st i) (suc L)).position g e);
        }
        go (moves D y k e s r l o c u) =
            absurd (o ((λ z. port_of plan ((e.over ∙ sym (all i g).over) z) (at_x i D y g e z)) ∙ sym (result_is i k true g r)))
        go (follows D y j k e s f r l c u) = absurd (one_port ((graded i g).mixed j k f r))

  -- ---- from level to level

  module _ (start : (i : ℕ) → Sound n bad i → EnteredAt (st i) 0 (whole_of plan) x) where
    goes_down : (L : ℕ) → Deep plan x L → (i : ℕ) → Sound n bad i → EnteredAt (st i) L (chain_at plan x L) x
    unfolding chain_at
    goes_down zero d = start
    goes_down (suc L) d =
        let b = deep_before plan J.passes.valid x L d in
        enters L (chain_at plan x L) b.three (goes_down L b) (chain_port plan J.passes.valid x L d.lies).0

    -- Each makes the first echo of its port there, by rule 1.
    pub echoes : (L : ℕ) → Deep plan x L → (i : ℕ) → Sound n bad i → Sent (st i) (echo_of agreement plan x L)
    echoes L d i g =
        let e = goes_down L d i g in
        let on = sends_at L (chain_at plan x L) d.three i e in
        record {
          number = sym (J.seated i).number;
          sends = on;
          body = inl ((λ z. port_of plan (e.over z) (e.place z)) ∙ sym (context_port (st i) (J.seated i) L), (at_rest (st i) (J.inv i) L on).port_echo);
        }
