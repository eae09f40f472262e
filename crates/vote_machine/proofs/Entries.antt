-- How a level was entered stays so as the party grows.
use mathlib.Core.Path.{◌≡◌, sym, ◌∙◌, subst, transport⁻¹}
use mathlib.Core.Bool.{not}
use Prim.Native.Nat.{ℕ, suc, ◌<◌}
use native.Mathlib.Omega.{arith}
use lib.Dec.{T}
use Rattle.base.specs.Sets.{Set}
use Rattle.base.proofs.Bools.{T_and, T-left, T-right}
use Rattle.base.proofs.Counts.{count_mono}
use Rattle.plan.specs.Plan.{Plan}
use Rattle.component.specs.Component.{port_of}
use Rattle.message.specs.declared.Body.{Body}
use Rattle.message.specs.declared.Body.TheVariants.{Side}
use Rattle.message.specs.Message.{none_value, body_in_table}
use Rattle.senders.specs.Senders.{is_in}
use Rattle.level.specs.Level.{Level, senders}
use Rattle.level_laws.specs.Inner.{Present, heard_from, Grows}
use Rattle.party.specs.Party.{Party, level_at, component_of}
use Rattle.party_laws.proofs.Laws.{Formed, entered_level, sending_entered}
use Rattle.vote_machine.specs.Inner.{Way, stays, moves, leads, follows, EntryBy, Le}

-- what was heard stays heard
pub grows_from : (l m : Level) → Grows l m → (b : Body) (s : ℕ) → T (heard_from l b s) → T (heard_from m b s)
grows_from l m g b s h =
    T_and (body_in_table b) (is_in (senders m b) s) (T-left (body_in_table b) (is_in (senders l b) s) h) (g.heard b s (T-right (body_in_table b) (is_in (senders l b) s) h))

-- from a record that grows; k is the number of a side
way_grows : (plan : Plan) (S : Set) (n t : ℕ) (l m : Level) (k x : ℕ) → k < none_value → T l.entered → Grows l m → Way plan S n t l k x → Way plan S n t m k x
way_grows plan S n t l m k x low h g (stays r s c e) =
    let p : Present l.result = λ i. omega arith in
    let y = (g.entered h).2 in
    stays ((g.result p).0 ∙ r) (subst T (sym (g.result p).1) s) (subst (λ (z : ℕ). port_of plan S z ≡ k) (sym y) c) (e ∙ sym y)
way_grows plan S n t l m k x low h g (moves r s c e) =
    let p : Present l.result = λ i. omega arith in
    let y = (g.entered h).2 in
    moves ((g.result p).0 ∙ r) (subst T (sym (g.result p).1) s) (subst (λ (z : ℕ). port_of plan S z ≡ k → ⊥) (sym y) c) e
way_grows plan S n t l m k x low h g (leads r s e) =
    let p : Present l.result = λ i. omega arith in
    leads ((g.result p).0 ∙ r) (subst (λ z. T (not z)) (sym (g.result p).1) s) e
way_grows plan S n t l m k x low h g (follows r c e) =
    let p : Present l.result = λ i. omega arith in
    follows ((g.result p).0 ∙ r) (omega (arith, count_mono n (heard_from l (Side k)) (heard_from m (Side k)) (λ i _. grows_from l m g (Side k) i))) e

-- the entry of level i + 1
pub entry_grows : (p q : Party) → Formed p → Le p q → (i : ℕ) → T (level_at p (suc i)).entered → EntryBy p i → EntryBy q i
entry_grows p q w o i h a =
    let e = entered_level p w (suc i) h in
    let on = sending_entered p i e.entry.0 in
    let d = (entered_level p w i on).degree in
    let y = (o.grown (suc i)).entered h in
    let b = o.board in
    let c = o.component i on in
    transport⁻¹ (λ z. Way (b.plan z) (c z) (b.n z) (b.t z) (level_at q i) (y.1 z) (y.2 z))
    (way_grows p.plan (component_of p i) p.n p.t (level_at p i) (level_at q i) (level_at p (suc i)).side (level_at p (suc i)).position
    (omega (arith, e.entry.2, d)) on (o.grown i) a)
