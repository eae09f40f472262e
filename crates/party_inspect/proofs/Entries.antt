-- The entry of a level by what is known of the level before it.
use mathlib.Core.Path.{◌≡◌, refl, sym, subst}
use mathlib.Core.List.{List}
use Prim.Native.Nat.{ℕ, zero, suc, ◌-◌, ◌≤◌}
use lib.Dec.{T}
use Rattle.plan.specs.Plan.{Plan}
use Rattle.component.specs.declared.Component.{Component}
use Rattle.component.specs.Component.{whole_of, side_of}
use Rattle.component.specs.Inner.{members, OfPlan, Holds, HasSide}
use Rattle.component_laws.proofs.Laws.{whole_plan, side_plan}
use Rattle.party_fields.specs.Inner.{entry_fits}
use Rattle.party_fields.proofs.Entries.{below→, before}
use Rattle.party.specs.declared.Chart.{Chart}
use Rattle.party_inspect.specs.Inner.{part_of, survey_before, Over, Ready}

-- ---- the component that is entered

module _ (p : Plan) (c : Component) (i k : ℕ) (r : Component) where
  pub enters_whole : i ≡ 0 → Holds p r (whole_of p) → Holds p r (part_of p c i k)
  unfolding part_of
  enters_whole e h = subst (λ (j : ℕ). Holds p r (part_of p c j k)) (sym e) h

  pub enters_side : (i ≡ 0 → ⊥) → Holds p r (side_of p (members p c) k) → Holds p r (part_of p c i k)
  unfolding part_of
  enters_side z h = subst (λ (j : ℕ). Holds p r (part_of p c j k)) (sym (before i z)) h

-- the component of a level whose entry passes is one
pub entry_plan : (p : Plan) (d : Chart) (i k : ℕ) → Ready p d i → T (entry_fits d.sending (survey_before d i).degree i k) → OfPlan p (part_of p d.deepest i k)
unfolding part_of
entry_plan p d zero k y t = whole_plan p y.valid
entry_plan p d (suc j) k y t =
    let b = below→ d.sending (survey_before d (suc j)).degree j k t in
    let e = y.before j refl b.sends in
    side_plan p (members p d.deepest) e.surveyed.of k b.low (subst (λ (x : ℕ). k ≤ x) e.degree b.high)

module _ (p : Plan) (d : Chart) (i k : ℕ) (y : Ready p d i) where
  -- what a side of the level before asks for
  pub side_asks : T (entry_fits d.sending (survey_before d i).degree i k) → (i ≡ 0 → ⊥) → HasSide p d.deepest (survey_before d i).centre k
  side_asks t z =
      let b = below→ d.sending (survey_before d i).degree (i - 1) k (subst (λ (j : ℕ). T (entry_fits d.sending (survey_before d i).degree j k)) (before i z) t) in
      let e = y.before (i - 1) (before i z) b.sends in
      record { surveyed = e.surveyed; at = e.centre; low = b.low; high = subst (λ (x : ℕ). k ≤ x) e.degree b.high }

  pub over_asks : T (entry_fits d.sending (survey_before d i).degree i k) → (r : Component) → Holds p r (part_of p d.deepest i k) → Over p r i
  over_asks t r h = record {
    lent = y.lent;
    component = subst (OfPlan p) (sym h.is) (entry_plan p d i k y t);
    flat = h.flat;
    exists = y.exists;
  }
