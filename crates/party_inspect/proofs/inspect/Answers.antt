-- `party_inspect::inspect` meets its contract.
use Rattle.std.specs.Prelude.{not, Result, Ok, Err, is_err}
use Rattle.base.specs.declared.Question.{Question}
use Rattle.base.specs.Question.{number_of}
use Rattle.base.specs.Verdict.{fault_number}
use Rattle.edges.proofs.Faults.{numbered}
use mathlib.Core.Path.{refl, ◌≡◌, sym, ap, ◌∙◌, subst}
use Prim.Native.Nat.{ℕ, ◌-◌, ◌*◌, ◌<◌}
use native.Mathlib.Omega.{arith}
use lib.Dec.{T, eqb}
use lib.ListN.{length}
use borrow.Author.Tests.{eq-eqb, ne_eqb, not-true, not-false}
use Rattle.base.specs.Limits.{max_rows, level_count}
use Rattle.base.proofs.Bools.{true→T, T→true}
use Rattle.plan.specs.Plan.{Plan}
use Rattle.plan.specs.Tie.{as_plan}
use Rattle.plan.specs.Valid.{plan_valid}
use Rattle.component.specs.Inner.{Lent}
use Rattle.level.specs.Level.{slot_count}
use Rattle.party.specs.Party.{Party}
use Rattle.party.specs.Valid.{settings_pass, sets_pass, party_valid}
use Rattle.party.specs.Tie.{as_party}
use Rattle.party_laws.proofs.Laws.{settings→}
use Rattle.component_laws.proofs.Laws.{rows_lent}
use Rattle.party_inspect.proofs.Charted.{Passed, charts_ready, settings_fail, plan_fails, passed_start, all_pass, all_filled, all_charted}
use Rattle.party_inspect.proofs.Steps.{party_full, sets_stop, output_stops, out_stops, out_next, entered_stops, entered_next}
use Rattle.party_inspect.proofs.inspect.Goals.{Else-is_err, Else-not-only_below, Start}
use Rattle.party_inspect.proofs.inspect.Goals as goal

-- settings pass where no question is answered by no
settled : (r : Result (Unit {0}) Question) → not (is_err r) ≡ eqb (fault_number r) 0
settled (Ok u) = refl
settled (Err q) = sym (ne_eqb (number_of q) 0 (λ e. omega (arith, numbered q)))

-- what the first questions found

settings-held : (d : Else-is_err) → T (settings_pass (as_party d.args.p.now))
settings-held d = true→T (ap (λ (x : ℕ). eqb x 0) (sym d.check.ensures) ∙ sym (settled d.check.result) ∙ ap not (sym d.is_err.ensures.value ∙ d.if-is_err.false))

plan-held : (d : Else-not-only_below) → T (plan_valid (as_plan d.args.p.now.plan))
plan-held d = true→T (sym d.valid.ensures ∙ d.if-not-valid.false)

sets-held : (d : Else-not-only_below) → T (sets_pass d.args.p.now.n d.args.p.now.sets)
sets-held d = true→T (sym (d.union_of.ensures.below d.args.p.now.n) ∙ sym d.only_below.ensures ∙ d.if-not-only_below.false)

pub returns-then-is_err-clause-passes : goal.returns-then-is_err-clause-passes
returns-then-is_err-clause-passes c = settings_fail (as_party c.args.p.now) (ap (λ (x : ℕ). eqb x 0) (sym c.check.ensures) ∙ sym (settled c.check.result) ∙ ap not (sym c.is_err.ensures.value ∙ c.if-is_err.true))

pub returns-then-not-valid-clause-passes : goal.returns-then-not-valid-clause-passes
returns-then-not-valid-clause-passes c = plan_fails (as_party c.args.p.now) (sym c.valid.ensures ∙ c.if-not-valid.true)

pub only_below-requires : goal.only_below-requires
only_below-requires c = (settings→ (as_party c.args.p.now) (settings-held (goal.at.only_below-requires c).Else-is_err)).most

pub returns-then-not-only_below-clause-passes : goal.returns-then-not-only_below-clause-passes
returns-then-not-only_below-clause-passes c =
    let q = c.args.p.now in
    let n : length q.sets ≡ slot_count * level_count = omega arith in
    sets_stop q c.fits-p.1.1.1.1.1.0.1.0.1 n (sym (c.union_of.ensures.below q.n) ∙ sym c.only_below.ensures ∙ c.if-not-only_below.true)

-- ---- the levels one by one

pub loop-i-init : goal.loop-i-init
loop-i-init c = λ t. passed_start (as_party c.args.p.now) c.empty-chart.result c.empty-chart.ensures.1 c.empty-chart.ensures.0

pub returns-then-not-output_passes-clause-passes : goal.returns-then-not-output_passes-clause-passes
returns-then-not-output_passes-clause-passes c =
    let h : c.loop-i.i < level_count = omega (arith, c.loop-i-test.true) in
    output_stops c.args.p.now c.fits-p.1.1.1.1.1.0.1.0.1 c.loop-i.i h c.output_passes.result c.output_passes.ensures c.if-not-output_passes.true

pub returns-then-not-unresolved-clause-passes : goal.returns-then-not-unresolved-clause-passes
returns-then-not-unresolved-clause-passes c =
    let d = (goal.at.returns-then-not-unresolved-clause-passes c).Else-not-only_below in
    let h : c.loop-i.i < level_count = omega (arith, c.loop-i-test.true) in
    let u = c.unresolved in
    out_stops c.args.p.now c.fits-p.1.1.1.1.1.0.1.0.1 c.loop-i.i h c.output_passes.result c.output_passes.ensures (sets-held d) c.if-not-output_passes.false
    (not-true _ c.if-not-l.true) u.result u.ensures.answers c.if-not-unresolved.true

pub loop-i-preserved-then-not-l : goal.loop-i-preserved-then-not-l
loop-i-preserved-then-not-l c =
    let h : c.loop-i.i < level_count = omega (arith, c.loop-i-test.true) in
    let u = c.unresolved in
    λ t. out_next c.args.p.now c.fits-p.1.1.1.1.1.0.1.0.1 c.loop-i.i h c.output_passes.result c.output_passes.ensures t c.if-not-output_passes.false
    (not-true _ c.if-not-l.true) u.result u.ensures.answers c.if-not-unresolved.false u.ensures.sized c.loop-i.chart (c.loop-i.invariant t)

pub inspect_entered-requires : goal.inspect_entered-requires
inspect_entered-requires c =
    let d = (goal.at.inspect_entered-requires c).Else-not-only_below in
    let q = c.args.p.now in
    let h : c.loop-i.i < level_count = omega (arith, c.loop-i-test.true) in
    let parents : length q.plan.parent ≡ max_rows = omega arith in
    let children : length q.plan.child ≡ max_rows = omega arith in
    charts_ready (as_party q) c.loop-i.i c.loop-i.chart (c.loop-i.invariant (sets-held d)).chart (plan-held d) (rows_lent (as_plan q.plan) (plan-held d) parents children) h

pub returns-then-not-inspect_entered-clause-passes : goal.returns-then-not-inspect_entered-clause-passes
returns-then-not-inspect_entered-clause-passes c =
    let d = (goal.at.returns-then-not-inspect_entered-clause-passes c).Else-not-only_below in
    let h : c.loop-i.i < level_count = omega (arith, c.loop-i-test.true) in
    let e = c.inspect_entered in
    entered_stops c.args.p.now c.fits-p.1.1.1.1.1.0.1.0.1 c.loop-i.i h c.output_passes.result c.output_passes.ensures (sets-held d) c.if-not-output_passes.false
    (not-false _ c.if-not-l.false) c.loop-i.chart (c.loop-i.invariant (sets-held d)) e.result _ e.ensures.settles c.if-not-inspect_entered.true

pub loop-i-preserved : goal.loop-i-preserved
loop-i-preserved c =
    let d = (goal.at.loop-i-preserved c).Else-not-only_below in
    let q = c.args.p.now in
    let h : c.loop-i.i < level_count = omega (arith, c.loop-i-test.true) in
    let parents : length q.plan.parent ≡ max_rows = omega arith in
    let children : length q.plan.child ≡ max_rows = omega arith in
    let e = c.inspect_entered in
    λ t. entered_next q c.fits-p.1.1.1.1.1.0.1.0.1 c.loop-i.i h c.output_passes.result c.output_passes.ensures t c.if-not-output_passes.false
    (not-false _ c.if-not-l.false) c.loop-i.chart (c.loop-i.invariant t) e.result _ e.ensures.settles c.if-not-inspect_entered.false e.ensures.sized (plan-held d)
    (rows_lent (as_plan q.plan) (plan-held d) parents children)

-- ---- all of them pass

pub returns : goal.returns
returns c =
    let d = (goal.at.returns c).Else-not-only_below in
    let q = c.args.p.now in
    let e : c.loop-i.i ≡ level_count = omega (arith, c.loop-i-test.false) in
    let P : Passed (as_party q) level_count c.loop-i.chart = subst (λ (i : ℕ). Passed (as_party q) i c.loop-i.chart) e (c.loop-i.invariant (sets-held d)) in
    let full = party_full q c.fits-p.1.1.1.1.1.0.1.0.1 in
    let t = all_pass (as_party q) c.loop-i.chart P (settings-held (goal.at.returns c).Else-is_err) (plan-held d) in
    record {
      passes = sym (T→true (party_valid (as_party q)) t);
      charted = all_charted (as_party q) c.loop-i.chart P full t;
      sized = all_filled (as_party q) c.loop-i.chart P full;
    }
