-- `party_inspect::inspect_entered` meets its contract.
use mathlib.Core.Path.{◌≡◌, sym, ap, subst, ◌∙◌}
use mathlib.Core.Bool.{Bool}
use Prim.Native.Nat.{ℕ}
use native.Mathlib.Omega.{arith}
use lib.Dec.{T}
use lib.ListN.{length, get_or}
use Rattle.base.proofs.Bools.{true→T}
use Rattle.plan.specs.Plan.{Plan}
use Rattle.plan.specs.Tie.{as_plan}
use Rattle.component.specs.Inner.{HasSide}
use Rattle.level.specs.Level.{value_count}
use Rattle.party.specs.Inner.{no_survey}
use Rattle.party_fields.specs.Inner.{entry_fits}
use Rattle.party_inspect.specs.Inner.{survey_before}
use Rattle.party_inspect.proofs.Entries.{side_asks, over_asks}
use Rattle.party_inspect.proofs.Places.{entered_not, entered_part}
use borrow.Author.Rules.{rules}
use Rattle.party_inspect.proofs.inspect_entered.Goals.{After-entry_passes, Else-not-entry_passes, Start}
use Rattle.party_inspect.proofs.inspect_entered.Goals as goal

-- the plan that is lent
abbrev plan : Start → Plan
plan s = as_plan s.args.plan.now

-- the array's length
places : (s : Start) → length s.args.l.echoed ≡ value_count
places s = search rules

-- the test of its entry, by the level before
asked : (c : After-entry_passes) → c.entry_passes.result ≡ entry_fits c.args.chart.now.sending (survey_before c.args.chart.now c.args.i).degree c.args.i c.args.l.side
asked c =
    let a = c.args in
    c.entry_passes.ensures ∙ ap (λ (j : ℕ). entry_fits a.chart.now.sending (get_or a.chart.now.surveys j no_survey).degree a.i a.l.side) c.saturating_sub.ensures

pub returns-then-not-entry_passes : goal.returns-then-not-entry_passes
returns-then-not-entry_passes c =
    let s = (goal.at.returns-then-not-entry_passes c).Start in
    let a = s.args in
    record {
      settles = entered_not (plan s) a.chart.now a.i a.l c.entry_passes.result (asked (goal.at.returns-then-not-entry_passes c).After-entry_passes) _ c.if-not-entry_passes.true;
      sized = places s;
    }

-- its entry passes
held : (d : Else-not-entry_passes) (r : d.entry_passes.result ≡ entry_fits d.args.chart.now.sending (survey_before d.args.chart.now d.args.i).degree d.args.i d.args.l.side)
    → T (entry_fits d.args.chart.now.sending (survey_before d.args.chart.now d.args.i).degree d.args.i d.args.l.side)
held d r = true→T (sym r ∙ d.if-not-entry_passes.false)

pub enter-requires : goal.enter-requires
enter-requires c =
    let s = (goal.at.enter-requires c).Start in
    let a = s.args in
    let t = held (goal.at.enter-requires c).Else-not-entry_passes (asked (goal.at.enter-requires c).After-entry_passes) in (
      s.requires.valid,
      λ z.
          subst (λ (j : ℕ). HasSide (plan s) a.chart.now.deepest (get_or a.chart.now.surveys j no_survey).centre a.l.side) (sym c.saturating_sub.ensures)
          (side_asks (plan s) a.chart.now a.i a.l.side s.requires t z),
    )

pub inspect_part-requires : goal.inspect_part-requires
inspect_part-requires c =
    let s = (goal.at.inspect_part-requires c).Start in
    let a = s.args in
    let t = held (goal.at.inspect_part-requires c).Else-not-entry_passes (asked (goal.at.inspect_part-requires c).After-entry_passes) in
    over_asks (plan s) a.chart.now a.i a.l.side s.requires t _ c.enter.ensures

pub returns : goal.returns
returns c =
    let s = (goal.at.returns c).Start in
    let a = s.args in
    let r = c.inspect_part in
    record {
      settles = entered_part (plan s) a.chart.now a.i a.l c.entry_passes.result (asked (goal.at.returns c).After-entry_passes) _ r.result r.new.chart c.if-not-entry_passes.false c.enter.ensures r.ensures;
      sized = places s;
    }
