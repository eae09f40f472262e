-- `party_step::descend` meets its contract.
use mathlib.Core.Path.{refl, sym, subst}
use Prim.Native.Nat.{ℕ}
use lib.Dec.{T}
use Rattle.base.specs.Sets.{Set}
use Rattle.plan.specs.Plan.{Plan}
use Rattle.plan.specs.Tie.{as_plan}
use Rattle.component.specs.Component.{side_of}
use Rattle.component.specs.Inner.{members}
use Rattle.party_step.specs.Inner.{Enters}
use Rattle.party_step.proofs.Entries.{holds_enterable, side_enters}
use Rattle.party_step.proofs.descend.Goals.{Start}
use Rattle.party_step.proofs.descend.Goals as goal

-- the plan, and the side that is entered
abbrev plan : Start → Plan
plan s = as_plan s.args.plan.now

abbrev side : Start → Set
side s = side_of (plan s) (members (plan s) s.args.chart.now.deepest) s.args.w.side

pub gate-x-requires : goal.gate-x-requires
gate-x-requires c = let s = c in (s.requires.0.rows, s.requires.0.has)

pub enter_side-requires : goal.enter_side-requires
enter_side-requires c = c.requires.0.has

pub enter-requires : goal.enter-requires
enter-requires c =
    let s = (goal.at.enter-requires c).Start in
    let g = c.gate-x in (
      holds_enterable (plan s) _ (side s) c.enter_side.ensures g.result s.requires.0.of (subst (λ (x : ℕ). T (side s x)) (sym g.ensures) s.requires.0.place)
          s.requires.0.rows,
      s.requires.1,
    )

pub returns : goal.returns
returns c =
    let s = (goal.at.returns c).Start in
    let g = c.gate-x in
    let e = c.enter in
    subst (λ (x : ℕ). Enters (plan s) (side s) s.args.next s.args.w.side x s.args.i s.args.chart.now e.result e.new.chart) g.ensures
    (side_enters (plan s) (side s) s.args.next s.args.w.side g.result s.args.i s.args.chart.now _ e.result e.new.chart c.enter_side.ensures.is
    (record { sending = refl; surveys = refl }) e.ensures)
