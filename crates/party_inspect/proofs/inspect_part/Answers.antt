-- `party_inspect::inspect_part` meets its contract.
use mathlib.Core.Path.{sym, ◌∙◌}
use native.Mathlib.Omega.{arith}
use lib.Dec.{T}
use Rattle.base.specs.Sets.{Set}
use Rattle.base.proofs.Bools.{true→T}
use Rattle.plan.specs.Plan.{Plan}
use Rattle.plan.specs.Tie.{as_plan}
use Rattle.component.specs.Inner.{members}
use Rattle.party_inspect.proofs.Places.{part_elsewhere, part_small, part_large}
use Rattle.party_inspect.proofs.inspect_part.Goals.{Else-not-contains, Start}
use Rattle.party_inspect.proofs.inspect_part.Goals as goal

-- the plan that is lent
abbrev plan : Start → Plan
plan s = as_plan s.args.plan.now

-- its component
abbrev component : Start → Set
component s = members (plan s) s.args.chart.now.deepest

-- it holds the position
inside : (d : Else-not-contains) → T (members (as_plan d.args.plan.now) d.args.chart.now.deepest d.args.l.position)
inside d = true→T (sym d.contains.ensures ∙ d.if-not-contains.false)

pub returns-then-not-contains : goal.returns-then-not-contains
returns-then-not-contains c =
    let s = (goal.at.returns-then-not-contains c).Start in
    let a = s.args in
    part_elsewhere (plan s) (component s) a.l a.i a.chart.now c.contains.result c.contains.ensures c.if-not-contains.true

pub size-requires : goal.size-requires
size-requires c = (c.requires.component, c.requires.flat)

pub returns-then-size-lt3 : goal.returns-then-size-lt3
returns-then-size-lt3 c =
    let s = (goal.at.returns-then-size-lt3 c).Start in
    let a = s.args in
    let u = c.unresolved in
    part_small (plan s) (component s) a.l a.i a.chart.now c.contains.result c.contains.ensures c.if-not-contains.false u.result (omega (arith, c.size.ensures, c.if-size-lt3.true)) u.ensures.answers

pub inspect_sending-requires : goal.inspect_sending-requires
inspect_sending-requires c = (c.requires, omega (arith, c.size.ensures, c.if-size-lt3.false), inside (goal.at.inspect_sending-requires c).Else-not-contains)

pub returns : goal.returns
returns c =
    let s = (goal.at.returns c).Start in
    let a = s.args in
    let r = c.inspect_sending in
    part_large (plan s) (component s) a.l a.i a.chart.now c.contains.result c.contains.ensures c.if-not-contains.false r.result r.new.chart (omega (arith, c.size.ensures, c.if-size-lt3.false)) r.ensures.passes r.ensures.sends
