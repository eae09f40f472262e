-- `RowList::append` meets its contract: while a vertex is not reached there is room for a row.
use mathlib.Core.Path.{ap, ◌∙◌}
use mathlib.Core.List.{◌∷◌}
use native.Mathlib.Omega.{arith}
use Rattle.plan_growth.specs.Inner.{edge, Listed, rows_of}
use Rattle.plan_growth.proofs.Columns.{laid_room, laid_more, laid_rows, laid_named}
use Rattle.plan_growth.proofs.RowList.append.Goals as goal

pub offset_bounds-self-inside-self-inside : goal.offset_bounds-self-inside-self-inside
offset_bounds-self-inside-self-inside c =
    let r = rw (← c.self.view_is) at c.requires in
    omega (arith, laid_room c.self.invariant c.args.to r.1 r.3)

pub bounds-self-inside-self-inside : goal.bounds-self-inside-self-inside
bounds-self-inside-self-inside c =
    let r = rw (← c.self.view_is) at c.requires in
    omega (arith, laid_room c.self.invariant c.args.to r.1 r.3)

pub offset_bounds-self-inside-self-inside-2 : goal.offset_bounds-self-inside-self-inside-2
offset_bounds-self-inside-self-inside-2 c =
    let r = rw (← c.self.view_is) at c.requires in
    omega (arith, laid_room c.self.invariant c.args.to r.1 r.3)

pub bounds-self-inside-self-inside-2 : goal.bounds-self-inside-self-inside-2
bounds-self-inside-self-inside-2 c =
    let r = rw (← c.self.view_is) at c.requires in
    omega (arith, laid_room c.self.invariant c.args.to r.1 r.3)

pub overflow_add-self : goal.overflow_add-self
overflow_add-self c =
    let r = rw (← c.self.view_is) at c.requires in
    omega (arith, laid_room c.self.invariant c.args.to r.1 r.3)

pub invariant_of-self : goal.invariant_of-self
invariant_of-self c =
    let r = rw (← c.self.view_is) at c.requires in
    rw c.from.ensures (laid_named (laid_more c.self.invariant c.args.from c.args.to r.0 r.1 r.2 r.3))

pub returns : goal.returns
returns c =
    let r = rw (← c.self.view_is) at c.requires in
    laid_rows (laid_more c.self.invariant c.args.from c.args.to r.0 r.1 r.2 r.3)
    ∙ ap (λ (l : Listed). edge c.args.from c.args.to ∷ rows_of l) c.self.view_is
