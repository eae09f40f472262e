-- `RowList::extend` meets its contract: by the marks of the edge's two ends.
use mathlib.Core.Path.{sym, ◌∙◌}
use Rattle.plan_growth.proofs.Columns.{marked_in, unmarked_in, extend_on, extend_back}
use Rattle.plan_growth.proofs.RowList.extend.Goals as goal

pub returns-then-self-from-eq1 : goal.returns-then-self-from-eq1
returns-then-self-from-eq1 c =
    c.branch-self.ensures
    ∙ sym (extend_on _ c.args.a c.args.b (marked_in c.self.invariant c.self.view_is c.requires.0 c.from.ensures c.if-self-from-eq1.true))

pub returns-then-self-from-eq1-2 : goal.returns-then-self-from-eq1-2
returns-then-self-from-eq1-2 c =
    let h = c.self.invariant in
    let e = c.self.view_is in
    c.branch-self-then-self-from-eq1-2.ensures
    ∙ sym (extend_back _ c.args.a c.args.b (unmarked_in h e c.requires.0 c.from.ensures c.if-self-from-eq1.false)
    (marked_in h e c.requires.1 c.from-else-self-from-eq1.ensures c.if-self-from-eq1-2.true))
