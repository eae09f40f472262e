-- `RowList::branch` meets its contract: by the mark of y.
use mathlib.Core.Path.{sym, ◌∙◌}
use Rattle.plan_growth.proofs.Columns.{marked_in, unmarked_in, branch_old, branch_new}
use Rattle.plan_growth.proofs.RowList.branch.Goals as goal

pub returns-then-self-from-eq1 : goal.returns-then-self-from-eq1
returns-then-self-from-eq1 c = sym (branch_old _ c.args.x c.args.y (marked_in c.self.invariant c.self.view_is c.requires.1 c.from.ensures c.if-self-from-eq1.true))

pub returns : goal.returns
returns c =
    c.append.ensures
    ∙ sym (branch_new _ c.args.x c.args.y (unmarked_in c.self.invariant c.self.view_is c.requires.1 c.from.ensures c.if-self-from-eq1.false))
