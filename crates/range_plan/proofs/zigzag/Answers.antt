-- `range_plan::zigzag` meets its contract.
use mathlib.Core.Path.{sym, ◌∙◌}
use native.Mathlib.Omega.{arith}
use Rattle.range_plan.proofs.Laws.{integer_zero, integer_negative, integer_positive}
use Rattle.range_plan.proofs.zigzag.Goals as goal

pub returns-then-m-eq0 : goal.returns-then-m-eq0
returns-then-m-eq0 c = rw (integer_zero c.args.r (sym c.from-m.ensures ∙ c.if-m-eq0.true))

pub returns-then-r : goal.returns-then-r
returns-then-r c = rw (integer_negative c.args.r (λ e. c.if-m-eq0.false (c.from-m.ensures ∙ e)) c.if-r.true) (omega arith)

pub returns : goal.returns
returns c = rw (integer_positive c.args.r c.if-r.false) (omega (arith, c.from-m.ensures))
