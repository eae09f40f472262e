-- `plan_reader::settle` meets its contract: the settings, then the plan.
use mathlib.Core.Path.{sym, ap}
use native.Mathlib.Omega.{arith}
use Rattle.std.proofs.lemmas.Result.{err_from_is_err_and}
use Rattle.edges.proofs.Faults.{numbered}
use Rattle.plan.specs.Reading.{answered}
use Rattle.plan.proofs.Answers.{answer, settle_refused, settle_passed}
use Rattle.plan_reader.proofs.settle.Goals as goal

pub returns-in_err-check : goal.returns-in_err-check
returns-in_err-check c =
    let p = err_from_is_err_and c.from_residual.result c.from_residual.ensures.1 in
    rw (p.1, p.2) (ap answered (sym (settle_refused c.args.n c.args.t c.args.own c.args.bytes.now c.in_err-check.ensures (λ e. omega (arith, numbered c.in_err-check.field-0.0, e)))))

pub returns : goal.returns
returns c = answer c.read.ensures (settle_passed _ _ _ _ (sym c.in_ok-check.ensures))
