-- `journal::read_message` meets its contract.
use mathlib.Core.Path.{sym, ◌∙◌}
use Rattle.std.proofs.lemmas.Result.{err_from_is_err_and}
use Rattle.journal.proofs.Laws.{taken_read, taken_fails}
use Rattle.journal.proofs.read_message.Goals as goal

pub returns-in_err-message : goal.returns-in_err-message
returns-in_err-message c =
    let p = err_from_is_err_and c.from_residual.result c.from_residual.ensures.1 in
    rw (p.1, p.2) (taken_fails _ _ _ (sym c.read_at.ensures ∙ c.in_err-message.was))

pub returns : goal.returns
returns c = taken_read _ _ _ (sym c.read_at.ensures ∙ c.in_ok-message.was)
