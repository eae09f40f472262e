-- `board_questions::ask_start` meets its contract: what the search leaves.
use Rattle.board_questions.proofs.Asking.{start_17, start_found}
use Rattle.board_questions.proofs.ask_start.Goals as goal

pub returns-in_err-fit : goal.returns-in_err-fit
returns-in_err-fit c =
    let a = c.args in
    start_17 a.door a.agreement a.started a.x c.in_ok-ask.ensures c.if-started.false c.in-Some.position c.in-Some.is c.in_err-fit.field-0.0 c.in_err-fit.ensures
    c.from_residual-in_err-fit.ensures.1

pub returns : goal.returns
returns c =
    let a = c.args in
    start_found a.door a.agreement a.started a.x c.in_ok-ask.ensures c.if-started.false c.in-Some.position c.in-Some.is c.in_ok-fit.ensures
