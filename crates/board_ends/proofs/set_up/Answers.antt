-- `board_ends::set_up` meets its contract: refused, or a party.
use mathlib.Core.Path.{ap, ◌∙◌, refl}
use Rattle.std.specs.Prelude.{Err}
use Rattle.std.proofs.lemmas.Result.{err_from_is_err_and}
use Rattle.board_calls.specs.Tie.{as_set_up}
use Rattle.board_ends.proofs.Ends.{set_up_accepted, set_up_refused}
use Rattle.board_ends.proofs.set_up.Goals as goal

pub returns-in_err-plan : goal.returns-in_err-plan
returns-in_err-plan c =
    let a = c.args in
    let r = err_from_is_err_and c.from_residual.result c.from_residual.ensures.1 in
    ap as_set_up (r.1 ∙ ap Err r.2) ∙ set_up_refused a.n a.t a.own a.agreement a.bytes.now _ _ c.in_err-plan.ensures refl refl

pub returns : goal.returns
returns c = let a = c.args in set_up_accepted a.n a.t a.own a.agreement a.bytes.now _ _ c.in_ok-plan.ensures refl c.new.ensures
