-- `board_counts::refuse_size` meets its contract: 19, 18 and 20 are asked before 25.
use mathlib.Core.Path.{refl, sym, subst}
use mathlib.Core.Bool.{true}
use Rattle.std.proofs.lemmas.Result.{err_from_is_err_and}
use Rattle.party.specs.Tie.{as_party}
use Rattle.board_counts.specs.Inner.{RefusedBy}
use Rattle.board_counts.proofs.Questions.{valid_accepted, shut_reading, shut_door, shut_25}
use Rattle.board_counts.proofs.refuse_size.Goals as goal

pub returns-in_err-_answer : goal.returns-in_err-_answer
returns-in_err-_answer c =
    let s = c.args in
    let r = err_from_is_err_and c.from_residual.result c.from_residual.ensures.1 in
    subst (RefusedBy (as_party s.p) s.room s.used s.out) (sym r.1) (shut_reading (as_party s.p) s.room s.used s.out c.in_err-_answer.ensures r.2)

pub returns-in_err-ask : goal.returns-in_err-ask
returns-in_err-ask c =
    let s = c.args in
    let r = err_from_is_err_and c.from_residual-in_err-ask.result c.from_residual-in_err-ask.ensures.1 in
    subst (RefusedBy (as_party s.p) s.room s.used s.out) (sym r.1)
    (shut_door (record { valid = true; room = s.room; used = s.used; out = s.out }) (as_party s.p) (valid_accepted (as_party s.p) c.in_ok-_answer.ensures refl) c.in_err-ask.field-0.0 c.in_err-ask.ensures r.2)

pub returns : goal.returns
returns c =
    let s = c.args in
    shut_25 (record { valid = true; room = s.room; used = s.used; out = s.out }) (as_party s.p) (valid_accepted (as_party s.p) c.in_ok-_answer.ensures refl) c.in_ok-ask.ensures c.into.ensures
