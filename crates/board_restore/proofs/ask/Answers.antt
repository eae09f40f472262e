-- `board_restore::ask` meets its contract: 18, the settings and the plan, then the records.
use mathlib.Core.Path.{sym, ap, ◌∙◌, subst}
use Rattle.std.specs.Prelude.{Err}
use Rattle.std.proofs.lemmas.Result.{err_from_is_err_and}
use Rattle.base.specs.Found.{refused}
use Rattle.base.specs.Question.{number_of}
use Rattle.base.specs.declared.Refusal.{Refusal}
use Rattle.board_laws.proofs.Parts.{length_mapped}
use Rattle.board_laws.proofs.Restored.{restore_short}
use Rattle.board_restore.specs.Inner.{Answers}
use Rattle.board_restore.proofs.Restores.{asked_plan, asked_record, asked_all}
use borrow.Author.Rules.{rules}
use Rattle.board_restore.proofs.ask.Goals as goal

pub returns-then-room-lt-OUTGOING : goal.returns-then-room-lt-OUTGOING
returns-then-room-lt-OUTGOING c =
    let s = c.args in
    restore_short s.v.n s.v.t s.v.own s.v.agreement s.bytes.now s.journal.now s.room c.if-room-lt-OUTGOING.true
    ∙ ap (λ (r : Refusal). refused (number_of r.question) r.place) (sym c.into.ensures)

pub returns-in_err-plan : goal.returns-in_err-plan
returns-in_err-plan c =
    let s = c.args in
    let r = err_from_is_err_and c.from_residual.result c.from_residual.ensures.1 in
    subst (Answers s.v s.bytes.now s.journal.now s.room) (sym (r.1 ∙ ap Err r.2))
    (asked_plan s.v s.bytes.now s.journal.now c.if-room-lt-OUTGOING.false _ c.in_err-plan.ensures)

pub returns-in_err-end : goal.returns-in_err-end
returns-in_err-end c =
    let s = c.args in
    let r = err_from_is_err_and c.from_residual-in_err-end.result c.from_residual-in_err-end.ensures.1 in
    subst (Answers s.v s.bytes.now s.journal.now s.room) (sym (r.1 ∙ ap Err r.2))
    (asked_record s.v s.bytes.now s.journal.now c.if-room-lt-OUTGOING.false _ c.in_ok-plan.ensures _ c.in_err-end.ensures)

pub returns : goal.returns
returns c =
    let s = c.args in
    asked_all s.v s.bytes.now s.journal.now c.if-room-lt-OUTGOING.false _ c.in_ok-plan.ensures _ c.in_ok-end.ensures
    (search (rules, length_mapped)) (search (rules, length_mapped))
