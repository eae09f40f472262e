-- `board_restore::restore` meets its contract: refused, or replayed.
use mathlib.Core.Path.{sym, ap, ◌∙◌, subst}
use lib.ListN.{length}
use Rattle.std.specs.Prelude.{Err, Result}
use Rattle.std.proofs.lemmas.Result.{err_from_is_err_and}
use Rattle.base.specs.declared.Refusal.{Refusal}
use Rattle.party.specs.Party.{Party}
use Rattle.party.specs.Run.{resting}
use Rattle.board_calls.specs.Restore.{replay_from, restore_questions}
use Rattle.board_calls.specs.Results.{RestoreGives}
use Rattle.board_calls.specs.Tie.{as_restored}
use Rattle.board_calls.specs.declared.Restored.{Restored}
use Rattle.board_restore.specs.Inner.{Replayable}
use Rattle.board_restore.proofs.Restores.{unrestored_gives, regives}
use Rattle.board_restore.proofs.restore.Goals as goal

pub returns-in_err-plan : goal.returns-in_err-plan
returns-in_err-plan c =
    let r = err_from_is_err_and c.from_residual.result c.from_residual.ensures.1 in
    subst (λ (x : Result Restored Refusal). RestoreGives (restore_questions c.args.n c.args.t c.args.own c.args.agreement c.args.bytes.now c.args.journal.now (length c.args.out.now)) c.args.out.now (as_restored x) c.args.out.now)
    (sym (r.1 ∙ ap Err r.2)) (unrestored_gives _ c.in_err-plan.ensures)

pub replay_all-requires : goal.replay_all-requires
replay_all-requires c =
    subst (λ (p : Party). Replayable p c.args.journal.now c.in_ok-plan.end (length c.args.out.now)) (sym c.new-party.ensures) c.in_ok-plan.ensures.0

pub returns : goal.returns
returns c =
    regives
    (c.in_ok-plan.ensures.1 ∙ ap (λ (p : Party). replay_from (length c.args.journal.now) c.args.journal.now 0 (resting p)) (sym c.new-party.ensures))
    c.replay_all.ensures
