-- `board_restore::scan_journal` meets its contract: the records so far pass.
use mathlib.Core.Path.{sym, ap, ◌∙◌}
use native.Mathlib.Omega.{arith}
use Rattle.std.specs.Prelude.{Err}
use Rattle.journal.proofs.RoundTrip.{record_place}
use Rattle.board_restore.proofs.Scans.{scanning_start, scanning_next, scanned_end, scanned_torn, scanned_bad, scanned_fault}
use Rattle.board_restore.proofs.scan_journal.Goals as goal

pub loop-at-init : goal.loop-at-init
loop-at-init c = λ p w o. scanning_start p w c.args.journal.now

pub returns-in-Err : goal.returns-in-Err
returns-in-Err c = λ p w o. scanned_fault w (c.loop-at.invariant p w o) c.loop-at-test.true o (sym c.read_at.ensures ∙ c.in-Ok.is) c.in-Err.question c.in-Err.ensures

pub loop-at-smaller : goal.loop-at-smaller
loop-at-smaller c = omega (arith, c.loop-at-test.true, (record_place c.args.journal.now c.loop-at.at _ _ (sym c.read_at.ensures ∙ c.in-Ok.is)).0)

pub loop-at-preserved : goal.loop-at-preserved
loop-at-preserved c = λ p w o. scanning_next w (c.loop-at.invariant p w o) c.loop-at-test.true o (sym c.read_at.ensures ∙ c.in-Ok.is) (λ i. (c.type_inv.journal i).fits) c.in_default.ensures c.started_by-started.ensures

pub returns-in-Err-Torn : goal.returns-in-Err-Torn
returns-in-Err-Torn c = λ p w o. scanned_torn w (c.loop-at.invariant p w o) c.loop-at-test.true (sym c.read_at.ensures ∙ c.in-Err-Torn.is ∙ ap Err c.in-Err-Torn.field-0-is)

pub returns-in-Err-Bad : goal.returns-in-Err-Bad
returns-in-Err-Bad c = λ p w o. scanned_bad w (c.loop-at.invariant p w o) c.loop-at-test.true (sym c.read_at.ensures ∙ c.in-Err-Bad.is ∙ ap Err c.in-Err-Bad.field-0-is)

pub returns : goal.returns
returns c = λ p w o. scanned_end w (c.loop-at.invariant p w o) c.loop-at-test.false
