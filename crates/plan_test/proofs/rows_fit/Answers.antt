-- `plan_test::rows_fit` meets its contract. The loop's invariant: the first i rows fit and are noted.
use native.Mathlib.Omega.{arith}
use Rattle.plan_test.proofs.Noted.{none_fit, more_fit, stop_fit, end_fit, note_start, note_more}
use Rattle.plan_test.proofs.rows_fit.Goals as goal

pub loop-i-init : goal.loop-i-init
loop-i-init c = (none_fit _ _ _, note_start _ _ c.requires.0)

pub row_fits-requires : goal.row_fits-requires
row_fits-requires c = (c.loop-i.invariant.1, omega arith, omega arith)

pub returns-then-not-row_fits : goal.returns-then-not-row_fits
returns-then-not-row_fits c =
    let o = c.loop-i in
    stop_fit _ _ _ o.i _ c.loop-i-test.true c.if-not-row_fits.true c.row_fits.ensures.0

pub loop-i-preserved : goal.loop-i-preserved
loop-i-preserved c =
    let o = c.loop-i in
    let t = c.if-not-row_fits.false in
    (more_fit _ _ _ o.i t c.row_fits.ensures.0 o.invariant.0, note_more _ _ o.i t c.row_fits.ensures.1)

pub returns : goal.returns
returns c =
    let o = c.loop-i in
    end_fit _ _ _ o.i _ (omega arith) o.invariant.0
