use mathlib.Core.Path.{◌≡◌, sym, ap, ◌∙◌}
use mathlib.Core.Bool.{false}
use native.Mathlib.Omega.{arith}
use Rattle.script_words.proofs.Scan.{scan_ends, scan_goes_on, scan_stops}
use Rattle.script_lines.specs.Lines.{line_with, found}
use Rattle.script_lines.proofs.Lines.{scans}
use Rattle.script_lines.proofs.scan.Goals as goal

pub returns-then-b-eq10 : goal.returns-then-b-eq10
returns-then-b-eq10 c =
    let o = c.loop-i in
    scans _ _ _ (sym (o.invariant.0 ∙ scan_ends line_with found o.line _ o.i c.loop-i-test.true c.if-b-eq10.true))

pub loop-i-preserved : goal.loop-i-preserved
loop-i-preserved c =
    let o = c.loop-i in
    (rw c.with-line.ensures (o.invariant.0 ∙ scan_goes_on line_with found o.line _ o.i c.loop-i-test.true c.if-b-eq10.false), omega arith)

pub returns : goal.returns
returns c =
    let o = c.loop-i in
    let e : c.max.result ≡ o.i = omega (arith, c.max.ensures, o.invariant.1, c.loop-i-test.false) in
    scans _ _ _ (ap (found false o.line) e ∙ sym (o.invariant.0 ∙ scan_stops line_with found o.line _ o.i (omega (arith, c.loop-i-test.false))))
