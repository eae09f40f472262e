-- What is found from the start is what is found from here on; and a scan that begins past the end stays there.
use mathlib.Core.Path.{◌≡◌}
use Prim.Native.Nat.{◌≤◌}
use lib.ListN.{drop, length}
use Rattle.std.specs.Prelude.{max}
use Rattle.script_lines.specs.Lines.{scanned}
use Rattle.script_lines.proofs.scan.Given as goal

abbrev pub invariant-loop-i : goal.invariant-loop-i
invariant-loop-i l = (scanned l.initial.line (drop l.at l.s) l.at ≡ scanned l.line (drop l.i l.s) l.i) × (l.i ≤ max l.at (length l.s))
