-- `drawing::number_at` meets its contract. The loop's invariant: no edge passed has its second end at the place, and `at` is past them.
use mathlib.Core.Path.{◌≡◌}
use Prim.Native.Nat.{◌+◌, ◌*◌, ◌≤◌}
use lib.ListN.{length}
use Rattle.base.specs.Pick.{smallest}
use Rattle.edges.specs.Rows.{rows}
use Rattle.plan.specs.Bytes.{edge_bytes}
use Rattle.drawing.proofs.Plans.{stands}
use Rattle.drawing.proofs.Drawing.number_at.Given as goal

abbrev pub invariant-loop-i : goal.invariant-loop-i
invariant-loop-i l =
    (l.at ≡ l.initial.at + length (edge_bytes (rows l.self.one l.self.two l.i))) × (smallest l.i (stands l.initial.at l.self.one l.self.two l.place) ≡ l.i) × (l.at ≤ l.initial.at + 10 * l.i)
