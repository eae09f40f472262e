-- `drawing::write_plan` meets its contract. The loop's invariant: behind the kind and the vertex count stand the ends of the edges passed, and each of their
-- varints has at most five bytes.
use mathlib.Core.Path.{◌≡◌}
use Prim.Native.Nat.{◌+◌, ◌*◌, ◌≤◌}
use lib.ListN.{length}
use Rattle.base.specs.Put.{put_at}
use Rattle.edges.specs.Rows.{rows}
use Rattle.plan.specs.Bytes.{edge_bytes}
use Rattle.drawing.proofs.Drawing.write_plan.Given as goal

abbrev pub invariant-loop-i : goal.invariant-loop-i
invariant-loop-i l =
    (l.at ≡ l.initial.at + length (edge_bytes (rows l.self.one l.self.two l.i))) × (l.out ≡ put_at l.initial.out l.initial.at (edge_bytes (rows l.self.one l.self.two l.i))) × (length l.out ≡ length l.initial.out) × (l.at ≤ l.initial.at + 10 * l.i)
