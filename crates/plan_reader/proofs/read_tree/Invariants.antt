-- Where a turn of `read_tree`'s loop begins: the edges read so far, and what is left to read from the reader's offset on.
use mathlib.Core.Path.{◌≡◌}
use Prim.Native.Nat.{◌+◌}
use lib.ListN.{length}
use Rattle.plan.specs.Reading.{tree_from}
use Rattle.plan_reader.proofs.Tree.{Left}
use Rattle.plan_reader.proofs.read_tree.Given as goal

abbrev pub invariant-loop : goal.invariant-loop
invariant-loop l =
    (length l.edges.edges + 1 ≡ l.counter) × (l.edges.vertices ≡ l.end) × (l.reader.bytes ≡ l.fn.reader.bytes)
    × Left l.reader.bytes.now l.edges l.reader.at (tree_from l.fn.reader.bytes.now l.fn.reader.at)
