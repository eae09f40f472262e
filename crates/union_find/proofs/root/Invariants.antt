-- `union_find::root` meets its contract. The loop's invariant: r has x's root. The measure is the number of steps left.
use Rattle.std.proofs.Common.{◌≡◌, ◌<◌}
use Rattle.union_find.specs.Inner.{root, steps}
use Rattle.union_find.proofs.root.Given as goal

abbrev pub invariant-loop-r : goal.invariant-loop-r
invariant-loop-r l = (l.r < l.n) × (root l.n l.up l.r ≡ root l.n l.up l.x)

abbrev pub decreases-loop-r : goal.decreases-loop-r
decreases-loop-r l = steps l.n l.up l.r
