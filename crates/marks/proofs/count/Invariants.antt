-- As many as are marked below x.
use mathlib.Core.Path.{◌≡◌}
use Rattle.base.specs.Sets.{count}
use Rattle.marks.specs.Marks.{marked}
use Rattle.marks.proofs.count.Given as goal

abbrev pub invariant-loop-x : goal.invariant-loop-x
invariant-loop-x l = l.r ≡ count l.x (marked l.m)
