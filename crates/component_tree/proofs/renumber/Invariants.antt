-- The positions below x have their numbers.
use Rattle.std.proofs.Common.{◌≡◌, ℕ, ◌<◌, ◌≤◌, get_or}
use Rattle.base.specs.Pick.{pick}
use Rattle.marks.specs.Marks.{marked}
use Rattle.component_tree.proofs.renumber.Given as goal

abbrev pub invariant-loop-x : goal.invariant-loop-x
invariant-loop-x l = record {
  done : (y : ℕ) → y < l.x → get_or l.ports y 0 ≡ pick (marked l.initial.ports y) (get_or l.table (get_or l.labels y 0) 0) 0;
  left : (y : ℕ) → l.x ≤ y → get_or l.ports y 0 ≡ get_or l.initial.ports y 0;
}
