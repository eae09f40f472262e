use Rattle.std.proofs.Common.{◌≡◌, ℕ, ◌<◌, ◌≤◌, eqb, get_or}
use Rattle.base.specs.Sets.{bit}
use Rattle.marks.proofs.only.Given as goal

abbrev pub invariant-loop-number : goal.invariant-loop-number
invariant-loop-number l = record {
  done : (y : ℕ) → y < l.number-index → get_or l.m y 0 ≡ bit (eqb (get_or l.initial.m y 0) l.k);
  left : (y : ℕ) → l.number-index ≤ y → get_or l.m y 0 ≡ get_or l.initial.m y 0;
}
