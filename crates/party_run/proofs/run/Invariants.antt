-- `party_run::run` meets its contract. The loop's invariant: so many rules led to the party, their messages are written, and no rule applies
-- below level i. The measure: the rules that can still come, and of each all levels.
use borrow.Author.Rules.{rules}
use Prim.Native.Nat.{◌+◌, ◌-◌, ◌*◌}
use Rattle.base.specs.Limits.{level_count, max_rules}
use Rattle.party.specs.Tie.{as_party}
use Rattle.party_run.proofs.Turns.{Between}
use Rattle.party_run.proofs.run.Given as goal

abbrev pub invariant-loop-i : goal.invariant-loop-i
invariant-loop-i l = Between (as_party l.initial.p) l.from l.initial.out l.p l.chart l.out l.sent l.rules l.i

abbrev pub decreases-loop-i : goal.decreases-loop-i
decreases-loop-i l = (level_count + 1) * (max_rules - l.rules) + (level_count - l.i)
