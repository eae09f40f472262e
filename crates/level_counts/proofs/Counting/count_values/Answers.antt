use Rattle.std.proofs.Common.{rules, arith}
use Rattle.senders.specs.Senders.{at_least}
use Rattle.level_counts.proofs.Values.{values_counted}
use Rattle.level_counts.proofs.Counting.count_values.Goals as goal

pub returns : goal.returns
returns c =
    let a = c.args in
    values_counted (at_least a.k) a.heard.now a.from a.self.degree _ (omega arith) (search rules)
