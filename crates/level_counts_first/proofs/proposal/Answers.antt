use Rattle.std.proofs.Common.{rules}
use Rattle.std.proofs.iter.runs.Sources.{ranges}
use Rattle.level_counts.proofs.Values.{value_found}
use Rattle.level_counts_first.proofs.proposal.Goals as goal

pub returns : goal.returns
returns c = value_found _ _ _ (search (rules, ranges))
