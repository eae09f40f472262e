-- `second_levels::chains::deepest` ends: each call goes down a level.
use Rattle.std.proofs.Common.{◌-◌}
use Rattle.second_levels.proofs.chains.+deepest.Given as goal

abbrev pub decreases-deepest : goal.decreases-deepest
decreases-deepest l = 16 - l.level
