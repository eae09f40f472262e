-- The set with one more sender.
use mathlib.Core.Path.{ap}
use lib.Bits.{bit_or}
use Rattle.base.specs.Limits.{max_boards}
use Rattle.senders.specs.Senders.{with_sender}
use Rattle.senders.proofs.Laws.{one_shifted}
use Rattle.senders.proofs.add.Goals as goal

pub returns : goal.returns
unfolding with_sender
returns c = ap (bit_or c.args.m) (one_shifted max_boards c.args.s c.requires)
