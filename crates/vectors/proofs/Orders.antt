-- The rules go in the order that the rows say: each row is computed.
use mathlib.Core.Path.{refl}
use lib.Count.{ones, ones_in}
use Rattle.base.specs.Pick.{smallest}
use Rattle.base.specs.Sets.{count}
use Rattle.base.specs.Every.{Every}
use Rattle.senders.specs.Senders.{with_sender, union_over}
use Rattle.level.specs.Level.{slot, senders, with_heard}
use Rattle.level.specs.Counts.{other_echoes, may_propose, proposed, digit_echoes, split_at, split, echoed_by, second_proposed, echoed_values, sided}
use Rattle.level.specs.Rules.{rule1, rule2, rule3, rule4, rule5, rule6, rule7, rule8, rule9, rule10, rule11, rule12, rule13, rule14, lowest_rule}
use Rattle.vectors.specs.Choices.{two, three}
use Rattle.vectors.specs.Orders.{Kept, orders}
use Rattle.vectors.proofs.Table.{◌and◌}

pub ordered : Every Kept orders
unfolding
    orders two three ones ones_in smallest count with_sender union_over slot senders with_heard other_echoes may_propose proposed digit_echoes split_at split echoed_by second_proposed echoed_values sided rule1 rule2 rule3 rule4 rule5 rule6 rule7 rule8 rule9 rule10 rule11 rule12 rule13 rule14 lowest_rule
ordered =
    (refl, refl, refl)
    and (refl, refl, refl)
    and (refl, refl, refl)
    and (refl, refl, refl)
    and (refl, refl, refl)
    and (refl, refl, refl)
    and (refl, refl, refl)
    and (refl, refl, refl)
    and (refl, refl, refl)
    and (refl, refl, refl)
    and (refl, refl, refl)
    and (refl, refl, refl)
    and (refl, refl, refl)
    and (refl, refl, refl)
    and (refl, refl, refl)
    and (refl, refl, refl)
    and (refl, refl, refl)
    and (refl, refl, refl)
    and (refl, refl, refl)
    and (refl, refl, refl)
    and tt
