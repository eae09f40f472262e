-- Every choice of the rules is made as its row says: each row is computed.
use mathlib.Core.Path.{refl}
use lib.Count.{ones, ones_in}
use Rattle.base.specs.Pick.{smallest}
use Rattle.base.specs.Sets.{count}
use Rattle.base.specs.Every.{Every}
use Rattle.senders.specs.Senders.{with_sender, union_over}
use Rattle.level.specs.Level.{slot, senders, with_heard}
use Rattle.level.specs.Counts.{other_echoes, may_propose, proposed, digit_echoes, split_at, split, echoed_by, second_proposed, echoed_values, sided}
use Rattle.level.specs.Rules.{rule1, rule2, rule3, rule4, rule5, rule6, rule7, rule8, rule9, rule10, rule11, rule12, rule13, rule14}
use Rattle.vectors.specs.Sums.{hearing}
use Rattle.vectors.specs.Choices.{Chosen, choices, two, three}
use Rattle.vectors.proofs.Table.{◌and◌}

pub chosen : Every Chosen choices
unfolding
    choices hearing two three ones ones_in smallest count with_sender union_over slot senders with_heard other_echoes may_propose proposed digit_echoes split_at split echoed_by second_proposed echoed_values sided rule1 rule2 rule3 rule4 rule5 rule6 rule7 rule8 rule9 rule10 rule11 rule12 rule13 rule14
chosen =
    -- rule 1
    (refl, refl) and (refl, refl)
    -- rule 2
    and (refl, refl) and (refl, refl) and (refl, refl) and (refl, refl) and (refl, refl) and (refl, refl)
    -- rule 3
    and (refl, refl) and (refl, refl) and (refl, refl) and (refl, refl) and (refl, refl) and (refl, refl)
    -- rule 4
    and (refl, refl) and (refl, refl) and (refl, refl) and (refl, refl) and (refl, refl) and (refl, refl) and (refl, refl) and (refl, refl) and (refl, refl) and (refl, refl)
    -- rule 5
    and (refl, refl) and (refl, refl) and (refl, refl) and (refl, refl)
    -- rule 6
    and (refl, refl) and (refl, refl) and (refl, refl) and (refl, refl) and (refl, refl) and (refl, refl)
    -- rule 7
    and (refl, refl) and (refl, refl) and (refl, refl) and (refl, refl) and (refl, refl) and (refl, refl) and (refl, refl) and (refl, refl)
    -- rule 8
    and (refl, refl) and (refl, refl) and (refl, refl) and (refl, refl) and (refl, refl) and (refl, refl) and (refl, refl) and (refl, refl) and (refl, refl) and (refl, refl) and (refl, refl) and (refl, refl)
    -- rule 9
    and (refl, refl) and (refl, refl)
    -- rule 10
    and (refl, refl) and (refl, refl) and (refl, refl) and (refl, refl) and (refl, refl)
    -- rule 11
    and (refl, refl) and (refl, refl) and (refl, refl)
    -- rule 12
    and (refl, refl) and (refl, refl) and (refl, refl) and (refl, refl) and (refl, refl) and (refl, refl)
    -- rule 13
    and (refl, refl) and (refl, refl) and (refl, refl) and (refl, refl)
    -- rule 14
    and (refl, refl) and (refl, refl) and (refl, refl) and (refl, refl) and (refl, refl) and (refl, refl)
    and tt
