-- Plans and parties are as the rows say: each row is computed.
use mathlib.Core.Path.{refl}
use lib.Count.{ones, ones_in}
use Rattle.base.specs.Pick.{smallest}
use Rattle.base.specs.Sets.{count}
use Rattle.base.specs.Every.{Every}
use Rattle.tree.specs.Edges.{label, joined, adjacent, ends, edges_at}
use Rattle.tree.specs.Growth.{reached, others, branched, target, absorbed, growth_order}
use Rattle.tree.specs.Component.{upto, without, part, heavy, light, centre, neighbours, degree, rank, neighbour, side, gateway, port}
use Rattle.tree.specs.Path.{path_edges}
use Rattle.varint.specs.Varint.{pieces}
use Rattle.varint.specs.Reading.{pieces_at}
use Rattle.edges.specs.Reading.{edges_from}
use Rattle.edges.specs.Rows.{rows}
use Rattle.plan.specs.Positions.{edges_of, column}
use Rattle.plan.specs.Reading.{plan_from}
use Rattle.senders.specs.Senders.{is_in, with_sender, union_over}
use Rattle.level.specs.Level.{slot, senders, held, with_heard}
use Rattle.level.specs.Counts.{other_echoes, may_propose, proposed, digit_echoes, split_at, split, echoed_by, second_proposed, echoed_values, sided}
use Rattle.level.specs.Rules.{rule1, rule2, rule3, rule4, rule5, rule6, rule7, rule8, rule9, rule10, rule11, rule12, rule13, rule14, lowest_rule}
use Rattle.party.specs.Party.{level_at, with_level, component_of, sending, context_of, entering, entered, held_by, hearing}
use Rattle.party.specs.Run.{rule_at, open_at, open_level, after_rule, run_up_to, run, starting, taking}
use Rattle.party_life.specs.Life.{replayed, lived}
use Rattle.vectors.specs.Choices.{two}
use Rattle.vectors.specs.Parties.{Stands, cases, listing, passing}
use Rattle.vectors.proofs.Table.{◌and◌}

pub stand : Every Stands cases
unfolding
    cases listing passing two pieces pieces_at ones ones_in smallest count label joined adjacent ends edges_at reached others branched target absorbed growth_order upto without part heavy light centre neighbours degree rank neighbour side gateway port path_edges edges_from rows edges_of column plan_from is_in with_sender union_over slot senders held with_heard other_echoes may_propose proposed digit_echoes split_at split echoed_by second_proposed echoed_values sided rule1 rule2 rule3 rule4 rule5 rule6 rule7 rule8 rule9 rule10 rule11 rule12 rule13 rule14 lowest_rule level_at with_level component_of sending context_of entering entered held_by hearing rule_at open_at open_level after_rule run_up_to run starting taking replayed lived
stand =
    (refl, refl, refl) and (refl, refl, refl) and (refl, refl, refl) and (refl, refl, refl)
    and (refl, refl)
    and (refl, refl) and (refl, refl) and (refl, refl)
    and (refl, refl)
    and (refl, refl) and (refl, refl)
    and (refl, refl)
    and (refl, refl) and (refl, refl) and (refl, refl)
    and (refl, refl, refl)
    and tt
