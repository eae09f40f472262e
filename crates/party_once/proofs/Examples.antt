-- A record without the places for second echoes, of which the statement would be false.
use mathlib.Core.Path.{◌≡◌, refl}
use mathlib.Core.Bool.{true, false}
use mathlib.Core.List.Memᴰ
use mathlib.Core.List.{List, [], ◌∷◌}
use lib.Count.{ones, ones_in}
use lib.Dec.{T}
use lib.ListN.{length, replicate}
use Rattle.base.specs.Limits.{sending_levels, level_count}
use Rattle.base.specs.Pick.{smallest}
use Rattle.base.specs.Sets.{count}
use Rattle.senders.specs.Senders.{is_in, with_sender, union_over}
use Rattle.tree.specs.Edges.{label, joined, adjacent, ends}
use Rattle.tree.specs.Component.{upto, without, part, heavy, light, centre, neighbours, degree, rank, neighbour, side, gateway, port}
use Rattle.tree.specs.Path.{path_edges}
use Rattle.message.specs.declared.Body.TheVariants.{Centre}
use Rattle.journal.specs.declared.Record.{Record}
use Rattle.journal.specs.declared.Record.TheVariants.{Taken}
use Rattle.plan.specs.Positions.{edges_of, range_plan}
use Rattle.plan.specs.Valid.{all_zero, plan_valid}
use Rattle.level.specs.Level.{Level, slot_count, not_yet, no_output, blank_level, slot, senders, held, with_heard}
use Rattle.level.specs.Counts.{other_echoes, may_propose, proposed, digit_echoes, split_at, split, echoed_by, second_proposed, echoed_values, sided}
use Rattle.level.specs.Rules.{rule1, rule2, rule3, rule4, rule5, rule6, rule7, rule8, rule9, rule10, rule11, rule12, rule13, rule14, lowest_rule}
use Rattle.party.specs.Party.{Party, level_at, with_level, component_of, sending, context_of, entering, entered, held_by, hearing}
use Rattle.party.specs.Run.{rule_at, open_at, open_level, after_rule, run_up_to, run, starting, taking}
use Rattle.party.specs.Valid.{every_level, sets_pass, level_passes, party_valid}
use Rattle.party_life.specs.Life.{replayed, lived, Life, made_along}
use Rattle.base.specs.Distinct.{Distinct}

-- level 0 is entered at position 0, the port is echoed, and the first result is 0; there is no place for a second echo
abbrev short : Level
short = record {
  sets = replicate slot_count 0;
  entered = true;
  side = 0;
  position = 0;
  echoed_port = true;
  echoed_none = false;
  proposal = not_yet;
  first = 0;
  echoed = [];
  second_proposal = not_yet;
  result = not_yet;
  sure = false;
  told_centre = false;
  output = no_output;
}

-- a board alone, on three positions
abbrev lone : Party
lone = record { n = 1; t = 0; own = 0; agreement = 0; plan = range_plan 0 2; levels = short ∷ replicate sending_levels blank_level }

-- it takes a message
abbrev taken : List Record
taken = Taken 0 (record { number = 0; level = 0; body = Centre }) ∷ []

-- the record passes question 19 and has all its levels, and the take makes one second echo after the other
pub echoed_again : T (party_valid lone) × (length lone.levels ≡ level_count) × Life lone taken × (Distinct (made_along lone taken) → ⊥)
unfolding
    ones ones_in smallest count label joined adjacent ends upto without part heavy light centre neighbours degree rank neighbour side gateway port path_edges edges_of all_zero plan_valid is_in with_sender union_over slot senders held with_heard other_echoes may_propose proposed digit_echoes split_at split echoed_by second_proposed echoed_values sided rule1 rule2 rule3 rule4 rule5 rule6 rule7 rule8 rule9 rule10 rule11 rule12 rule13 rule14 lowest_rule level_at with_level component_of sending context_of entering entered held_by hearing rule_at open_at open_level after_rule run_up_to run starting taking every_level sets_pass level_passes party_valid replayed lived
echoed_again = (tt, refl, (tt, tt), λ d. d.0 (Memᴰ.head refl))
