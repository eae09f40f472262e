-- Every row of the table holds; a line of the proof for each part of the table.
use mathlib.Core.Path.{refl}
use lib.Count.{ones, ones_in}
use Rattle.base.specs.Pick.{smallest}
use Rattle.base.specs.Sets.{count}
use Rattle.base.specs.Every.{Every}
use Rattle.varint.specs.Varint.{pieces}
use Rattle.varint.specs.Reading.{pieces_at}
use Rattle.format.specs.Reading.{field_at}
use Rattle.tree.specs.Edges.{label, joined, adjacent, ends, edges_at}
use Rattle.tree.specs.Component.{upto, without, part, heavy, light, centre, neighbours, degree, neighbour, side, port}
use Rattle.tree.specs.Path.{path_edges}
use Rattle.edges.specs.Reading.{edges_from}
use Rattle.plan.specs.Positions.{edges_of}
use Rattle.plan.specs.Reading.{plan_from, settled_plan}
use Rattle.plan.specs.Valid.{all_zero, plan_valid}
use Rattle.message.specs.Message.{message_bytes}
use Rattle.message.specs.Reading.{message_at, exact_message}
use Rattle.senders.specs.Senders.{is_in, with_sender, union_over}
use Rattle.level.specs.Level.{slot, senders, held, with_heard}
use Rattle.level.specs.Counts.{other_echoes, may_propose, proposed, digit_echoes, split_at, split}
use Rattle.level.specs.Rules.{rule1, rule2, rule3, rule4, rule5, rule6, rule7, rule8, rule9, rule10, rule11, rule12, rule13, rule14, lowest_rule}
use Rattle.journal.specs.Journal.{record_bytes}
use Rattle.journal.specs.Reading.{record_at}
use Rattle.party.specs.Party.{level_at, with_level, component_of, sending, context_of, entering, entered, held_by, hearing}
use Rattle.party.specs.Run.{rule_at, open_at, open_level, after_rule, run_up_to, run, starting, taking}
use Rattle.party.specs.Valid.{every_level, sets_pass, level_passes, party_valid}
use Rattle.party_life.specs.Life.{replayed}
use Rattle.board_calls.specs.Answers.{position_of}
use Rattle.board_calls.specs.Calls.{set_up_of, start_questions, take_questions, answered_of}
use Rattle.board_calls.specs.Restore.{replay_from, restore_questions}
use Rattle.vectors_questions.specs.Rows.{Holds, table}

infixr 20 ◌and◌
pub ◌and◌ : {A B : Type 0} → A → B → A × B
a and b = (a, b)

pub asked : Every Holds table
unfolding
    table ones ones_in smallest count pieces pieces_at field_at label joined adjacent ends edges_at edges_from upto without part heavy light centre neighbours degree neighbour side port path_edges edges_of plan_from settled_plan all_zero plan_valid message_bytes message_at exact_message is_in with_sender union_over slot senders held with_heard other_echoes may_propose proposed digit_echoes split_at split rule1 rule2 rule3 rule4 rule5 rule6 rule7 rule8 rule9 rule10 rule11 rule12 rule13 rule14 lowest_rule record_bytes record_at level_at with_level component_of sending context_of entering entered held_by hearing rule_at open_at open_level after_rule run_up_to run starting taking every_level sets_pass level_passes party_valid replayed position_of set_up_of start_questions take_questions answered_of replay_from restore_questions
asked =
    refl and refl and refl and refl
    and refl and refl and refl and refl and refl and refl and refl and refl and refl and refl and refl and refl and (refl, refl) and refl and refl and refl and refl and refl and refl and refl and (refl, refl)
    and refl and refl and refl and refl and refl and refl and (refl, refl) and refl
    and refl and refl and refl and refl and refl and refl and refl and (refl, refl) and refl and refl and refl and refl and refl and refl and (refl, refl) and refl
    and refl and (refl, refl)
    and refl and refl and refl and refl and refl and refl
    and refl and refl and refl and (refl, refl) and refl and (refl, refl) and refl
    and refl and refl and refl and refl and (refl, refl)
    and refl and refl and refl and refl and refl and refl
    and (refl, refl) and (refl, refl) and (refl, refl) and refl and refl
    and tt
