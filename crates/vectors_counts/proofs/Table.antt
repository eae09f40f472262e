-- Every row of the table of calls holds: all are computed at once.
use mathlib.Core.Path.{refl}
use lib.Count.{ones, ones_in}
use Rattle.base.specs.Pick.{smallest}
use Rattle.base.specs.Put.{put_at}
use Rattle.base.specs.Sets.{count}
use Rattle.base.specs.Every.{Every}
use Rattle.rounding.specs.Rounding.{nearest_step, remainder, count_answer}
use Rattle.varint.specs.Varint.{pieces}
use Rattle.varint.specs.Reading.{pieces_at}
use Rattle.format.specs.Reading.{field_at}
use Rattle.tree.specs.Edges.{label, joined, adjacent, ends, edges_at}
use Rattle.tree.specs.Component.{upto, without, part, heavy, light, centre, neighbours, degree, rank, neighbour, side, gateway, port}
use Rattle.tree.specs.Path.{path_edges}
use Rattle.tree.specs.Growth.{reached, others, branched, absorbed, growth_order}
use Rattle.edges.specs.Reading.{edges_from}
use Rattle.edges.specs.Rows.{rows}
use Rattle.plan.specs.Positions.{edges_of, reading_of, column}
use Rattle.plan.specs.Reading.{plan_from, settled_plan}
use Rattle.plan.specs.Valid.{row_fits, rows_fit, all_zero, plan_valid}
use Rattle.message.specs.Message.{message_bytes}
use Rattle.senders.specs.Senders.{union_over}
use Rattle.level.specs.Level.{slot, senders}
use Rattle.level.specs.Counts.{other_echoes, may_propose, proposed, digit_echoes, split_at, split}
use Rattle.level.specs.Rules.{rule1, rule2, rule3, rule4, rule5, rule6, rule7, rule8, rule9, rule10, rule11, rule12, rule13, rule14, lowest_rule}
use Rattle.journal.specs.Journal.{record_bytes}
use Rattle.party.specs.Party.{level_at, with_level, component_of, sending, context_of, entering, entered}
use Rattle.party.specs.Run.{rule_at, open_at, open_level, after_rule, run_up_to, run, starting, bytes_of}
use Rattle.party.specs.Valid.{every_level, sets_pass, level_passes, party_valid}
use Rattle.board_calls.specs.Answers.{position_of, answer_of}
use Rattle.board_calls.specs.Calls.{set_up_of, start_questions}
use Rattle.board_calls.specs.Counts.{start_count_questions, count_questions}
use Rattle.vectors_counts.specs.Rows.{computed, said, Holds, table}
use Rattle.vectors_counts.proofs.Each.{each}

pub asked : Every Holds table
unfolding
    table ones ones_in smallest put_at count nearest_step remainder count_answer pieces pieces_at field_at label joined adjacent ends edges_at upto without part heavy light centre neighbours degree rank neighbour side gateway port path_edges reached others branched absorbed growth_order edges_from rows edges_of reading_of column plan_from settled_plan row_fits rows_fit all_zero plan_valid message_bytes union_over slot senders other_echoes may_propose proposed digit_echoes split_at split rule1 rule2 rule3 rule4 rule5 rule6 rule7 rule8 rule9 rule10 rule11 rule12 rule13 rule14 lowest_rule record_bytes level_at with_level component_of sending context_of entering entered rule_at open_at open_level after_rule run_up_to run starting bytes_of every_level sets_pass level_passes party_valid position_of answer_of set_up_of start_questions start_count_questions count_questions
asked = each computed said table refl
