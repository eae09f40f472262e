-- The definitions that the run of a script computes with.
use lib.Count.{ones, ones_in}
use Rattle.base.specs.Pick.{smallest}
use Rattle.base.specs.Put.{put_at}
use Rattle.base.specs.Sets.{count}
use Rattle.rounding.specs.Rounding.{nearest_step, count_answer}
use Rattle.varint.specs.Varint.{pieces}
use Rattle.varint.specs.Reading.{pieces_at}
use Rattle.format.specs.Reading.{field_at}
use Rattle.tree.specs.Edges.{label, joined, adjacent, ends, edges_at}
use Rattle.tree.specs.Growth.{reached, others, branched, target, absorbed, growth_order}
use Rattle.edges.specs.Reading.{edges_from}
use Rattle.edges.specs.Rows.{rows}
use Rattle.tree.specs.Component.{upto, without, part, heavy, light, centre, neighbours, degree, rank, neighbour, side, gateway, port}
use Rattle.tree.specs.Path.{path_edges}
use Rattle.plan.specs.Positions.{edges_of, reading_of, column}
use Rattle.plan.specs.Reading.{plan_from, settled_plan}
use Rattle.plan.specs.Valid.{row_fits, rows_fit, all_zero, plan_valid}
use Rattle.message.specs.Message.{message_bytes}
use Rattle.message.specs.Reading.{message_at, exact_message}
use Rattle.senders.specs.Senders.{is_in, with_sender, union_over}
use Rattle.level.specs.Level.{slot, senders, held, with_heard}
use Rattle.level.specs.Counts.{other_echoes, may_propose, proposed, digit_echoes, split_at, split, echoed_by, second_proposed, echoed_values, sided}
use Rattle.level.specs.Rules.{rule1, rule2, rule3, rule4, rule5, rule6, rule7, rule8, rule9, rule10, rule11, rule12, rule13, rule14, lowest_rule}
use Rattle.journal.specs.Journal.{record_bytes}
use Rattle.journal.specs.Reading.{record_at, records_from}
use Rattle.journal.specs.Records.{journal_bytes}
use Rattle.party.specs.Party.{level_at, with_level, component_of, sending, context_of, entering, entered, held_by, hearing}
use Rattle.party.specs.Run.{rule_at, open_at, open_level, after_rule, run_up_to, run, starting, taking}
use Rattle.party.specs.Valid.{every_level, sets_pass, level_passes, party_valid}
use Rattle.party_life.specs.Life.{replayed}
use Rattle.board_calls.specs.Answers.{position_of, answer_of}
use Rattle.board_calls.specs.Calls.{set_up_of, start_questions, take_questions, answered_of}
use Rattle.board_calls.specs.Counts.{start_count_questions, count_questions}
use Rattle.board_calls.specs.Restore.{replay_from, restore_questions}
use Rattle.agreement.specs.History.{kept_calls, board_after}
use Rattle.agreement.specs.Demand.{since_restore}
use Rattle.agreement_histories.specs.Scripts.{followed}
use Rattle.agreement_histories.proofs.Worlds.{not_by, world_after, among, sent_by, same_bytes, all_fit}
use Rattle.agreement_histories.proofs.Passing.{listed}
use Rattle.agreement_histories.proofs.Delivery.{starts_in, has_taken, all_made, all_sent, all_taken, first_then, judging}

-- a proof that unfolds this unfolds all of them
unfoldable pub computing : Unit {0}
unfolding ones ones_in smallest put_at count pieces pieces_at field_at label joined adjacent ends edges_at reached others branched target absorbed growth_order edges_from rows upto without part heavy light centre neighbours degree rank neighbour side gateway port path_edges edges_of reading_of column plan_from settled_plan row_fits rows_fit all_zero plan_valid message_bytes message_at exact_message is_in with_sender union_over slot senders held with_heard other_echoes may_propose proposed digit_echoes split_at split echoed_by second_proposed echoed_values sided rule1 rule2 rule3 rule4 rule5 rule6 rule7 rule8 rule9 rule10 rule11 rule12 rule13 rule14 lowest_rule record_bytes record_at journal_bytes records_from level_at with_level component_of sending context_of entering entered held_by hearing rule_at open_at open_level after_rule run_up_to run starting taking every_level sets_pass level_passes party_valid replayed position_of answer_of set_up_of start_questions take_questions answered_of nearest_step count_answer start_count_questions count_questions replay_from restore_questions kept_calls board_after since_restore followed not_by world_after among sent_by same_bytes all_fit listed starts_in has_taken all_made all_sent all_taken first_then judging
computing = tt
