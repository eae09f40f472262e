-- The bounds that other crates use, gathered from the files of this folder.

-- what the bounds ask of a party: question 19, all its levels, and in each a place for every second echo; everything that a board does keeps it
pub use Rattle.party_bounds.proofs.Sized.{Sized, typed_sized, sized_new, sized_hearing, sized_entered, sized_step}
pub use Rattle.party_bounds.proofs.Life.{sized_run, sized_starting, sized_taking, sized_replayed, sized_lived}
-- ---- the measures of a party's first L levels

-- the rules and the messages that can still come, at most 26 and 22 for each level
pub use Rattle.party_bounds.proofs.Steps.{rules_left, messages_left, rules_most, messages_most}
-- a message taken and a start do not raise them
pub use Rattle.party_bounds.proofs.Measures.{Aged}
pub use Rattle.party_bounds.proofs.Sized.{aged_hearing, aged_entered}
pub use Rattle.party_bounds.proofs.Steps.{aged_rules, aged_messages}
-- one rule takes one from the first, and from the second the message that it makes, which is of the table and of the vote
pub use Rattle.party_bounds.proofs.Steps.{open_last, step_rules, step_messages, Proper, step_proper}
-- ---- runs of rules, calls and lives

-- rules made and left, messages made and left
pub use Rattle.party_bounds.proofs.Runs.{Within, within_resting, runs_within, within_bytes}
pub use Rattle.party_bounds.proofs.Life.{run_within, starting_within, taking_within, replayed_within, lived_within}
-- no rule applies in the end, whatever the fuel, if it is enough
pub use Rattle.party_bounds.proofs.Runs.{Quiescent, quiescent_levels, levels_quiescent, quiescent_rest, runs_quiescent, runs_same}
pub use Rattle.party_bounds.proofs.Life.{run_quiescent, starting_quiescent, taking_quiescent, replayed_quiescent, lived_quiescent, new_quiescent, set_up_quiescent}
-- document 01's numbers
pub use Rattle.party_bounds.proofs.Life.{within_rules, outgoing_enough, within_outgoing, set_up_rules}
