-- The laws of parties that other crates use, gathered from the files of this folder, with the definitions that they speak of.

pub use Rattle.party_laws.specs.Inner.{Formed, SameBoard, Unused, Fresh, Grown}
-- ---- one level replaced

-- the new level, and the others; what holds of all; a field that stays; a level put back
pub use Rattle.party_laws.proofs.Levels.{level_same, level_other, level_all, level_field, level_past, level_back}
-- the settings, the plan and the number of levels stay
pub use Rattle.party_laws.proofs.Levels.{board_refl, board_trans, board_with, board_entering}
-- components: the same where the sides are, where the side of the new level is the old one's, and above it
pub use Rattle.party_laws.proofs.Levels.{component_same, component_side, component_above, whole_component, next_component}
-- a level entered: its record, the others, the components above, and its own, which is the side said
pub use Rattle.party_laws.proofs.Levels.{entry_level, entry_other, entry_above, entry_whole, entry_component, descend_component}
-- ---- question 19

-- part by part
pub use Rattle.party_laws.proofs.Valid.{Value, Output, Contents, Entry, Place, Holds, Settings, Valid, valid→, →valid, settings→, →settings}
-- a valid plan is a tree
pub use Rattle.plan_laws.proofs.Shape.{Shape, shape}
-- what it is to send
pub use Rattle.party_laws.proofs.Components.{sending_entered, sending_three, entered_sending, entered_below}
-- ---- a party that passes question 19 and has all its levels

pub use Rattle.party_laws.proofs.Formed.{EnteredLevel, SendingLevel}
-- levels that send are a prefix, and so are those that are entered; the level before an entered one sends
pub use Rattle.party_laws.proofs.Formed.{sending_before, entered_before, entered_down}
-- what is known of each level
pub use Rattle.party_laws.proofs.Formed.{level_holds, first_limit, result_limit, level_limits, entered_level, entered_nested, sending_level, position_output, context_centre}
-- ---- question 19 is kept

pub use Rattle.party_laws.proofs.Formed.{formed_new, formed_hearing, formed_entered, formed_step, formed_runs, formed_run, formed_starting, formed_taking}
-- what every rule keeps, runs, starts and takes keep
pub use Rattle.party_laws.proofs.Runs.{open_level_lem, runs_keep, run_keeps, starting_keeps, taking_keeps}
-- a rule changes its level's record by a move, or enters the next level
pub use Rattle.party_laws.proofs.Moves.{open_sending, open_move}
pub use Rattle.party_laws.proofs.Kept.{Step, changes, enters, open_step}
-- ---- what stays as it is

-- settings, plan, and the entered flag, side and position of an entered level; and the sets, where nothing is heard
pub use Rattle.party_laws.proofs.Kept.{Keeps, keeps_refl, keeps_trans, SameSets}
pub use Rattle.party_laws.proofs.Kept.{step_kept, runs_kept, run_kept, starting_kept, taking_kept, keeps_hearing, keeps_entered, sets_entered}
-- a message that is held changes nothing; after any other the sets are those with it
pub use Rattle.party_laws.proofs.Kept.{hearing_held, taking_sets}
-- an entered level stays over its component, sends if it did, and its rules see the same, but for the next level
pub use Rattle.party_laws.proofs.Formed.{kept_component, kept_sending, kept_context}
-- no rule touched a level that is not entered: of a new party, and kept by all
pub use Rattle.party_laws.proofs.Grown.{fresh_new, fresh_hearing, fresh_entered}
-- so what is there at a level never changes
pub use Rattle.party_laws.proofs.Grown.{grown_refl, grown_trans, grown_hearing, grown_entered, step_grown, runs_grown, run_grown, starting_grown, taking_grown}
-- nor does an output
pub use Rattle.party_laws.proofs.Formed.{output_stays}
