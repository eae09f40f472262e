-- The laws of the vote's machine that other crates use, gathered from the files of this folder.

-- ---- the order

pub use Rattle.vote_machine.proofs.Order.{le_refl, le_trans, kept_le, le_keeps, le_sent}
-- an entered level: entered, sending, and what its rules see
pub use Rattle.vote_machine.proofs.Order.{le_entered, le_sending, le_same, le_next, le_later}
pub use Rattle.vote_machine.proofs.Heard.{le_heard}
-- ---- what holds of every party

-- of a new one, and kept by messages, starts, rules and calls
pub use Rattle.vote_machine.proofs.Kept.{new_entered, new_sending, regular_new, regular_hearing, regular_entered, regular_step, regular_run, regular_starting, regular_taking, regular_called}
-- each of these rises
pub use Rattle.vote_machine.proofs.Kept.{le_starting, le_taking, le_called}
-- after a call no rule applies
pub use Rattle.vote_machine.proofs.Quiet.{inv_new, inv_run, inv_starting, inv_taking, inv_called}
-- a level that sends: its context has values, and it is at rest
pub use Rattle.vote_machine.proofs.Steps.{valued}
pub use Rattle.vote_machine.proofs.Quiet.{at_rest}
-- ---- the machine

pub use Rattle.vote_machine.proofs.Lawful.{seat_low, seat_own, Passes, seat_settings}
unfoldable pub use Rattle.vote_machine.proofs.Lawful.{vote_lawful}
-- accepted calls
pub use Rattle.vote_machine.proofs.Kept.{called_cases, called_accepted, called_refused, start_fits, take_fits, start_accepted, take_accepted}
pub use Rattle.vote_machine.proofs.Lives.{fits_accepts, replayed_called}
-- ---- messages

-- what a call makes is what its party has made and the one before had not
pub use Rattle.vote_machine.proofs.Made.{Tells, tells_resting, tells_run, tells_starting, tells_taking, tells_called, sent_proper}
-- what is heard after a call was heard before or taken
pub use Rattle.vote_machine.proofs.Heard.{heard_new, heard_start, heard_taking, heard_take, taking_heard}
-- ---- lives

pub use Rattle.vote_machine.proofs.Lives.{regular_replayed, inv_replayed, le_replayed, tells_replayed, regular_lived, inv_lived, le_record, le_lived}
-- what was made, taken and started with, by the records of a life
pub use Rattle.vote_machine.proofs.Lives.{made_lived, lived_made}
pub use Rattle.vote_machine.proofs.Records.{taken_lived, lived_taken, starting_at, started_taking, start_lived, lived_start}
-- and of one from set-up on
pub use Rattle.vote_machine.proofs.Records.{made_sent, taken_heard, start_entered}
-- the machine's state is the party of the records
pub use Rattle.vote_machine.proofs.Records.{after_lived}
