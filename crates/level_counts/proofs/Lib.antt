pub mod Values
pub mod Candidates
pub mod Slots
