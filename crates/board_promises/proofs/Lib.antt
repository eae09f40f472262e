pub mod Counts
pub mod Given
pub mod Outgoing
pub mod Refused
pub mod Restored
pub mod Starts
pub mod Verdicts
