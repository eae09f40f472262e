pub mod Inputs
pub mod Questions
pub mod Recorded
pub mod Counts
pub mod Replays
pub mod Kept
pub mod Restored
pub mod Parts
