pub mod Level
pub mod Counts
pub mod Rules
pub mod Tie
pub mod Inner
