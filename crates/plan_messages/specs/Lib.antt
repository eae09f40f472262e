pub mod Bound
pub mod Tie
