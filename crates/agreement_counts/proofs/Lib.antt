pub mod Readings
pub mod Starts
pub mod Theorem
pub mod Completion
pub mod Inputs
pub mod Example
pub mod Reached
pub mod Claims
