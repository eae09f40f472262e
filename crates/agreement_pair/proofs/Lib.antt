pub mod Parties
pub mod Steps
pub mod Theorem
pub mod Completion
pub mod Example
pub mod Claims
pub mod Inputs
pub mod Premises
