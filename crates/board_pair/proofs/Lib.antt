pub mod Questions
pub mod Theorem
