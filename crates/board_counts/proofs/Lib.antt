pub mod Questions
pub mod Small
pub mod Theorem
