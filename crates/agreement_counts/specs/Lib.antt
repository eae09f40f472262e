pub mod Demand
pub mod Completion
pub mod Example
pub mod Claims
