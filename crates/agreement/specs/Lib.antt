pub mod History
pub mod Allowed
pub mod Starts
pub mod Demand
pub mod Ending
pub mod Ranges
pub mod Inner
