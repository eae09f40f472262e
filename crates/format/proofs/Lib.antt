pub mod Fields
pub mod Reading
pub mod Saying
pub mod Faults
pub mod Theorem
