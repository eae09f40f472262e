pub mod Plans
pub mod Refusals
pub mod Theorem
pub mod Examples
