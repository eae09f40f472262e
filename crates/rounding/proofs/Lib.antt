pub mod Steps
pub mod Quotients
pub mod Products
pub mod Only
pub mod Theorem
pub mod Answers
pub mod Clamps
pub mod Halves
