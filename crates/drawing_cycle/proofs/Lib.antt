pub mod Listed
pub mod Theorem
