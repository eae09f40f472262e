pub mod Seven
pub mod Liar
pub mod Unbounded
