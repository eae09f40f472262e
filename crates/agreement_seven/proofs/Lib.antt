pub mod Making
pub mod Seven
pub mod Liar
pub mod OneLevel
pub mod Standing
pub mod Following
pub mod Unbounded
