pub mod Groups
pub mod Kinds
