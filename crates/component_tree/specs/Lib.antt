pub mod Inner
pub mod Tree
